-- Whose passes an owner has got back, once two more came back.
use Rattle.std.proofs.Common.{◌≡◌, ◌⊎◌, inl, inr, ⊎_elim, ℕ, List, [], ◌∷◌, ◌++◌, sym, ap, subst, ◌∙◌, Contains}
use Rattle.std.proofs.lemmas.List.Elements.{Contains-append_left, Contains-push_cases}
use Rattle.blob_model.specs.declared.call.Event.{Event}
use Rattle.turn_lock.specs.History.{entries_by}

-- `ended` came back, and then `unused`
module _ (kept mid last : List ℕ) (ended unused : ℕ) (one : mid ≡ kept ++ ended ∷ []) (two : last ≡ mid ++ unused ∷ []) where
  pub keeps_both : (c : ℕ) → Contains (kept ++ ended ∷ []) c → Contains last c
  keeps_both c there = subst (λ (l : List ℕ). Contains l c) (sym two) (Contains-append_left mid (unused ∷ []) c (subst (λ (l : List ℕ). Contains l c) (sym one) there))

  -- and that caller entered nothing
  pub none_more : (seen : List (ℕ × Event)) → entries_by unused seen ≡ [] → (c : ℕ) → Contains last c → Contains (kept ++ ended ∷ []) c ⊎ (entries_by c seen ≡ [])
  none_more seen none c there =
      ⊎_elim (λ (before : Contains mid c). inl (subst (λ (l : List ℕ). Contains l c) one before)) (λ (this : unused ≡ c). inr (subst (λ (n : ℕ). entries_by n seen ≡ []) this none))
      (Contains-push_cases mid unused c (subst (λ (l : List ℕ). Contains l c) two there))
