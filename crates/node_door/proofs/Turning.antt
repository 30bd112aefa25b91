-- Doors that put their groups one after another.
use Rattle.std.proofs.Common.{◌≡◌, ◌∙◌, ◌⊎◌, ℕ, ◌+◌, ◌<◌, ◌≤◌, List, length, get_or, sym, subst, arith, inl, inr}
use Rattle.std.specs.Prelude.{◌↔◌}
use Rattle.std.proofs.Math.ListN.{set, length-set}
use Rattle.std.proofs.lemmas.Bool.{cases_lt}
use Rattle.std.proofs.lemmas.List.{get_or-set_same, get_or-set_other, get_or_default}
use Rattle.page_store.specs.Calls.{Calls}
use Rattle.page_store.specs.House.{House}
use Rattle.page_fan.specs.Stands.{HasReplyToEach, IsReplied}
use Rattle.page_fan.specs.declared.stand.Put.{Put}
use Rattle.page_fan.specs.declared.stand.Stand.{Stand}

-- the door of this provider, which was at the stand `old`, put its group, and its replies lie in the tray
pub record HasPut {D : Type 0} (is_true : D → Type 0) (faults : D → ℕ) (called : D → D → Type 0) (houses : List House) (page_size : ℕ) (buffer : List ℕ) (puts : List Put) (provider : ℕ) (old new : Stand D) : Type 0 where
  pub truth : is_true old.door ↔ is_true new.door
  pub replies : IsReplied houses page_size buffer provider (faults old.door) faults new
  pub each : HasReplyToEach puts provider old new
  pub calls : Calls called (length new.tray.items) old.door new.door

-- the stands before a place changed, each as this says, and the others are as they were
pub record ChangedTo {S : Type 0} (Changes : ℕ → S → S → Type 0) (at : ℕ) (old new : List S) : Type 0 where
  pub long : length new ≡ length old
  pub rest : (k : ℕ) (d : S) → at ≤ k → get_or new k d ≡ get_or old k d
  pub done : (k : ℕ) (d : S) → k < at → Changes (k + 1) (get_or old k d) (get_or new k d)

-- the stand at the next place changed
pub changed_next : {S : Type 0} (Changes : ℕ → S → S → Type 0) (old mid : List S) (at : ℕ) (e now : S) → at < length mid → ChangedTo Changes at old mid → Changes (at + 1) (get_or mid at e) now → ChangedTo Changes (at + 1) old (set mid at now)
changed_next {S} Changes old mid at e now within so_far change = record {
  long = length-set mid at now ∙ so_far.long;
  rest = λ k d later. get_or-set_other mid at k now d (λ same. omega (arith, same, later)) ∙ so_far.rest k d (omega (arith, later));
  done = λ k d before. go k d (cases_lt k at) before;
}
  where
    go : (k : ℕ) (d : S) → (k < at) ⊎ (at ≤ k) → k < at + 1 → Changes (k + 1) (get_or old k d) (get_or (set mid at now) k d)
    go k d (inl less) before = subst (λ (x : S). Changes (k + 1) (get_or old k d) x) (sym (get_or-set_other mid at k now d (λ same. omega (arith, same, less)))) (so_far.done k d less)
    go k d (inr more) before =
        let here : k ≡ at = omega (arith, more, before) in
        subst (λ (j : ℕ). Changes (j + 1) (get_or old j d) (get_or (set mid at now) j d)) (sym here)
        (subst (λ (x : S). Changes (at + 1) (get_or old at d) x) (sym (get_or-set_same mid at now d within))
        (subst (λ (x : S). Changes (at + 1) x now) (get_or_default mid at e d within ∙ so_far.rest at d (omega arith)) change))
