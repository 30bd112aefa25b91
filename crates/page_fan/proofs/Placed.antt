-- How many puts there are at a provider.
use Rattle.std.proofs.Common.{◌≡◌, ℕ, suc, ◌+◌, ◌*◌, ◌<◌, List, [], ◌∷◌, length, length-append, map, arith, ap, sym, ◌∙◌, refl, inl, inr}
use Rattle.std.specs.Prelude.{◌==◌, cond, count_by}
use Rattle.std.proofs.lemmas.Bool.{cases_eq, eq-eqb, ne_eqb}
use Rattle.std.proofs.lemmas.List.{length-map, get_or-map}
use Rattle.std.proofs.lemmas.List.Sums.{sum_by-cons}
use Rattle.page_fan.specs.declared.stand.Put.{Put}
use Rattle.page_fan.specs.declared.stand.Stand.{Stand}
use Rattle.page_fan.specs.Listed.{puts_at, puts_from}
use Rattle.page_fan.specs.Stands.{group_of, EachPut}
use Rattle.page_fan.specs.Used.{placed_at, CalledAsPlaced}
use Rattle.page_fan.proofs.Group.{group_own, group_other, group_append}

placed_once : (provider at : ℕ) (chosen : List ℕ) → length (group_of provider (puts_at at chosen)) ≡ count_by (λ q. q == provider) chosen
placed_once provider at [] = refl
placed_once provider at (q ∷ chosen) =
    let put : Put = record { provider = q; at = at } in
    let rest = placed_once provider at chosen in
    let count = count_by (λ (p : ℕ). p == provider) chosen in
    let step : count_by (λ (p : ℕ). p == provider) (q ∷ chosen) ≡ cond (q == provider) 1 0 + count = sum_by-cons (λ (p : ℕ). cond (p == provider) 1 0) q chosen in
    elim (cases_eq q provider) [
      | inl own ↦
          let one : suc (length (group_of provider (puts_at at chosen))) ≡ 1 + count = omega (arith, rest) in
          ap length (group_own provider put (puts_at at chosen) own) ∙ (one ∙ sym (step ∙ ap (λ b. cond b 1 0 + count) (eq-eqb q provider own)))
      | inr other ↦
          let none : length (group_of provider (puts_at at chosen)) ≡ 0 + count = omega (arith, rest) in
          ap length (group_other provider put (puts_at at chosen) other) ∙ (none ∙ sym (step ∙ ap (λ b. cond b 1 0 + count) (ne_eqb q provider other)))
    ]

placed_puts : (provider page_size page : ℕ) (placements : List (List ℕ)) → length (group_of provider (puts_from page_size page placements)) ≡ placed_at provider placements
placed_puts provider page_size page [] = refl
placed_puts provider page_size page (chosen ∷ placements) =
    let here = placed_once provider (page * page_size) chosen in
    let rest = placed_puts provider page_size (page + 1) placements in
    ap length (group_append provider (puts_at (page * page_size) chosen) (puts_from page_size (page + 1) placements))
    ∙ (length-append (group_of provider (puts_at (page * page_size) chosen)) (group_of provider (puts_from page_size (page + 1) placements))
    ∙ (omega (arith, here, rest) ∙ sym (sum_by-cons (λ (c : List ℕ). count_by (λ (q : ℕ). q == provider) c) chosen placements)))

module _ {D : Type 0} where
  -- so often each door was called
  pub called_as_placed : (called : D → D → Type 0) (page_size : ℕ) (placements : List (List ℕ)) (old new : List (Stand D)) → length new ≡ length old
      → EachPut called (puts_from page_size 0 placements) old new → CalledAsPlaced called placements (map (λ (s : Stand D). s.door) old) (map (λ (s : Stand D). s.door) new)
  called_as_placed called page_size placements [] new same put = λ k d l. absurd (omega arith)
  called_as_placed called page_size placements (x ∷ rest) new same put = λ k d l.
      let old = x ∷ rest in
      let door : Stand D → D = λ s. s.door in
      let inside : k < length old = omega (arith, l, length-map old door) in
      let there : k < length new = omega (arith, inside, same) in
      rw (get_or-map door old k x d inside, get_or-map door new k x d there, ← placed_puts (k + 1) page_size 0 placements) (put k x there)
