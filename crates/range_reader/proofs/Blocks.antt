-- Marks that are looked at block by block.
use Rattle.std.proofs.Common.{◌≡◌, refl, ℕ, ◌+◌, ◌-◌, ◌<◌, ◌≤◌, ◌∙◌, sym, Bool, true, false, List, length, take, drop, get_or, ap, arith, inl, inr}
use mathlib.Core.Bool.{beq, ◌||◌}
use Rattle.std.proofs.lemmas.Bool.{cases_lt, false≢true}
use Rattle.std.proofs.lemmas.List.{get_or-take, get_or-drop, length-take-le, length-drop}

-- none of the marks before a block is this, and none of its m, which are n
pub none_further : (marks : List Bool) (from start n m : ℕ) (w : Bool) → start + n ≤ length marks → m ≡ n
    → ((x : ℕ) → from ≤ x → x < start → get_or marks x false ≡ w → ⊥)
    → ((x : ℕ) → x < length (take m (drop start marks)) → get_or (take m (drop start marks)) x false ≡ w → ⊥)
    → (x : ℕ) → from ≤ x → x < start + n → get_or marks x false ≡ w → ⊥
none_further marks from start n m w fits is before here x le lt at =
    elim (cases_lt x start) [
      | inl below ↦ before x le below at
      | inr past ↦
          let k : ℕ = x - start in
          let e : start + k ≡ x = omega arith in
          let count : length (take m (drop start marks)) ≡ m = length-take-le m (drop start marks) (omega (arith, length-drop start marks)) in
          let same : get_or (take m (drop start marks)) k false ≡ get_or marks x false =
          get_or-take m (drop start marks) k false (omega arith) ∙ (get_or-drop start marks k false ∙ ap (λ i. get_or marks i false) e) in
          here k (omega (arith, count)) (same ∙ at)
    ]

-- marks that compare as different are different
pub differs : (a b : Bool) → beq a b ≡ false → a ≡ b → ⊥
differs true true apart same = absurd (false≢true (sym apart))
differs true false apart same = absurd (false≢true (sym same))
differs false true apart same = absurd (false≢true same)
differs false false apart same = absurd (false≢true (sym apart))

-- of two that are false together each is
neither : (a b : Bool) → (a || b) ≡ false → (a ≡ false) × (b ≡ false)
neither false b e = (refl, e)
neither true b e = absurd (false≢true (sym e))

-- where none of the first i marks is this and mark i differs too, none of the first i + 1 is
pub none_with : (marks : List Bool) (i : ℕ) (found w : Bool) → (found || beq (get_or marks i false) w) ≡ false
    → (found ≡ false → (x : ℕ) → x < i → get_or marks x false ≡ w → ⊥) → (x : ℕ) → x < i + 1 → get_or marks x false ≡ w → ⊥
none_with marks i found w e before x lt at =
    let both : (found ≡ false) × (beq (get_or marks i false) w ≡ false) = neither found (beq (get_or marks i false) w) e in
    elim (cases_lt x i) [
      | inl below ↦ before both.0 x below at
      | inr past ↦ let same : i ≡ x = omega arith in differs (get_or marks i false) w both.1 (ap (λ k. get_or marks k false) same ∙ at)
    ]
