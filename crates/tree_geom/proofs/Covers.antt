-- Which pages an update leaves valid bytes of to older leaves.
use Rattle.std.proofs.Common.{◌≡◌, ℕ, ◌+◌, ◌-◌, ◌*◌, ◌/◌, ◌<◌, ◌≤◌, max, min, arith, inl, inr, refl, ap, sym, ◌∙◌, true, false, Bool}
use Rattle.std.specs.Prelude.{◌==◌, ◌&&◌, ◌||◌, not}
use Rattle.std.proofs.lemmas.Bool.{cases_order}
use Rattle.std.proofs.lemmas.Bool.Decides.{nat_tests}
use Rattle.std.proofs.lemmas.Nat.{mul-le}
use Rattle.std.proofs.Math.Nat.{div-mul-le_self, lt-div-mul-add}
use Rattle.tree_geom.specs.Geometry.{covers}
use Rattle.tree_geom.specs.Laws.{TouchesTellCover}

-- a page between the first and the last one is covered
inside_covered : (p at len size i : ℕ) → 1 ≤ p → 1 ≤ len → at + len ≤ size → at / p < i → i < (at + len - 1) / p → covers p at len size i ≡ true
inside_covered p at len size i pos some fits after before =
    let a : at < at / p * p + p = lt-div-mul-add pos in
    let b : (at / p + 1) * p ≤ i * p = mul-le (at / p + 1) p i p (omega arith) (omega arith) in
    let d : (i + 1) * p ≤ (at + len - 1) / p * p = mul-le (i + 1) p ((at + len - 1) / p) p (omega arith) (omega arith) in
    let e : (at + len - 1) / p * p ≤ at + len - 1 = div-mul-le_self (at + len - 1) p in
    let lo : max at (i * p) ≡ i * p = omega arith in
    let hi : min (at + len) ((i + 1) * p) ≡ min size ((i + 1) * p) = omega arith in
    grind (arith, nat_tests, lo, hi)

same_number : (i : ℕ) → (i == i) ≡ true
same_number i = grind (arith, nat_tests)

both : (b : Bool) → ((true && b) || (true && b)) ≡ b
both true = refl
both false = refl

one : (b : Bool) → ((true && b) || false) ≡ b
one true = refl
one false = refl

-- what two tests tell of a number that is one of two, or neither
at_first : (i b : ℕ) (f : ℕ → Bool) → ((i == i && f i) || (i == b && f b)) ≡ f i
at_first i b f =
    elim (cases_order i b) [
      | inl e ↦ rw (← e, same_number i) (both (f i))
      | inr d ↦ (let e : (i == b) ≡ false = grind (arith, nat_tests, d) in rw (e, same_number i) (one (f i)))
    ]

at_last : (i a : ℕ) (f : ℕ → Bool) → ((i == a && f a) || (i == i && f i)) ≡ f i
at_last i a f =
    elim (cases_order i a) [
      | inl e ↦ rw (← e, same_number i) (both (f i))
      | inr d ↦ (let e : (i == a) ≡ false = grind (arith, nat_tests, d) in rw (e, same_number i) refl)
    ]

between : (i a b : ℕ) (f : ℕ → Bool) → a < i → i < b → ((i == a && f a) || (i == b && f b)) ≡ false
between i a b f after before =
    let e : (i == a) ≡ false = grind (arith, nat_tests) in
    let g : (i == b) ≡ false = grind (arith, nat_tests) in
    rw (e, g) refl

pub touches_tell_cover : TouchesTellCover
touches_tell_cover p at len size i pos some fits low high =
    let f : ℕ → Bool = λ n. not (covers p at len size n) in
    elim (cases_order i (at / p)) [
      | inl first ↦ rw (← first) (at_first i ((at + len - 1) / p) f)
      | inr past ↦ elim (cases_order i ((at + len - 1) / p)) [
        | inl last ↦ rw (← last) (at_last i (at / p) f)
        | inr short ↦
            between i (at / p) ((at + len - 1) / p) f (omega (arith, past)) (omega (arith, short))
            ∙ sym (ap not (inside_covered p at len size i pos some fits (omega (arith, past)) (omega (arith, short))))
      ]
    ]
