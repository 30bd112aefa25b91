-- What it means that touched pages meet a range.
use Rattle.std.proofs.Common.{◌≡◌, ◌⊎◌, ◌↔◌, ℕ, ◌+◌, ◌*◌, ◌/◌, ◌<◌, ◌≤◌, arith, inl, inr, refl, sym, ◌∙◌, true, false, Bool}
use Rattle.std.specs.Prelude.{IsTrue}
use Rattle.std.proofs.lemmas.Bool.{cases_lt}
use Rattle.std.proofs.lemmas.Bool.Decides.{nat_tests}
use Rattle.std.proofs.lemmas.Nat.{mul-le, le-div, div_below}
use Rattle.std.proofs.Math.Nat.{mul-lt-mul_of_pos_right}
use Rattle.tree_geom.specs.declared.range.Range.{Range}
use Rattle.tree_geom.specs.declared.touch.Touch.{Touch}
use Rattle.tree_geom.specs.Laws.{MeetsIsTrue, MeetsIsFalse, MeetsOrNot}
use Rattle.tree_geom.specs.Geometry.{Meets, meets_of, SharesByte}

pub meets_true : MeetsIsTrue
meets_true p t r h = grind (arith, nat_tests)

pub from_meets : (p : ℕ) (t : Touch) (r : Range) → meets_of p t r ≡ true → Meets p t r
from_meets p t r h = (grind (arith, nat_tests), grind (arith, nat_tests), grind (arith, nat_tests))

pub bool_cases : (b : Bool) → (b ≡ true) ⊎ (b ≡ false)
bool_cases true = inl refl
bool_cases false = inr refl

pub meets_cases : MeetsOrNot
meets_cases p t r =
    elim (bool_cases (meets_of p t r)) [
      | inl e ↦ inl (from_meets p t r e)
      | inr e ↦ inr (λ m. let f : meets_of p t r ≡ true = meets_true p t r m in cc)
    ]

pub meets_false : MeetsIsFalse
meets_false p t r h =
    elim (bool_cases (meets_of p t r)) [
      | inl e ↦ absurd (h (from_meets p t r e))
      | inr e ↦ e
    ]

-- a test with the value of meets_of tells whether the pages meet the range
pub told : (p : ℕ) (t : Touch) (r : Range) (b : Bool) → b ≡ meets_of p t r → IsTrue b ↔ Meets p t r
told p t r b e = (λ h. from_meets p t r (sym e ∙ h), λ m. e ∙ meets_true p t r m)

-- the first byte of the range in the touched pages: the range's own first byte, or that of page t.first
shared : (p : ℕ) (t : Touch) (r : Range) → 1 ≤ p → t.first ≤ t.last → Meets p t r → SharesByte p t r
shared p t r pos ordered m =
    elim (cases_lt r.offset (t.first * p)) [
      | inl before ↦ (
        t.first * p,
        omega arith,
        m.0,
        le-div t.first (t.first * p) p pos (omega arith),
        (let below : t.first < t.last + 1 = omega arith in let e : t.first * p / p < t.last + 1 = div_below (t.first * p) p (t.last + 1) pos (mul-lt-mul_of_pos_right below pos) in omega arith),
      )
      | inr after ↦ (
        r.offset,
        omega arith,
        omega (arith, m.2),
        le-div t.first r.offset p pos after,
        (let e : r.offset / p < t.last + 1 = div_below r.offset p (t.last + 1) pos m.1 in omega arith),
      )
    ]

meets_there : (p : ℕ) (t : Touch) (r : Range) → 1 ≤ p → SharesByte p t r → Meets p t r
meets_there p t r pos (b, from, to, first, last) =
    let low : t.first * p ≤ b / p * p = mul-le t.first p (b / p) p first (omega arith) in
    let high : (b / p + 1) * p ≤ (t.last + 1) * p = mul-le (b / p + 1) p (t.last + 1) p (omega arith) (omega arith) in
    let in_page : b < (b / p + 1) * p = omega arith in
    (omega arith, omega arith, omega arith)

pub tells_shared : (p : ℕ) (t : Touch) (r : Range) (b : Bool) → 1 ≤ p → b ≡ meets_of p t r → t.first ≤ t.last → IsTrue b ↔ SharesByte p t r
tells_shared p t r b pos e ordered =
    (λ h. shared p t r pos ordered ((told p t r b e).0 h), λ s. (told p t r b e).1 (meets_there p t r pos s))
