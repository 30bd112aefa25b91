-- Where pages begin and end.
use Rattle.std.proofs.Common.{◌≡◌, ℕ, ◌+◌, ◌-◌, ◌*◌, ◌/◌, ◌^◌, ◌<◌, ◌≤◌, zero, suc, arith, inl, inr, ap, sym, ◌∙◌, true}
use Rattle.std.specs.Prelude.{nat_le, nat_lt, ◌&&◌}
use Rattle.std.proofs.lemmas.Bool.{cases_lt}
use Rattle.std.proofs.lemmas.Bool.Decides.{nat_tests}
use Rattle.std.proofs.lemmas.Nat.{pow-add, mul-le, le-div, div_below}
use Rattle.std.proofs.Math.Nat.{pow-le-pow_right}
use Rattle.tree_geom.specs.declared.range.Range.{Range}
use Rattle.tree_geom.specs.declared.touch.Touch.{Touch}
use Rattle.tree_geom.specs.Geometry.{meets_of, IsPageSize, span_of, height_of}
use Rattle.tree_geom.proofs.Spans.{span_none, span_some, height_least}

pub first_before : (p a n : ℕ) → 1 ≤ p → 1 ≤ n → nat_lt (a * p) n ≡ nat_le a ((n - 1) / p)
first_before p a n pos some =
    elim (cases_lt (a * p) n) [
      | inl before ↦ let e : a ≤ (n - 1) / p = le-div a (n - 1) p pos (omega arith) in grind (arith, nat_tests)
      | inr after ↦ let e : (n - 1) / p < a = div_below (n - 1) p a pos (omega arith) in grind (arith, nat_tests)
    ]

pub begins_before : (p o last : ℕ) → 1 ≤ p → nat_lt o ((last + 1) * p) ≡ nat_le (o / p) last
begins_before p o last pos =
    elim (cases_lt o ((last + 1) * p)) [
      | inl before ↦ let e : o / p < last + 1 = div_below o p (last + 1) pos before in grind (arith, nat_tests)
      | inr after ↦ let e : last + 1 ≤ o / p = le-div (last + 1) o p pos after in grind (arith, nat_tests)
    ]

pub meets_by_pages : (p : ℕ) (t : Touch) (r : Range) → 1 ≤ p → 0 < r.size
    → meets_of p t r ≡ (nat_le t.first ((r.offset + r.size - 1) / p) && nat_le (r.offset / p) t.last)
meets_by_pages p t r pos some =
    let a : nat_lt (t.first * p) (r.offset + r.size) ≡ nat_le t.first ((r.offset + r.size - 1) / p) = first_before p t.first (r.offset + r.size) pos (omega arith) in
    let b : nat_lt r.offset ((t.last + 1) * p) ≡ nat_le (r.offset / p) t.last = begins_before p r.offset t.last pos in
    let c : nat_lt 0 r.size ≡ true = grind (arith, nat_tests) in
    rw (a, b, c) (grind (arith, nat_tests))

pub small_power : (k : ℕ) → k ≤ 20 → 2 ^ k ≤ 1048576
small_power k h = let two : 0 < 2 = omega arith in let e : 2 ^ k ≤ 2 ^ 20 = pow-le-pow_right two h in omega arith

pub page_bounds : (p : ℕ) → IsPageSize p → (4 ≤ p) × (p ≤ 1048576)
page_bounds p (i, e, low, high) =
    let two : 0 < 2 = omega arith in
    let a : 2 ^ 2 ≤ 2 ^ i = pow-le-pow_right two low in
    (omega (arith, e, a), omega (arith, e, small_power i high))

-- 2^40 is a page size times a power of two, so no span of a size up to it is larger
pub span_fits : (p n : ℕ) → IsPageSize p → n ≤ 2 ^ 40 → span_of p n ≤ 2 ^ 40
span_fits p zero (i, e, low, high) fits = rw (span_none p) (omega arith)
span_fits p (suc m) (i, e, low, high) fits =
    let two : 0 < 2 = omega arith in
    let k : ℕ = 40 - i in
    let f : i + k ≡ 40 = omega arith in
    let whole : p * 2 ^ k ≡ 2 ^ 40 = ap (λ x. x * 2 ^ k) e ∙ sym (pow-add 2 i k) ∙ ap (λ j. 2 ^ j) f in
    let top : height_of p (suc m) ≤ k = height_least p (suc m) k (omega (arith, whole)) in
    rw (span_some p (suc m) (omega arith))
    (let h : p * 2 ^ height_of p (suc m) ≤ p * 2 ^ k = mul-le p (2 ^ height_of p (suc m)) p (2 ^ k) (omega arith) (pow-le-pow_right two top) in omega (arith, h, whole))

-- what is left to test where the first touched page isn't past the range's last page
pub meets_rest : (p b c : ℕ) (t : Touch) (r : Range) → 1 ≤ p → b ≡ p → c ≡ p → 0 < r.size → t.first ≤ (r.offset + r.size - 1) / c
    → nat_le (r.offset / b) t.last ≡ meets_of p t r
meets_rest p b c t r pos same again some before =
    let e : nat_le t.first ((r.offset + r.size - 1) / p) ≡ true = let f : t.first ≤ (r.offset + r.size - 1) / p = rw (← again) before in grind (arith, nat_tests) in
    rw (same, meets_by_pages p t r pos some, e) (grind (arith, nat_tests))
