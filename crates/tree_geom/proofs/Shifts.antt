-- What shifts and logarithms to base 2 come to.
use Rattle.std.proofs.Common.{◌≡◌, ℕ, suc, ◌+◌, ◌-◌, ◌*◌, ◌%◌, ◌^◌, ◌<◌, ◌≤◌, max, arith, inl, inr, ap, sym, ◌∙◌}
use Rattle.std.proofs.lemmas.Bool.{cases_lt}
use Rattle.std.proofs.lemmas.Nat.{mul-le, pow_pos, pow-add}
use Rattle.std.proofs.Math.Nat.{pow-succ', pow-le-pow_right, mod-eq_of_lt}
use Rattle.tree_geom.specs.declared.range.Range.{Range}
use Rattle.tree_geom.specs.Geometry.{IsPageSize, tree_range, height_of}
use Rattle.tree_geom.proofs.Spans.{height_is}

-- ---- shifts to the left
size_small : (p h : ℕ) → p ≤ 1048576 → h ≤ 38 → p * 2 ^ h ≤ 2 ^ 58
size_small p h page le =
    let two : 0 < 2 = omega arith in
    let e : 2 ^ h ≤ 2 ^ 38 = pow-le-pow_right two le in
    let f : p * 2 ^ h ≤ 1048576 * 2 ^ 38 = mul-le p (2 ^ h) 1048576 (2 ^ 38) page e in
    omega arith

-- a page's bytes, shifted by a height, are those of its ranges
pub size_is : (bytes size p h : ℕ) → bytes ≡ size → size ≡ p → bytes ≤ 1048576 → h ≤ 38 → bytes * 2 ^ h % 2 ^ 64 ≡ p * 2 ^ h
size_is bytes size p h e f page low =
    let small : bytes * 2 ^ h ≤ 2 ^ 58 = size_small bytes h page low in
    let fits : bytes * 2 ^ h < 2 ^ 64 = omega arith in
    mod-eq_of_lt fits ∙ ap (λ b. b * 2 ^ h) (e ∙ f)

-- the range that has that size, by its height and number
pub range_is : (p h q size : ℕ) → size ≡ p * 2 ^ h → record { offset = q * size; size = size } ≡ tree_range p h q
range_is p h q size is = let made : ℕ → Range = λ n. record { offset = q * n; size = n } in ap made is

-- ---- logarithms
exponent_lt : (i j : ℕ) → 2 ^ i < 2 ^ j → i < j
exponent_lt i j lt =
    elim (cases_lt i j) [
      | inl done ↦ done
      | inr ge ↦ absurd (let two : 0 < 2 = omega arith in let e : 2 ^ j ≤ 2 ^ i = pow-le-pow_right two ge in omega arith)
    ]

-- below the power that holds n bytes, and a page, none holds the n bytes
short : (p n i k top : ℕ) → p ≡ 2 ^ i → i + k ≤ top → 2 ^ top ≤ max n p - 1 → p * 2 ^ k < n
short p n i k top is le from =
    let two : 0 < 2 = omega arith in
    let some : 0 < 2 ^ i = pow_pos i in
    let e : p * 2 ^ k ≡ 2 ^ (i + k) = ap (λ x. x * 2 ^ k) is ∙ sym (pow-add 2 i k) in
    let f : 2 ^ (i + k) ≤ 2 ^ top = pow-le-pow_right two le in
    let one : p * 1 ≤ p * 2 ^ k = mul-le p 1 p (2 ^ k) (omega arith) (pow_pos k) in
    omega arith

-- the height is by how much the power that holds the bytes is over that of a page
pub height_by_logs : (p n last top low : ℕ) → IsPageSize p → last ≡ max n p - 1 → 2 ^ top ≤ last → last < 2 * 2 ^ top → 2 ^ low ≤ p → p < 2 * 2 ^ low
    → (low ≤ top + 1) × (top + 1 - low ≡ height_of p n)
height_by_logs p n last top low (i, is, least, most) ends from to page_from page_to =
    let some : 0 < 2 ^ i = pow_pos i in
    let a : 2 ^ suc i ≡ 2 * 2 ^ i = pow-succ' 2 i in
    let b : 2 ^ suc low ≡ 2 * 2 ^ low = pow-succ' 2 low in
    let c : 2 ^ suc top ≡ 2 * 2 ^ top = pow-succ' 2 top in
    let d : 2 ^ suc (suc top) ≡ 2 * 2 ^ suc top = pow-succ' 2 (suc top) in
    let under : low < suc i = exponent_lt low (suc i) (omega arith) in
    let over : i < suc low = exponent_lt i (suc low) (omega arith) in
    let reach : i < suc (suc top) = exponent_lt i (suc (suc top)) (omega arith) in
    let h : ℕ = top + 1 - low in
    let e : i + h ≡ suc top = omega arith in
    let whole : p * 2 ^ h ≡ 2 ^ suc top = ap (λ x. x * 2 ^ h) is ∙ sym (pow-add 2 i h) ∙ ap (λ j. 2 ^ j) e in
    let below : (k : ℕ) → k < h → p * 2 ^ k < n = λ k lt. short p n i k top is (omega arith) (omega arith) in
    (omega arith, height_is p n h (omega arith) (omega arith) below)
