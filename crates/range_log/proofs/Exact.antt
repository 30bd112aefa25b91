-- The ranges of a row are the aligned ones within its span that its update touches, each once and in order.
use Rattle.std.proofs.Common.{◌≡◌, ◌↔◌, ℕ, ◌+◌, ◌-◌, ◌*◌, ◌/◌, ◌^◌, ◌<◌, ◌≤◌, zero, suc, List, ◌++◌, length, map, get_or, arith, inl, inr, refl, ap, sym, subst, ◌∙◌, length-append}
use Rattle.std.specs.List.{range_with_len, Contains, AllPairs}
use Rattle.std.proofs.lemmas.Bool.{cases_lt, cases_order}
use Rattle.std.proofs.lemmas.Nat.{mul-le, pow_pos, pow_below, le-div, div_below}
use Rattle.std.proofs.lemmas.List.{get_or_append_left, get_or-append_right}
use Rattle.std.proofs.lemmas.List.Elements.{Contains-append_left, Contains-append_right, Contains-append_cases, Contains-get_or}
use Rattle.std.proofs.lemmas.List.FromFn.{length-map-range_with_len, get_or-map-range_with_len}
use Rattle.std.proofs.Math.Nat.{pow-le-pow_right}
use Rattle.tree_geom.specs.declared.range.Range.{Range}
use Rattle.tree_geom.specs.declared.touch.Touch.{Touch}
use Rattle.tree_geom.specs.Geometry.{tree_range, height_of, span_of, Meets}
use Rattle.tree_geom.proofs.Spans.{size_pos, span_some, within_span}
use Rattle.range_log.specs.Log.{touch_at, size_at, HasNode}
use Rattle.range_log.specs.Extents.{touches}
use Rattle.range_log.specs.Rows.{level_of, levels_of, row_keys_of}
use Rattle.range_log.specs.Laws.{Grown, RowKeysExact, RowKeysInOrder, Before}
use Rattle.range_log.proofs.Grown.{grown_updates, length-touches}
use Rattle.range_log.proofs.Links.{begins_inside}

pub cancel : (x y p : ℕ) → x * p < y * p → x < y
cancel x y p h =
    elim (cases_lt x y) [
      | inl lt ↦ lt
      | inr ge ↦ absurd (let e : y * p ≤ x * p = mul-le y p x p ge (omega arith) in omega arith)
    ]

scale : (x y p : ℕ) → 1 ≤ p → x < y → x * p < y * p
scale x y p pos h = let e : (x + 1) * p ≤ y * p = mul-le (x + 1) p y p (omega arith) (omega arith) in omega arith

-- a touch meets exactly the ranges of its first to its last page
pub met_by_pages : (p : ℕ) (t : Touch) (h q : ℕ) → 1 ≤ p → ((t.first / 2 ^ h ≤ q) × (q ≤ t.last / 2 ^ h)) ↔ Meets p t (tree_range p h q)
met_by_pages p t h q pos =
    let power : 0 < 2 ^ h = pow_pos h in (
      λ m.
          let a : t.first < (q + 1) * 2 ^ h = let e : t.first / 2 ^ h * 2 ^ h ≤ q * 2 ^ h = mul-le (t.first / 2 ^ h) (2 ^ h) q (2 ^ h) m.0 (omega arith) in omega arith in
          let b : q * 2 ^ h < t.last + 1 = let e : q * 2 ^ h ≤ t.last / 2 ^ h * 2 ^ h = mul-le q (2 ^ h) (t.last / 2 ^ h) (2 ^ h) m.1 (omega arith) in omega arith in
          let c : t.first * p < (q + 1) * 2 ^ h * p = scale t.first ((q + 1) * 2 ^ h) p pos a in
          let d : q * 2 ^ h * p < (t.last + 1) * p = scale (q * 2 ^ h) (t.last + 1) p pos b in
          (omega arith, omega arith, size_pos p h pos),
      λ m.
          let a : t.first < (q + 1) * 2 ^ h = cancel t.first ((q + 1) * 2 ^ h) p (omega (arith, m.0)) in
          let b : q * 2 ^ h < t.last + 1 = cancel (q * 2 ^ h) (t.last + 1) p (omega (arith, m.1)) in
          let c : t.first / 2 ^ h < q + 1 = div_below t.first (2 ^ h) (q + 1) power a in
          (omega arith, le-div q t.last (2 ^ h) power (omega arith)),
    )

-- ---- a level
ranges : ℕ → ℕ → ℕ → ℕ → List Range
ranges p h a n = map (λ q. tree_range p h q) (range_with_len a n)

in_ranges : (p h a n q : ℕ) → a ≤ q → q < a + n → Contains (ranges p h a n) (tree_range p h q)
unfolding ranges
in_ranges p h a n q from to = (
  q - a,
  omega (arith, length-map-range_with_len (λ j. tree_range p h j) a n),
  get_or-map-range_with_len (λ j. tree_range p h j) a n (q - a) q (tree_range p h q) (omega arith) (omega arith),
)

from_ranges : (p h a n : ℕ) (r : Range) → Contains (ranges p h a n) r → (q : ℕ) × (a ≤ q) × (q < a + n) × (r ≡ tree_range p h q)
unfolding ranges
from_ranges p h a n r c =
    let below : c.0 < n = omega (arith, c.1, length-map-range_with_len (λ j. tree_range p h j) a n) in
    (a + c.0, omega arith, omega arith, sym c.2 ∙ get_or-map-range_with_len (λ j. tree_range p h j) a n c.0 (a + c.0) r below refl)

level-ranges : (p : ℕ) (t : Touch) (h : ℕ) → level_of p t h ≡ ranges p h (t.first / 2 ^ h) (t.last / 2 ^ h + 1 - t.first / 2 ^ h)
unfolding level_of ranges
level-ranges p t h = refl

pub in_level : (p : ℕ) (t : Touch) (h q : ℕ) → 1 ≤ p → Meets p t (tree_range p h q) → Contains (level_of p t h) (tree_range p h q)
in_level p t h q pos m =
    let pages = (met_by_pages p t h q pos).1 m in
    rw (level-ranges p t h) (in_ranges p h (t.first / 2 ^ h) (t.last / 2 ^ h + 1 - t.first / 2 ^ h) q pages.0 (omega (arith, pages)))

from_level : (p : ℕ) (t : Touch) (h : ℕ) (r : Range) → 1 ≤ p → Contains (level_of p t h) r → (q : ℕ) × Meets p t (tree_range p h q) × (r ≡ tree_range p h q)
from_level p t h r pos c =
    let d = from_ranges p h (t.first / 2 ^ h) (t.last / 2 ^ h + 1 - t.first / 2 ^ h) r (rw (level-ranges p t h) at c) in
    (d.0, (met_by_pages p t h d.0 pos).0 (d.1, omega (arith, d.1, d.2)), d.3)

-- ---- all levels below a height
in_levels : (p : ℕ) (t : Touch) (top h q : ℕ) → 1 ≤ p → h < top → Meets p t (tree_range p h q) → Contains (levels_of p t top) (tree_range p h q)
unfolding levels_of
in_levels p t zero h q pos lt m = absurd (omega arith)
in_levels p t (suc top) h q pos lt m =
    elim (cases_order h top) [
      | inl e ↦ let P : ℕ → Type 0 = λ j. Contains (level_of p t j) (tree_range p h q) in Contains-append_left (level_of p t top) (levels_of p t top) (tree_range p h q) (subst P e (in_level p t h q pos m))
      | inr d ↦ Contains-append_right (level_of p t top) (levels_of p t top) (tree_range p h q) (in_levels p t top h q pos (omega (arith, d)) m)
    ]

pub from_levels : (p : ℕ) (t : Touch) (top : ℕ) (r : Range) → 1 ≤ p → Contains (levels_of p t top) r
    → (h : ℕ) × (q : ℕ) × (h < top) × Meets p t (tree_range p h q) × (r ≡ tree_range p h q)
unfolding levels_of
from_levels p t zero r pos c = absurd (omega (arith, c.1))
from_levels p t (suc top) r pos c =
    elim (Contains-append_cases (level_of p t top) (levels_of p t top) r c) [
      | inl here ↦ let d = from_level p t top r pos here in (top, d.0, omega arith, d.1, d.2)
      | inr below ↦ let d = from_levels p t top r pos below in (d.0, d.1, omega (arith, d.2), d.3, d.4)
    ]

-- ---- the row
pub powers : (p a b : ℕ) → 1 ≤ p → p * 2 ^ a ≤ p * 2 ^ b → a ≤ b
powers p a b pos le =
    elim (cases_lt b a) [
      | inl lt ↦ absurd (let e : 2 ^ b * p < 2 ^ a * p = scale (2 ^ b) (2 ^ a) p pos (pow_below b a lt) in omega arith)
      | inr ge ↦ ge
    ]

pub row-levels : (p : ℕ) (log : List Touch) (k : ℕ) → row_keys_of p log k ≡ levels_of p (touch_at log k) (suc (height_of p (size_at log k)))
unfolding row_keys_of
row-levels p log k = refl

size_some : (p : ℕ) (log : List Touch) (k : ℕ) → Grown p log → 1 ≤ k → k ≤ length log → 1 ≤ size_at log k
size_some p log zero g some in_log = absurd (omega arith)
size_some p log (suc k) g some in_log = omega (arith, g.ends k in_log)

row_has : (p : ℕ) (log : List Touch) (k : ℕ) (r : Range) → 1 ≤ p → Grown p log → 1 ≤ k → k ≤ length log → HasNode p log k r → Contains (row_keys_of p log k) r
row_has p log k r pos g some in_log node =
    let h : ℕ = node.aligned.0 in
    let q : ℕ = node.aligned.1 in
    let e : r ≡ tree_range p h q = node.aligned.2 in
    let n : ℕ = size_at log k in
    let M : Range → Type 0 = λ s. Meets p (touch_at log k) s in
    let C : Range → Type 0 = λ s. Contains (row_keys_of p log k) s in
    let size : r.size ≡ p * 2 ^ h = ap (λ (x : Range). x.size) e in
    let le : h ≤ height_of p n = powers p h (height_of p n) pos (omega (arith, node.within, span_some p n (size_some p log k g some in_log))) in
    subst C (sym e) (rw (row-levels p log k) (in_levels p (touch_at log k) (suc (height_of p n)) h q pos (omega arith) (subst M e node.met)))

row_from : (p : ℕ) (log : List Touch) (k : ℕ) (r : Range) → 1 ≤ p → Grown p log → 1 ≤ k → k ≤ length log → Contains (row_keys_of p log k) r → HasNode p log k r
row_from p log k r pos g some in_log c =
    let n : ℕ = size_at log k in
    let d = from_levels p (touch_at log k) (suc (height_of p n)) r pos (rw (row-levels p log k) at c) in
    let h : ℕ = d.0 in
    let q : ℕ = d.1 in
    let N : Range → Type 0 = λ s. HasNode p log k s in
    let inside : q * (p * 2 ^ h) < n = begins_inside p log k h q g some in_log d.3 in
    let whole : p * 2 ^ h ≤ span_of p n =
    rw (span_some p n (size_some p log k g some in_log))
    (let two : 0 < 2 = omega arith in let top : h ≤ height_of p n = omega (arith, d.2) in mul-le p (2 ^ h) p (2 ^ height_of p n) (omega arith) (pow-le-pow_right two top)) in
    let within : q * (p * 2 ^ h) + p * 2 ^ h ≤ span_of p n =
    elim (cases_lt 0 q) [
      | inl later ↦ within_span p n h q pos later inside
      | inr first ↦ let z : q * (p * 2 ^ h) ≡ 0 * (p * 2 ^ h) = let e : q ≡ 0 = omega arith in ap (λ j. j * (p * 2 ^ h)) e in omega arith
    ] in
    subst N (sym d.4) (record { version = (some, in_log); aligned = (h, q, refl); within = within; met = d.3 })

pub row_keys_exact : RowKeysExact
row_keys_exact p k us r pos bounds some in_list =
    let g : Grown p (touches p us) = grown_updates p us pos bounds in
    let in_log : k ≤ length (touches p us) = omega (arith, length-touches p us) in
    (row_from p (touches p us) k r pos g some in_log, row_has p (touches p us) k r pos g some in_log)

-- ---- the order
all_pairs_append : (R : Range → Range → Type 0) (xs ys : List Range) → AllPairs R xs → AllPairs R ys
    → ((x y : Range) → Contains xs x → Contains ys y → R x y) → AllPairs R (xs ++ ys)
all_pairs_append R xs ys left right across i j d lt in_list =
    elim (cases_lt j (length xs)) [
      | inl j_left ↦ rw (get_or_append_left xs ys d i (omega arith), get_or_append_left xs ys d j j_left) (left i j d lt j_left)
      | inr j_right ↦
          let inside : j - length xs < length ys = omega (arith, length-append xs ys) in
          elim (cases_lt i (length xs)) [
            | inl i_left ↦
                rw (get_or_append_left xs ys d i i_left, get_or-append_right xs ys (length xs) j d refl j_right)
                (across (get_or xs i d) (get_or ys (j - length xs) d) (Contains-get_or xs i d i_left) (Contains-get_or ys (j - length xs) d inside))
            | inr i_right ↦
                rw (get_or-append_right xs ys (length xs) i d refl i_right, get_or-append_right xs ys (length xs) j d refl j_right)
                (right (i - length xs) (j - length xs) d (omega arith) inside)
          ]
    ]

level_in_order : (p : ℕ) (t : Touch) (h : ℕ) → 1 ≤ p → AllPairs Before (level_of p t h)
unfolding level_of
level_in_order p t h pos i j d lt in_list =
    let f : ℕ → Range = λ q. tree_range p h q in
    let a : ℕ = t.first / 2 ^ h in
    let n : ℕ = t.last / 2 ^ h + 1 - a in
    let below : j < n = omega (arith, in_list, length-map-range_with_len f a n) in
    rw (get_or-map-range_with_len f a n i (a + i) d (omega arith) refl, get_or-map-range_with_len f a n j (a + j) d below refl)
    (inr (refl, scale (a + i) (a + j) (p * 2 ^ h) (size_pos p h pos) (omega arith)))

levels_in_order : (p : ℕ) (t : Touch) (top : ℕ) → 1 ≤ p → AllPairs Before (levels_of p t top)
unfolding levels_of
levels_in_order p t zero pos = λ i j d lt in_list. absurd (omega arith)
levels_in_order p t (suc top) pos =
    all_pairs_append Before (level_of p t top) (levels_of p t top) (level_in_order p t top pos) (levels_in_order p t top pos)
    (λ x y cx cy.
    let dx = from_level p t top x pos cx in
    let dy = from_levels p t top y pos cy in
    let sx : x.size ≡ p * 2 ^ top = ap (λ (z : Range). z.size) dx.2 in
    let sy : y.size ≡ p * 2 ^ dy.0 = ap (λ (z : Range). z.size) dy.4 in
    let lt : 2 ^ dy.0 * p < 2 ^ top * p = scale (2 ^ dy.0) (2 ^ top) p pos (pow_below dy.0 top dy.2) in
    inl (omega arith))

pub row_keys_in_order : RowKeysInOrder
row_keys_in_order p k log pos = rw (row-levels p log k) (levels_in_order p (touch_at log k) (suc (height_of p (size_at log k))) pos)
