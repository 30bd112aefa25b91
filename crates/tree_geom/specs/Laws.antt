use Rattle.std.specs.Prelude.{◌≡◌, ◌⊎◌, ℕ, ◌+◌, ◌-◌, ◌*◌, ◌/◌, ◌^◌, ◌<◌, ◌≤◌, suc, not, true, false}
use Rattle.tree_geom.specs.declared.range.Range.{Range}
use Rattle.tree_geom.specs.declared.touch.Touch.{Touch}
use Rattle.tree_geom.specs.Geometry.{IsPageSize, IsHeight, height_of, span_of, tree_range, page_range, left_half, right_half, covers, touched_by, leaves_open, Meets, meets_of}

-- ---- spans
-- the height of a size is the least at which a tree holds it
abbrev pub HeightsHold : Type 0
HeightsHold = (p n : ℕ) → 1 ≤ p → IsHeight p n (height_of p n)

-- no bytes have the span 0
abbrev pub SpanOfNone : Type 0
SpanOfNone = (p : ℕ) → span_of p 0 ≡ 0

-- some bytes have the span of their height
abbrev pub SpanOfSome : Type 0
SpanOfSome = (p n : ℕ) → 1 ≤ n → span_of p n ≡ p * 2 ^ height_of p n

-- a span is at least the size
abbrev pub SpansHold : Type 0
SpansHold = (p n : ℕ) → 1 ≤ p → n ≤ span_of p n

-- a range that begins before the size, and isn't the first one of its height, is within the span
abbrev pub WithinSpan : Type 0
WithinSpan = (p n h q : ℕ) → 1 ≤ p → 1 ≤ q → q * (p * 2 ^ h) < n → q * (p * 2 ^ h) + p * 2 ^ h ≤ span_of p n

-- the first page is within the span of any size but 0
abbrev pub PageWithin : Type 0
PageWithin = (p n : ℕ) → 1 ≤ p → 1 ≤ n → p ≤ span_of p n

-- ---- ranges
-- a page has a byte
abbrev pub PagesHaveBytes : Type 0
PagesHaveBytes = (p : ℕ) → IsPageSize p → 1 ≤ p

-- a range of any height has a byte
abbrev pub RangesHaveBytes : Type 0
RangesHaveBytes = (p h : ℕ) → 1 ≤ p → 1 ≤ p * 2 ^ h

-- a range has half the bytes of one of the height above
abbrev pub HeightsHalve : Type 0
HeightsHalve = (p h : ℕ) → p * 2 ^ suc h / 2 ≡ p * 2 ^ h

-- page i is range number i of height 0
abbrev pub PagesAlign : Type 0
PagesAlign = (p i : ℕ) → page_range p i ≡ tree_range p 0 i

-- the halves of range number q are the ranges number 2 q and 2 q + 1 of the height below
abbrev pub LowHalvesAlign : Type 0
LowHalvesAlign = (p h q : ℕ) → left_half (tree_range p (suc h) q) ≡ tree_range p h (2 * q)

abbrev pub HighHalvesAlign : Type 0
HighHalvesAlign = (p h q : ℕ) → right_half (tree_range p (suc h) q) ≡ tree_range p h (2 * q + 1)

-- a range that begins before one of its height or above begins ends there at the latest
abbrev pub RangesNest : Type 0
RangesNest = (p h top q m : ℕ) → h ≤ top → q * (p * 2 ^ h) < m * (p * 2 ^ top) → q * (p * 2 ^ h) + p * 2 ^ h ≤ m * (p * 2 ^ top)

-- ---- touched pages
-- whether touched pages meet a range is decided by meets_of
abbrev pub MeetsIsTrue : Type 0
MeetsIsTrue = (p : ℕ) (t : Touch) (r : Range) → Meets p t r → meets_of p t r ≡ true

abbrev pub MeetsIsFalse : Type 0
MeetsIsFalse = (p : ℕ) (t : Touch) (r : Range) → ¬ Meets p t r → meets_of p t r ≡ false

abbrev pub MeetsOrNot : Type 0
MeetsOrNot = (p : ℕ) (t : Touch) (r : Range) → Meets p t r ⊎ (¬ Meets p t r)

-- an update covers all valid bytes of each page that it touches, its first and its last page apart, and its touch tells of
-- these two whether it does
abbrev pub TouchesTellCover : Type 0
TouchesTellCover = (p at len size i : ℕ) → 1 ≤ p → 1 ≤ len → at + len ≤ size → at / p ≤ i → i ≤ (at + len - 1) / p
    → leaves_open (touched_by p at len size) i ≡ not (covers p at len size i)
