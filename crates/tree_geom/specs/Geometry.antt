use Rattle.std.specs.Prelude.{◌≡◌, ℕ, ◌+◌, ◌-◌, ◌*◌, ◌/◌, ◌^◌, ◌<◌, ◌≤◌, zero, suc, min, max, nat_lt, nat_le, ◌==◌, ◌&&◌, ◌||◌, not, Bool, true, false, if◌then◌else◌}
use Rattle.tree_geom.specs.declared.range.Range.{Range}
use Rattle.tree_geom.specs.declared.touch.Touch.{Touch}

-- ---- pages and heights
-- the powers of two from 4 to 1,048,576
abbrev pub IsPageSize : ℕ → Type 0
IsPageSize p = (i : ℕ) × (p ≡ 2 ^ i) × (2 ≤ i) × (i ≤ 20)

-- h is the least height at which p * 2^h bytes hold n
pub record IsHeight (p n h : ℕ) : Type 0 where
  pub reaches : n ≤ p * 2 ^ h
  pub least : (k : ℕ) → n ≤ p * 2 ^ k → h ≤ k

-- how often s is doubled until it is at least n, at most `most` times
unfoldable pub doublings : ℕ → ℕ → ℕ → ℕ
doublings zero s n = 0
doublings (suc most) s n = elim (nat_le n s) [ true ↦ 0 | false ↦ suc (doublings most (2 * s) n) ]

-- that height
unfoldable pub height_of : ℕ → ℕ → ℕ
height_of p n = doublings n p n

-- the bytes under the root of a tree over n bytes; an empty tree covers none
unfoldable pub span_of : ℕ → ℕ → ℕ
span_of p n = if n == 0 then 0 else p * 2 ^ height_of p n

-- ---- ranges
-- range number q among those of p * 2^h bytes
abbrev pub tree_range : ℕ → ℕ → ℕ → Range
tree_range p h q = record { offset = q * (p * 2 ^ h); size = p * 2 ^ h }

-- a range of whole pages, a power of two of them, that stands at such a multiple of their bytes as a tree's node does
abbrev pub Aligned : ℕ → Range → Type 0
Aligned p r = (h : ℕ) × (q : ℕ) × (r ≡ tree_range p h q)

-- the bytes of page i
abbrev pub page_range : ℕ → ℕ → Range
page_range p i = record { offset = i * p; size = p }

abbrev pub left_half : Range → Range
left_half r = record { offset = r.offset; size = r.size / 2 }

abbrev pub right_half : Range → Range
right_half r = record { offset = r.offset + r.size / 2; size = r.size / 2 }

-- ---- the bytes of an update in a page
-- the first byte of the blob that the bytes from at on have in page i
abbrev pub first_in : ℕ → ℕ → ℕ → ℕ
first_in p at i = max at (i * p)

-- the byte after the last one that the len bytes from at on have in page i
abbrev pub end_in : ℕ → ℕ → ℕ → ℕ → ℕ
end_in p at len i = min (at + len) ((i + 1) * p)

-- they are all valid bytes of the page, in a blob of that size
abbrev pub covers : ℕ → ℕ → ℕ → ℕ → ℕ → Bool
covers p at len size i = first_in p at i == i * p && end_in p at len i == min size ((i + 1) * p)

-- ---- touched pages
-- the pages of the bytes at to at + len - 1, in a blob of that size, and whether they leave valid bytes of the first or of
-- the last one to older leaves
abbrev pub touched_by : ℕ → ℕ → ℕ → ℕ → Touch
touched_by p at len size = record {
  first = at / p;
  last = (at + len - 1) / p;
  size = size;
  open_first = not (covers p at len size (at / p));
  open_last = not (covers p at len size ((at + len - 1) / p));
}

-- whether the update leaves valid bytes of page i, which it touches, to older leaves
abbrev pub leaves_open : Touch → ℕ → Bool
leaves_open t i = (i == t.first && t.open_first) || (i == t.last && t.open_last)

-- what stands in place of the touch of version 0, which has none
abbrev pub no_touch : Touch
no_touch = record { first = 0; last = 0; size = 0; open_first = false; open_last = false }

-- the range isn't empty, begins before the touched pages end, and ends after they begin
abbrev pub Meets : ℕ → Touch → Range → Type 0
Meets p t r = (t.first * p < r.offset + r.size) × (r.offset < (t.last + 1) * p) × (0 < r.size)

abbrev pub meets_of : ℕ → Touch → Range → Bool
meets_of p t r = nat_lt (t.first * p) (r.offset + r.size) && nat_lt r.offset ((t.last + 1) * p) && nat_lt 0 r.size

-- a byte of the range lies in a touched page
abbrev pub SharesByte : ℕ → Touch → Range → Type 0
SharesByte p t r = (b : ℕ) × (r.offset ≤ b) × (b < r.offset + r.size) × (t.first ≤ b / p) × (b / p ≤ t.last)
