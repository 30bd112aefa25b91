-- What a clause sees of the borders of a row, and which ranges they are.
use Rattle.std.specs.Prelude.{◌≡◌, ◌⊎◌, ℕ, ◌+◌, ◌-◌, ◌/◌, ◌%◌, ◌^◌, ◌<◌, ◌≤◌, ◌==◌, if◌then◌else◌, List, length, slice_index}
use Rattle.tree_geom.specs.declared.range.Range.{Range}
use Rattle.tree_geom.specs.declared.touch.Touch.{Touch}
use Rattle.tree_geom.specs.Geometry.{Aligned, Meets, tree_range, page_range, left_half, right_half, height_of, span_of}
use Rattle.range_log.specs.Log.{newest_of}
use Rattle.range_log.specs.Depths.{depth_of}
use Rattle.snapshot.specs.Versions.{Version}
use Rattle.border_hints.specs.Numbered.{log_of}

-- the newest of the version's updates that touches the range
abbrev pub newest_known : Version → Range → ℕ
newest_known s range = newest_of s.page_size (log_of s) (length s.rows) range

-- ---- ranges
-- the other number of the pair 2 q and 2 q + 1
abbrev pub beside : ℕ → ℕ
beside n = if n % 2 == 0 then n + 1 else n - 1

-- the row of an update with that touch has a node for the range
pub record IsRowRange (p : ℕ) (touch : Touch) (range : Range) : Type 0 where
  pub aligned : Aligned p range
  pub within : range.offset + range.size ≤ span_of p touch.size
  pub met : Meets p touch range

-- the range is a half of such a node that the update doesn't touch
pub record IsUntouchedHalf (p : ℕ) (touch : Touch) (range : Range) : Type 0 where
  pub node : Range
  pub of_row : IsRowRange p touch node
  pub inner : p < node.size
  pub half : (range ≡ left_half node) ⊎ (range ≡ right_half node)
  pub untouched : ¬ Meets p touch range

-- the range is the update's first or last page
abbrev pub IsEdgePage : ℕ → Touch → Range → Type 0
IsEdgePage p touch range = (range ≡ page_range p touch.first) ⊎ (range ≡ page_range p touch.last)

-- the ranges that a border may be asked for
abbrev pub IsBorder : ℕ → Touch → Range → Type 0
IsBorder p touch range = IsUntouchedHalf p touch range ⊎ IsEdgePage p touch range

-- ---- the borders of a row
-- along the path from the root to a page: at each height the version for the range beside the one on the path, that for the
-- page, and how deep its leaf lies
pub record EdgeLinks : Type 0 where
  pub besides : List ℕ
  pub leaf : ℕ
  pub depth : ℕ

abbrev pub edge_links : List ℕ → ℕ → ℕ → EdgeLinks
edge_links besides leaf depth = record { besides = besides; leaf = leaf; depth = depth }

-- they are the newest up to version k, below a root of that height, and the depth is that of the page's newest leaf
pub record KnowsEdge (p : ℕ) (log : List Touch) (k height page : ℕ) (e : EdgeLinks) : Type 0 where
  pub leaf : e.leaf ≡ newest_of p log k (page_range p page)
  pub besides : (h : ℕ) → h < height → slice_index e.besides h ≡ newest_of p log k (tree_range p h (beside (page / 2 ^ h)))
  pub depth : e.depth ≡ depth_of p log k page

-- the page size, what the update touches, and the two edges of its row
pub record BorderLinks : Type 0 where
  pub page_size : ℕ
  pub touch : Touch
  pub first : EdgeLinks
  pub last : EdgeLinks

-- both edges have the newest up to version k, and the depths there
pub record AreBorders (log : List Touch) (k : ℕ) (b : BorderLinks) : Type 0 where
  pub first : KnowsEdge b.page_size log k (height_of b.page_size b.touch.size) b.touch.first b.first
  pub last : KnowsEdge b.page_size log k (height_of b.page_size b.touch.size) b.touch.last b.last
