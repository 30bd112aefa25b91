use Rattle.std.specs.Prelude.{ℕ, ◌+◌, ◌-◌, ◌*◌, ◌/◌, ◌%◌, ◌^◌, ◌==◌, ◌&&◌, ◌||◌, not, nat_lt, zero, suc, Bool, List, [], ◌∷◌, ◌++◌, map, min, if◌then◌else◌}
use Rattle.std.specs.List.{range_with_len, filter, position_or_len}
use Rattle.tree_geom.specs.declared.range.Range.{Range}
use Rattle.tree_geom.specs.declared.touch.Touch.{Touch}
use Rattle.tree_geom.specs.declared.node.Node.{Node}
use Rattle.tree_geom.specs.declared.node.Node.TheVariants.{Inner, Leaf}
use Rattle.tree_geom.specs.declared.node.Piece.{Piece}
use Rattle.tree_geom.specs.Geometry.{tree_range, page_range, left_half, right_half, height_of, first_in, end_in, covers}
use Rattle.tree_geom.specs.Nodes.{no_piece}
use Rattle.range_log.specs.Log.{touch_at, size_at, newest_of}
use Rattle.range_log.specs.Extents.{Extent, extent_at, size_after, touch_of, touches}
use Rattle.range_log.specs.Depths.{fold_number, depth_by}

-- ---- the ranges of a row
-- the ranges of p * 2^h bytes that the touched pages meet, by offset
unfoldable pub level_of : ℕ → Touch → ℕ → List Range
level_of p t h = map (λ q. tree_range p h q) (range_with_len (t.first / 2 ^ h) (t.last / 2 ^ h + 1 - t.first / 2 ^ h))

-- those of all heights below h, the largest first
unfoldable pub levels_of : ℕ → Touch → ℕ → List Range
levels_of p t zero = []
levels_of p t (suc h) = level_of p t h ++ levels_of p t h

-- the ranges of the row of version k
unfoldable pub row_keys_of : ℕ → List Touch → ℕ → List Range
row_keys_of p log k = levels_of p (touch_at log k) (suc (height_of p (size_at log k)))

-- ---- the leaf of page i of an update that falls at x
-- the first byte of the blob that the update writes in the page
abbrev pub leaf_lo : ℕ → Extent → ℕ → ℕ
leaf_lo p x i = first_in p x.at i

-- the byte after the last one that it writes there
abbrev pub leaf_hi : ℕ → Extent → ℕ → ℕ
leaf_hi p x i = end_in p x.at x.len i

-- the byte of the page at which the update's own bytes begin
abbrev pub leaf_start : ℕ → Extent → ℕ → ℕ
leaf_start p x i = leaf_lo p x i - i * p

-- the byte of the update's buffer at which they begin
abbrev pub leaf_from : ℕ → Extent → ℕ → ℕ
leaf_from p x i = leaf_lo p x i - x.at

-- how many they are
abbrev pub leaf_len : ℕ → Extent → ℕ → ℕ
leaf_len p x i = leaf_hi p x i - leaf_lo p x i

-- how many valid bytes page i has in a blob of that size
abbrev pub valid_in : ℕ → ℕ → ℕ → ℕ
valid_in p size i = min size ((i + 1) * p) - i * p

-- update k covers all valid bytes of page i at version k
abbrev pub covered : ℕ → List Extent → ℕ → ℕ → Bool
covered p us k i = covers p (extent_at us k).at (extent_at us k).len (size_after us k) i

-- ---- the pages that an update stores anew, over a fold number
-- update k stores page i, which it touches, anew: it doesn't cover the page, and the depth there is 0 again
abbrev pub folded_by : ℕ → ℕ → List Extent → ℕ → ℕ → Bool
folded_by fold p us k i = not (covered p us k i) && depth_by fold p (touches p us) k i == 0

abbrev pub folded_of : ℕ → List Extent → ℕ → ℕ → Bool
folded_of p us k i = folded_by fold_number p us k i

-- the pages of an update that it may leave uncovered: its first and its last one
abbrev pub edge_pages : Touch → List ℕ
edge_pages t = if t.first == t.last then t.first ∷ [] else t.first ∷ t.last ∷ []

-- those that update k stores anew, rising
unfoldable pub folds_by : ℕ → ℕ → List Extent → ℕ → List ℕ
folds_by fold p us k = filter (λ i. folded_by fold p us k i) (edge_pages (touch_of p us k))

abbrev pub folds_of : ℕ → List Extent → ℕ → List ℕ
folds_of p us k = folds_by fold_number p us k

-- the newest older version that touches the page, or 0 where the update covers the page or stores it anew
unfoldable pub back_by : ℕ → ℕ → List Extent → ℕ → ℕ → ℕ
back_by fold p us k i = if covered p us k i || folded_by fold p us k i then 0 else newest_of p (touches p us) (k - 1) (page_range p i)

abbrev pub back_of : ℕ → List Extent → ℕ → ℕ → ℕ
back_of p us k i = back_by fold_number p us k i

-- ---- the pieces of n bytes of a buffer from byte b on, where the buffer is stored in pages of p bytes
-- those in the stored page of byte b
abbrev pub first_piece : ℕ → ℕ → ℕ → Piece
first_piece p b n = record { page = b / p; from = b % p; len = min (p - b % p) n }

-- the rest, in the next stored page; all zeros where none is left
abbrev pub second_piece : ℕ → ℕ → ℕ → Piece
second_piece p b n = if nat_lt (p - b % p) n then record { page = b / p + 1; from = 0; len = n - (p - b % p) } else no_piece

abbrev pub piece_count : ℕ → ℕ → ℕ → ℕ
piece_count p b n = if nat_lt (p - b % p) n then 2 else 1

-- ---- the nodes
-- the leaf of page i of an update that falls at x, with that back and that depth
abbrev pub leaf_at : ℕ → Extent → ℕ → ℕ → ℕ → Node
leaf_at p x i back depth =
    Leaf (leaf_start p x i) (piece_count p (leaf_from p x i) (leaf_len p x i)) (first_piece p (leaf_from p x i) (leaf_len p x i))
    (second_piece p (leaf_from p x i) (leaf_len p x i)) depth back

-- how many stored pages a buffer of n bytes has
abbrev pub pages_in : ℕ → ℕ → ℕ
pages_in p n = (n + p - 1) / p

-- the leaf of a page of n valid bytes that its update stores anew, in stored page q
abbrev pub whole_leaf : ℕ → ℕ → Node
whole_leaf q n = Leaf 0 1 (record { page = q; from = 0; len = n }) no_piece 0 0

-- the number of the stored page of page i among those of version k: its place among the pages that are stored anew comes after
-- the buffer's
abbrev pub fold_at : ℕ → ℕ → List Extent → ℕ → ℕ → ℕ
fold_at fold p us k i = pages_in p (extent_at us k).len + position_or_len (λ j. j == i) (folds_by fold p us k)

-- the leaf of page i in the row of version k
abbrev pub leaf_by : ℕ → ℕ → List Extent → ℕ → ℕ → Node
leaf_by fold p us k i =
    if folded_by fold p us k i then whole_leaf (fold_at fold p us k i) (valid_in p (size_after us k) i)
    else leaf_at p (extent_at us k) i (back_by fold p us k i) (depth_by fold p (touches p us) k i)

-- the inner node of the range in the row of version k
abbrev pub inner_of : ℕ → List Extent → ℕ → Range → Node
inner_of p us k r = Inner (newest_of p (touches p us) k (left_half r)) (newest_of p (touches p us) k (right_half r))

-- the node that the row of version k has for the range: a leaf for a page, an inner node for a larger range
abbrev pub node_by : ℕ → ℕ → List Extent → ℕ → Range → Node
node_by fold p us k r = if r.size == p then leaf_by fold p us k (r.offset / p) else inner_of p us k r

-- the row of version k
abbrev pub row_by : ℕ → ℕ → List Extent → ℕ → List (Range × Node)
row_by fold p us k = map (λ r. (r, node_by fold p us k r)) (row_keys_of p (touches p us) k)

-- ---- the same at the store's fold number
abbrev pub leaf_of : ℕ → List Extent → ℕ → ℕ → Node
leaf_of p us k i = leaf_by fold_number p us k i

abbrev pub node_of : ℕ → List Extent → ℕ → Range → Node
node_of p us k r = node_by fold_number p us k r

abbrev pub row_of : ℕ → List Extent → ℕ → List (Range × Node)
row_of p us k = row_by fold_number p us k
