-- What a clause sees of the row of one update.
use Rattle.std.specs.Prelude.{◌≡◌, ◌≢◌, ℕ, ◌+◌, ◌*◌, ◌++◌, map, min, List, length, Some, slice_get, slice_range}
use Rattle.std.specs.List.{Contains}
use Rattle.boxcar.specs.Table.{Shelves}
use Rattle.tree_geom.specs.declared.range.Range.{Range}
use Rattle.tree_geom.specs.declared.touch.Touch.{Touch}
use Rattle.tree_geom.specs.declared.node.Node.{Node}
use Rattle.range_log.specs.Rows.{levels_of}
use Rattle.page_store.specs.House.{House}
use Rattle.page_store.specs.Stored.{Stored, Cut, LieAmong}
use Rattle.node_store.specs.House.{IsIn}
use Rattle.node_store.specs.Placed.{Spot, PlacedNode}

-- the row: the blob and the version under which its nodes stand, the byte of the blob at which the update begins, what it
-- touches, the nodes, each beside its range, where they lie, the pages that were stored for the update, and those of the blob that it
-- stores anew
pub record UpdateRow : Type 0 where
  pub blob : ℕ
  pub version : ℕ
  pub offset : ℕ
  pub touch : Touch
  pub nodes : List (Range × Node)
  pub spot : Spot
  pub pages : Cut
  pub folds : List Stored

-- the stored pages of the row, page 0 first: those to which the pieces of its leaves lead
abbrev pub stored_of : UpdateRow → List Stored
stored_of row = row.pages.pages ++ row.folds

-- the bytes of stored page q of an update with these bytes
abbrev pub bytes_of_page : ℕ → List ℕ → ℕ → List ℕ
bytes_of_page p bytes q = slice_range bytes (q * p) (min ((q + 1) * p) (length bytes))

-- the row's nodes are those of the ranges of a tree over pages of p bytes that its update touches
abbrev pub HasRangesOf : ℕ → UpdateRow → Type 0
HasRangesOf p row = (h : ℕ) × (map (λ (pair : Range × Node). pair.0) row.nodes ≡ levels_of p row.touch h)

-- the row has no node of that range
abbrev pub HasNoNodeFor : UpdateRow → Range → Type 0
HasNoNodeFor row range = (i : ℕ) (pair : Range × Node) → slice_get row.nodes i ≡ Some pair → pair.0 ≢ range

-- it is the row's node of that range, and lies where the row's nodes do
pub record IsNodeFor (row : UpdateRow) (range : Range) (placed : PlacedNode) : Type 0 where
  pub among : Contains row.nodes (range, placed.node)
  pub there : placed.spot ≡ row.spot

-- the row's nodes lie in this house, and its stored pages in these houses
pub record IsRowIn (nodes : List Shelves) (houses : List House) (row : UpdateRow) : Type 0 where
  pub nodes_here : IsIn nodes row.spot
  pub pages_here : LieAmong houses (stored_of row)
