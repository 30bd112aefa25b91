-- What a clause sees of a snapshot, and the updates that its rows tell.
use Rattle.std.specs.Prelude.{◌≡◌, ℕ, ◌^◌, ◌≤◌, zero, suc, List, [], ◌∷◌, ◌++◌, length, take, map, slice_index_or, All}
use Rattle.blob_model.specs.Content.{Update, size_of}
use Rattle.blob_model.specs.declared.call.Place.TheVariants.{WriteAt}
use Rattle.tree_geom.specs.declared.range.Range.{Range}
use Rattle.boxcar.specs.Table.{Shelves}
use Rattle.tree_geom.specs.declared.node.NodeKey.{NodeKey}
use Rattle.tree_geom.specs.Geometry.{no_touch, span_of, IsPageSize}
use Rattle.tree_geom.specs.declared.touch.Touch.{Touch}
use Rattle.range_log.specs.Log.{HasNode, touch_at}
use Rattle.range_log.specs.Extents.{Extent, extent_at, touches}
use Rattle.range_log.specs.Updates.{update_at, extents, page_bytes, Replayable}
use Rattle.range_log.specs.Rows.{folds_of, node_of, row_of}
use Rattle.page_store.specs.House.{House}
use Rattle.page_store.specs.Stored.{Stored, IsCut, LieAmong, bytes_of_pages}
use Rattle.node_store.specs.House.{IsIn}
use Rattle.node_store.specs.Placed.{Spot, PlacedNode}
use Rattle.node_store.specs.UpdateRows.{UpdateRow, stored_of}

-- a version: the blob under whose id it is read, its page size, and the rows of its updates, update 1 first
pub record Version : Type 0 where
  pub blob : ℕ
  pub page_size : ℕ
  pub rows : List UpdateRow

-- an update of a version, whose row is asked for nodes; 0 is none of them
pub record RowIn : Type 0 where
  pub version : Version
  pub update : ℕ

-- where no nodes lie
abbrev pub no_spot : Spot
no_spot = record { shard = 0; shelf = 0; mark = 0 }

-- what stands in place of row 0, which there is none of
abbrev pub no_row : UpdateRow
no_row = record {
  blob = 0;
  version = 0;
  offset = 0;
  touch = no_touch;
  nodes = [];
  spot = no_spot;
  pages = record { page_size = 0; room = 0; pages = [] };
  folds = [];
}

-- the row of update j, from 1
abbrev pub row_at : List UpdateRow → ℕ → UpdateRow
row_at rows zero = no_row
row_at rows (suc j) = slice_index_or rows j no_row

-- the version after s, with the row of its update
abbrev pub next_version : Version → UpdateRow → Version
next_version s row = record s { rows = s.rows ++ row ∷ [] }

-- an older version
abbrev pub older_version : Version → ℕ → Version
older_version s v = record s { rows = take v s.rows }

-- the same version, read under another blob's id
abbrev pub under_blob : Version → ℕ → Version
under_blob s blob = record s { blob = blob }

-- ---- what a row tells of its update
-- the bytes of the row's pages, without those of the blob that are stored anew
abbrev pub bytes_of : UpdateRow → List ℕ
bytes_of row = bytes_of_pages row.pages.pages

-- the update that the row tells: its bytes, written where the row says that it begins
abbrev pub update_of_row : UpdateRow → Update
update_of_row row = record { caller = 0; place = WriteAt row.offset; bytes = bytes_of row }

-- the updates that rows tell
abbrev pub updates : List UpdateRow → List Update
updates rows = map update_of_row rows

-- the updates 1 to the version
abbrev pub updates_of : Version → List Update
updates_of s = updates s.rows

-- the size of the version
abbrev pub size_now : Version → ℕ
size_now s = size_of (updates_of s) (length s.rows)

-- where the updates of the version fall
abbrev pub falls : Version → List Extent
falls s = extents (updates_of s)

-- what they touch
abbrev pub log_of : Version → List Touch
log_of s = touches s.page_size (falls s)

-- ---- rows of updates
-- the valid bytes, at version k, of the pages that update k stores anew
abbrev pub fold_bytes : ℕ → List Update → ℕ → List (List ℕ)
fold_bytes p us k = map (λ i. page_bytes p us k i) (folds_of p (extents us) k)

-- the row is that of update k of these, its pages are that update's bytes, cut at the page size, and each page that the update
-- stores anew has the page's valid bytes
pub record IsRowOf (p : ℕ) (us : List Update) (k : ℕ) (row : UpdateRow) : Type 0 where
  pub version : row.version ≡ k
  pub offset : row.offset ≡ (extent_at (extents us) k).at
  pub touch : row.touch ≡ touch_at (touches p (extents us)) k
  pub nodes : row.nodes ≡ row_of p (extents us) k
  pub bytes : bytes_of row ≡ (update_at us k).bytes
  pub page_size : row.pages.page_size ≡ p
  pub folds : map (λ (s : Stored). s.bytes) row.folds ≡ fold_bytes p us k

-- each row is that of its update, its pages are cut at the page size, and all updates begin at the size before them at the
-- latest
pub record IsVersion (s : Version) : Type 0 where
  pub page_size : IsPageSize s.page_size
  pub counted : length s.rows ≤ 1048576
  pub replayable : Replayable (updates_of s)
  pub rows : (k : ℕ) → 1 ≤ k → k ≤ length s.rows → IsRowOf s.page_size (updates_of s) k (row_at s.rows k)
  pub paged : (k : ℕ) → 1 ≤ k → k ≤ length s.rows → IsCut s.page_size (row_at s.rows k).pages.pages
  pub fits : (v : ℕ) → v ≤ length s.rows → size_of (updates_of s) v ≤ 2 ^ 40

-- ---- nodes
-- the row of update j has a node for the range
abbrev pub HasNodeFor : Version → ℕ → Range → Type 0
HasNodeFor s j range = HasNode s.page_size (log_of s) j range

-- it is the node that the row of update j has for the range, and lies where the row's nodes do
pub record IsFound (s : Version) (j : ℕ) (range : Range) (placed : PlacedNode) : Type 0 where
  pub has : HasNodeFor s j range
  pub is : placed.node ≡ node_of s.page_size (falls s) j range
  pub there : placed.spot ≡ (row_at s.rows j).spot

-- the key of the root of the version
abbrev pub root_key : Version → NodeKey
root_key s = record {
  blob = (row_at s.rows (length s.rows)).blob;
  version = length s.rows;
  range = record { offset = 0; size = span_of s.page_size (size_now s) };
}

-- ---- where nodes and pages lie
-- the nodes of the version's rows lie in this house
abbrev pub NodesLieIn : List Shelves → Version → Type 0
NodesLieIn nodes s = All (λ (row : UpdateRow). IsIn nodes row.spot) s.rows

-- the stored pages of its rows lie in these houses
abbrev pub PagesLieIn : List House → Version → Type 0
PagesLieIn houses s = All (λ (row : UpdateRow). LieAmong houses (stored_of row)) s.rows

-- both
abbrev pub IsVersionIn : List Shelves → List House → Version → Type 0
IsVersionIn nodes houses s = NodesLieIn nodes s × PagesLieIn houses s
