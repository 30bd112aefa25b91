-- A blob of the tests: the house of its nodes, its window, and where each numbered update begins and which pages it has.
use Rattle.std.specs.Prelude.{◌≡◌, ℕ, ◌≤◌, List, length, take, map, Option, IfSome, All}
use Rattle.boxcar.specs.Table.{Shelves}
use Rattle.blob_model.specs.Content.{Update}
use Rattle.blob_model.specs.declared.call.Place.TheVariants.{WriteAt}
use Rattle.tree_geom.specs.declared.touch.Touch.{Touch}
use Rattle.tree_geom.specs.Geometry.{IsPageSize}
use Rattle.range_log.specs.Rows.{folds_of, row_of}
use Rattle.range_log.specs.Updates.{update_at, extents}
use Rattle.page_store.specs.Stored.{Cut, bytes_of_pages}
use Rattle.node_store.specs.House.{IsIn}
use Rattle.node_store.specs.UpdateRows.{UpdateRow}
use Rattle.snapshot.specs.Versions.{NodesLieIn}
use Rattle.border_hints.specs.Numbered.{NumberedUpdate, IsTicketAmong}
use Rattle.tree_weaver.specs.Planned.{RowPlan, own_ranges, ranges_of}
use Rattle.publisher.specs.Windows.{Numbered, WindowHolds}

-- where an update begins, and its pages
pub record Start : Type 0 where
  pub at : ℕ
  pub pages : Cut

-- the house of its nodes, its window, what its updates touch, and where they begin
pub record OneBlob : Type 0 where
  pub nodes : List Shelves
  pub window : Numbered
  pub touches : List Touch
  pub starts : List Start

-- the update that begins so
abbrev pub update_of : Start → Update
update_of s = record { caller = 0; place = WriteAt s.at; bytes = bytes_of_pages s.pages.pages }

-- the updates of the blob
abbrev pub updates_in : OneBlob → List Update
updates_in b = map update_of b.starts

-- the nodes of the row, where there is one, lie in this house
abbrev pub IsRowIfAnyIn : List Shelves → Option UpdateRow → Type 0
IsRowIfAnyIn nodes row = IfSome row (λ (r : UpdateRow). IsIn nodes r.spot)

-- the window stands for the updates, and the nodes of its rows lie in the house
pub record IsOneBlob (b : OneBlob) : Type 0 where
  pub page_size : IsPageSize b.window.page_size
  pub stands : WindowHolds (updates_in b) b.window
  pub paired : length b.window.rows ≡ length b.window.log
  pub touches : b.touches ≡ b.window.log
  pub cut : All (λ (s : Start). s.pages.page_size ≡ b.window.page_size) b.starts
  pub lies : All (IsRowIfAnyIn b.nodes) b.window.rows

-- the ticket stands for the updates up to its own, which has the ticket's pages; the nodes of what was published lie in the house
pub record IsTicketOf (b : OneBlob) (t : NumberedUpdate) : Type 0 where
  pub some : 1 ≤ t.version
  pub numbered : t.version ≤ length b.starts
  pub page_size : t.snapshot.page_size ≡ b.window.page_size
  pub stands : IsTicketAmong t (extents (take t.version (updates_in b)))
  pub bytes : bytes_of_pages t.pages.pages ≡ (update_at (take t.version (updates_in b)) t.version).bytes
  pub lies : NodesLieIn b.nodes t.snapshot

-- the plan is that of the ticket's update
pub record IsPlanOf (b : OneBlob) (t : NumberedUpdate) (plan : RowPlan) : Type 0 where
  pub nodes : plan.nodes ≡ row_of b.window.page_size (extents (take t.version (updates_in b))) t.version
  pub ranges : ranges_of plan.nodes ≡ own_ranges t
  pub folded : plan.folded ≡ folds_of b.window.page_size (extents (take t.version (updates_in b))) t.version
