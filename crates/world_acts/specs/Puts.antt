-- Which step each put is of what a ticket's update weaves: a page that it stores anew, and a node of its row.
use Rattle.std.specs.Prelude.{◌≡◌, ℕ, ◌+◌, ◌++◌, ◌≤◌, List, length, Some, Ok}
use Rattle.std.specs.List.{Contains}
use Rattle.blob_model.specs.declared.call.Event.{Event}
use Rattle.tree_geom.specs.declared.range.Range.{Range}
use Rattle.tree_geom.specs.declared.node.Node.{Node}
use Rattle.tree_geom.specs.declared.node.NodeKey.{NodeKey}
use Rattle.tree_geom.specs.Geometry.{page_range}
use Rattle.range_log.specs.Extents.{Extent}
use Rattle.range_log.specs.Rows.{row_of, folds_of}
use Rattle.snapshot.specs.Versions.{Version}
use Rattle.snapshot.specs.Laws.{TellUpdates}
use Rattle.border_hints.specs.Numbered.{NumberedUpdate, IsTicketAmong, IsValidTicket}
use Rattle.tree_weaver.specs.Anew.{IsStoredAnew, KnowsBefore, bytes_anew}
use Rattle.tree_weaver.specs.Planned.{RowPlan}
use Rattle.blob_core.specs.World.{World, IsKnown, node_at, fold_at}
use Rattle.blob_core.specs.Steps.{after}
use Rattle.blob_core.specs.declared.step.Step.TheVariants as Moves
use Rattle.version_manager.specs.Desks.{IsTicketOf, HasHints, HasHintsBelow, updates_in, published_in}
use Rattle.version_manager.specs.Log.{IsLog, Opened, desk_at}
use Rattle.version_manager.specs.declared.journal.DeskFixed.{DeskFixed}
use Rattle.world_acts.specs.Worlds.{IsWorldOf, IsStep}
use Rattle.world_acts.specs.Turns.{IsOwn}

-- ---- hints
-- the rows of the ticket's snapshot are those of published updates of its blob
pub record IsHinted (f : DeskFixed) (history : List (ℕ × Event)) (t : NumberedUpdate) : Type 0 where
  pub published : length t.snapshot.rows ≤ published_in (desk_at f history) t.blob
  pub tells : TellUpdates f.page_size (updates_in (desk_at f history) t.blob) t.snapshot.rows

-- So it is of each ticket that the desk hands out, then and in each longer history: of a numbering's, of one that is handed out again for a waiting
-- version, and of one whose snapshot was opened.
pub record HintsStay : Type 0 where
  pub numbered : (f : DeskFixed) (history more : List (ℕ × Event)) (t : NumberedUpdate) → IsLog f history → HasHints (desk_at f history) t.blob t → IsHinted f (history ++ more) t
  pub reissued : (f : DeskFixed) (history more : List (ℕ × Event)) (t : NumberedUpdate) → IsLog f history → HasHintsBelow (desk_at f history) t.blob t → IsHinted f (history ++ more) t
  pub opened : (f : DeskFixed) (before now more : List (ℕ × Event)) (caller version : ℕ) (s : Version) (t : NumberedUpdate) → Opened f t.blob version before caller (Ok s) now
      → t.snapshot ≡ s → IsHinted f (now ++ more) t

-- ---- pages that are stored anew
-- One put through a door of a page that the ticket's update stores anew, where the ticket's snapshot is the version before its own. The bytes are
-- those that a walk of the world brings of the version before, under the update's own.
abbrev pub FoldPutsAreSteps : Type 0
FoldPutsAreSteps = (f : DeskFixed) (history : List (ℕ × Event)) (w : World) (t : NumberedUpdate) (page : ℕ) → IsWorldOf f history w → IsValidTicket t
    → IsTicketOf (desk_at f history) t → IsOwn history t
    → IsHinted f history t → KnowsBefore t → IsStoredAnew t page
    → IsStep f w (Moves.FoldPut t.blob t.version page) history
    × (fold_at (after f.page_size w (Moves.FoldPut t.blob t.version page)).folded t.blob t.version page ≡ Some (bytes_anew t page))

-- where a world has a page that an update stored anew, the version before the update is published
abbrev pub FoldsFollow : Type 0
FoldsFollow = (f : DeskFixed) (history : List (ℕ × Event)) (w : World) (blob version page : ℕ) (bytes : List ℕ) → IsWorldOf f history w
    → fold_at w.folded blob version page ≡ Some bytes → version ≤ published_in (desk_at f history) blob + 1

-- ---- nodes
-- the key of the ticket's node for a range
abbrev pub key_of : NumberedUpdate → Range → NodeKey
key_of t r = record { blob = t.blob; version = t.version; range = r }

-- One put of a node of a plan, which is what `plan` says of the row that it gives; where the node is a leaf that stores its page anew, the page was
-- put before. It is the node that the world weaves of the hints that it keeps, whatever was published since the numbering.
abbrev pub NodePutsAreSteps : Type 0
NodePutsAreSteps = (f : DeskFixed) (history : List (ℕ × Event)) (w : World) (t : NumberedUpdate) (planned : RowPlan) (r : Range) (n : Node) → IsWorldOf f history w
    → IsTicketOf (desk_at f history) t → IsOwn history t
    → ((us : List Extent) → IsTicketAmong t us → planned.nodes ≡ row_of t.snapshot.page_size us t.version)
    → ((us : List Extent) → IsTicketAmong t us → planned.folded ≡ folds_of t.snapshot.page_size us t.version)
    → Contains planned.nodes (r, n)
    → ((page : ℕ) → r ≡ page_range f.page_size page → Contains planned.folded page → IsKnown (fold_at w.folded t.blob t.version page))
    → IsStep f w (Moves.NodePut (key_of t r)) history
    × (node_at (after f.page_size w (Moves.NodePut (key_of t r))).nodes (key_of t r) ≡ Some n)
