-- Which step the turn of each act on a desk is. What an act gives is here what its clause says: `Changed`, `Looked`, `Opened`, `Reissued`, `Foreseen`.
use Rattle.std.specs.Prelude.{◌≡◌, ℕ, ◌++◌, ◌≤◌, List, length, reverse, Option, Some, Result, IfOk, IfErr}
use Rattle.std.specs.List.{Contains}
use Rattle.std.specs.Arc.{arc_value}
use Rattle.std.specs.declared.sync.Arc.{Arc}
use Rattle.std.proofs.Common.{Global}
use Rattle.blob_model.specs.declared.call.Place.{Place}
use Rattle.blob_model.specs.declared.call.Call.{Call}
use Rattle.blob_model.specs.declared.call.Call.TheVariants as Calls
use Rattle.blob_model.specs.declared.call.Event.{Event}
use Rattle.blob_model.specs.declared.call.Event.TheVariants as Events
use Rattle.blob_model.specs.declared.call.Outcome.{Outcome}
use Rattle.blob_model.specs.declared.call.Outcome.TheVariants as Outcomes
use Rattle.blob_model.specs.declared.call.Refusal.{Refusal}
use Rattle.tree_geom.specs.declared.range.Range.{Range}
use Rattle.tree_geom.specs.declared.node.Node.{Node}
use Rattle.page_store.specs.Stored.{Cut, IsCut, bytes_of_pages}
use Rattle.node_store.specs.declared.row.Row.{Row}
use Rattle.node_store.specs.UpdateRows.{UpdateRow}
use Rattle.snapshot.specs.Versions.{Version}
use Rattle.border_hints.specs.Numbered.{NumberedUpdate}
use Rattle.blob_core.specs.World.{World, node_at, kept_at}
use Rattle.blob_core.specs.Steps.{after}
use Rattle.blob_core.specs.declared.step.Step.{Step}
use Rattle.blob_core.specs.declared.step.Step.TheVariants as Moves
use Rattle.version_manager.specs.Desks.{IsUnfinished}
use Rattle.version_manager.specs.Log.{IsLog, Looked, Changed, MayAssign, IsNewTicket, MayFinish, Opened, Reissued, Foreseen, desk_at, events}
use Rattle.version_manager.specs.Origins.{origin_in}
use Rattle.version_manager.specs.declared.fault.DeskFault.{DeskFault}
use Rattle.version_manager.specs.declared.fault.OpenFault.{OpenFault}
use Rattle.version_manager.specs.declared.journal.DeskFixed.{DeskFixed}
use Rattle.world_acts.specs.Worlds.{IsWorldOf, IsStep}
use Rattle.world_acts.specs.Pages.{AreThePages}

-- A turn that may change the desk, and leaves this history. Where it is done it is that step; where it is refused or finds no memory it is none.
pub record IsTurn {A E : Type 0} (f : DeskFixed) (w : World) (step : Step) (said : Result A E) (now : List (ℕ × Event)) : Type 0 where
  pub done : IfOk said (λ _. IsStep f w step now)
  pub none : IfErr said (λ _. IsWorldOf f now w)

-- ---- blobs
-- the turn of a create
abbrev pub CreatesAreSteps : Type 0
CreatesAreSteps = (f : DeskFixed) (before now : List (ℕ × Event)) (w : World) (caller : ℕ) (said : Result ℕ DeskFault) → IsWorldOf f before w
    → Changed f Calls.Create (Events.Create caller) (λ blob. Outcomes.Blob blob) (λ fault. fault) before caller said now
    → IsTurn f w (Moves.Create caller) said now

-- the turn of a branch
abbrev pub BranchesAreSteps : Type 0
BranchesAreSteps = (f : DeskFixed) (before now : List (ℕ × Event)) (w : World) (caller blob version : ℕ) (said : Result ℕ DeskFault) → IsWorldOf f before w
    → Changed f (Calls.Branch blob version) (Events.Branch caller blob version) (λ id. Outcomes.Blob id) (λ fault. fault) before caller said now
    → IsTurn f w (Moves.Branch caller blob version) said now

-- ---- a numbering
-- What the world keeps beside the ticket's update is these pages and the ticket's hints. The world has the newest waiting update first, and the
-- ticket the oldest.
abbrev pub KeepsHints : World → List ℕ → NumberedUpdate → Type 0
KeepsHints w numbers t = kept_at w.updates t.blob t.version ≡ Some (record { pages = numbers; published = length t.snapshot.rows; waiting = reverse t.waiting })

-- The ticket's version was numbered in the ticket's blob: it isn't one that a branch shares with its parent.
pub record IsOwn (history : List (ℕ × Event)) (t : NumberedUpdate) : Type 0 where
  pub some : 1 ≤ t.version
  pub own : origin_in (events history) t.blob t.version ≡ t.blob

-- what a numbering leaves of its ticket, in the world and in the history
pub record IsKeptTicket (w : World) (numbers : List ℕ) (now : List (ℕ × Event)) (t : NumberedUpdate) : Type 0 where
  pub hints : KeepsHints w numbers t
  pub own : IsOwn now t

-- the turn of a numbering, whose pages were put before; its ticket has the hints that the world keeps
abbrev pub NumberingsAreSteps : Type 0
NumberingsAreSteps = (f : DeskFixed) (before now : List (ℕ × Event)) (w : World) (caller blob : ℕ) (place : Place) (pages : Cut) (numbers : List ℕ) (said : Result NumberedUpdate DeskFault)
    → IsWorldOf f before w → MayAssign pages f → IsCut f.page_size pages.pages → AreThePages w.pages numbers pages.pages
    → Changed f (Calls.Assign blob place (bytes_of_pages pages.pages)) (Events.Assign caller blob place (bytes_of_pages pages.pages))
    (λ t. Outcomes.Assigned t.version t.at t.size) (λ fault. fault) before caller said now
    → IfOk said (λ t. IsNewTicket f blob caller pages before now t)
    → IsTurn f w (Moves.Assign caller blob place numbers) said now
    × IfOk said (λ t. IsKeptTicket (after f.page_size w (Moves.Assign caller blob place numbers)) numbers now t)

-- A version that waits was numbered in its blob, and so it is in each longer history.
abbrev pub WaitingAreOwn : Type 0
WaitingAreOwn = (f : DeskFixed) (history more : List (ℕ × Event)) (t : NumberedUpdate) → IsLog f history
    → IsUnfinished (desk_at f history) t.blob t.version → IsOwn (history ++ more) t

-- ---- a finish
-- each node of the row was put: the world has it under the row's blob and version
abbrev pub RowWasPut : World → UpdateRow → Type 0
RowWasPut w row = (r : Range) (n : Node) → Contains row.nodes (r, n) → node_at w.nodes (record { blob = row.blob; version = row.version; range = r }) ≡ Some n

-- the turn of a finish, whose row was put before
abbrev pub FinishesAreSteps : Type 0
FinishesAreSteps = (f : DeskFixed) (before now : List (ℕ × Event)) (w : World) (caller : ℕ) (t : NumberedUpdate) (row : Arc Row Global) (said : Result ℕ (DeskFault × Arc Row Global))
    → IsWorldOf f before w → MayFinish t (arc_value row) before f → RowWasPut w (arc_value row)
    → Changed f (Calls.Finish t.blob t.version) (Events.Finish caller t.blob t.version) (λ published. Outcomes.Published published) (λ e. e.0) before caller said now
    → IsTurn f w (Moves.Finish caller t.blob t.version) said now

-- ---- looks
-- A turn that only looks is no step: the world is one of the history that it leaves too. So are the looks at a blob or a version, the opening of a
-- version, the ticket of a waiting version, and what would be refused of an update.
pub record LooksAreNoSteps : Type 0 where
  pub looked : (f : DeskFixed) (before now : List (ℕ × Event)) (w : World) (caller : ℕ) (call : Call) (said : Outcome) → IsWorldOf f before w
      → Looked f call before caller said now → IsWorldOf f now w
  pub opened : (f : DeskFixed) (before now : List (ℕ × Event)) (w : World) (caller blob version : ℕ) (said : Result Version OpenFault) → IsWorldOf f before w
      → Opened f blob version before caller said now → IsWorldOf f now w
  pub reissued : (f : DeskFixed) (before now : List (ℕ × Event)) (w : World) (blob version : ℕ) (said : Result NumberedUpdate DeskFault) → IsWorldOf f before w
      → Reissued f blob version before said now → IsWorldOf f now w
  pub foreseen : (f : DeskFixed) (before now : List (ℕ × Event)) (w : World) (caller blob : ℕ) (place : Place) (len : ℕ) (said : Option Refusal) → IsWorldOf f before w
      → Foreseen f blob place len before caller said now → IsWorldOf f now w
