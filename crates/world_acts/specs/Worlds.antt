-- Which worlds of steps a desk's history has.
use Rattle.std.specs.Prelude.{◌≡◌, ℕ, List, [], Some}
use Rattle.blob_model.specs.Limits.{Bounds, IsWithin}
use Rattle.blob_model.specs.History.{store_of}
use Rattle.blob_model.specs.declared.call.Event.{Event}
use Rattle.tree_geom.specs.declared.node.Node.{Node}
use Rattle.tree_geom.specs.declared.node.NodeKey.{NodeKey}
use Rattle.tree_geom.specs.Geometry.{IsPageSize}
use Rattle.blob_core.specs.World.{World, UpdateEntry, empty_world, page_at, node_at, kept_at, fold_at}
use Rattle.blob_core.specs.Steps.{IsAllowed, AllAllowed, after, world_after, events_from}
use Rattle.blob_core.specs.Standing.{IsReached}
use Rattle.blob_core.specs.declared.step.Step.{Step}
use Rattle.version_manager.specs.declared.journal.DeskFixed.{DeskFixed}
use Rattle.version_manager.specs.Folds.{AreInOrder}
use Rattle.version_manager.specs.Log.{IsLog, events}
use Rattle.version_manager.specs.Origins.{parents_of}

-- The world is one of the history of a desk with these fixed data: allowed steps lead to it from the empty world with the desk's limits, at
-- the desk's page size, and those of them that change the store are the history's events, in its order. A history has many worlds, which
-- differ in the pages and nodes that were put so far, and in the numbers of the pages.
pub record IsWorldOf (f : DeskFixed) (history : List (ℕ × Event)) (w : World) : Type 0 where
  pub within : IsWithin f.limits
  pub page_size : IsPageSize f.page_size
  pub log : IsLog f history
  pub steps : List Step
  pub allowed : AllAllowed f.page_size (empty_world f.limits) steps
  pub is : w ≡ world_after f.page_size (empty_world f.limits) steps
  pub changes : events_from f.page_size (empty_world f.limits) steps ≡ events history

-- the step may be taken in the world, and leads to a world of this history
pub record IsStep (f : DeskFixed) (w : World) (step : Step) (history : List (ℕ × Event)) : Type 0 where
  pub allowed : IsAllowed f.page_size w step
  pub leads : IsWorldOf f history (after f.page_size w step)

-- ---- what is true of each world of a history
-- the empty world is one of the empty history
abbrev pub EmptyIsAWorld : Type 0
EmptyIsAWorld = (f : DeskFixed) → IsWithin f.limits → IsPageSize f.page_size → IsWorldOf f [] (empty_world f.limits)

-- what `steps_hold` says of reached worlds is true of it
abbrev pub WorldsAreReached : Type 0
WorldsAreReached = (f : DeskFixed) (history : List (ℕ × Event)) (w : World) → IsWorldOf f history w → IsReached f.page_size w

-- its store is that of the history
abbrev pub StoresAgree : Type 0
StoresAgree = (f : DeskFixed) (history : List (ℕ × Event)) (w : World) → IsWorldOf f history w → w.store ≡ store_of f.limits (events history)

-- its lineage is the parents that the history gives to its blobs
abbrev pub LineagesAgree : Type 0
LineagesAgree = (f : DeskFixed) (history : List (ℕ × Event)) (w : World) → IsWorldOf f history w → w.lineage ≡ parents_of (events history)

-- ---- what stays
-- The later world has all that the earlier one has, and there as it was: each page, the pages and hints kept beside each update, each page that an
-- update stored anew, and each node.
pub record HasAllOf (old new : World) : Type 0 where
  pub pages : (page : ℕ) (bytes : List ℕ) → page_at old.pages page ≡ Some bytes → page_at new.pages page ≡ Some bytes
  pub updates : (blob version : ℕ) (kept : UpdateEntry) → kept_at old.updates blob version ≡ Some kept → kept_at new.updates blob version ≡ Some kept
  pub folded : (blob version page : ℕ) (bytes : List ℕ) → fold_at old.folded blob version page ≡ Some bytes → fold_at new.folded blob version page ≡ Some bytes
  pub nodes : (key : NodeKey) (n : Node) → node_at old.nodes key ≡ Some n → node_at new.nodes key ≡ Some n

-- whatever allowed steps are taken from a world of a history, it keeps what it has
abbrev pub WorldsOnlyGrow : Type 0
WorldsOnlyGrow = (f : DeskFixed) (history : List (ℕ × Event)) (w : World) (steps : List Step) → IsWorldOf f history w → AllAllowed f.page_size w steps
    → HasAllOf w (world_after f.page_size w steps)

-- ---- which histories have a world
-- Each history of a desk has a world: no update that stores a page anew is finished in it before the version before it is published.
abbrev pub HistoriesHaveWorlds : Type 0
HistoriesHaveWorlds = (f : DeskFixed) (history : List (ℕ × Event)) → IsWithin f.limits → IsPageSize f.page_size → IsLog f history → (w : World) × IsWorldOf f history w

-- No allowed steps make another history: in theirs finishes are in that order too.
abbrev pub StepsAreInOrder : Type 0
StepsAreInOrder = (p : ℕ) (limits : Bounds) (steps : List Step) → IsPageSize p → AllAllowed p (empty_world limits) steps → AreInOrder p limits (events_from p (empty_world limits) steps)
