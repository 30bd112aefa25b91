use Rattle.std.specs.Prelude.{◌≡◌, ℕ, ◌≤◌, true, List, Some}
use Rattle.std.specs.List.{Contains}
use Rattle.blob_model.specs.Limits.{Bounds}
use Rattle.blob_model.specs.Store.{Blob, blob_at, assigned, published, is_finished}
use Rattle.blob_model.specs.Answer.{answer}
use Rattle.blob_model.specs.History.{store_of, IsLegal}
use Rattle.blob_model.specs.declared.call.Call.TheVariants as Calls
use Rattle.blob_model.specs.declared.call.Outcome.TheVariants as Outcomes
use Rattle.tree_geom.specs.declared.range.Range.{Range}
use Rattle.tree_geom.specs.declared.node.Node.{Node}
use Rattle.tree_geom.specs.declared.node.NodeKey.{NodeKey}
use Rattle.tree_geom.specs.Geometry.{Aligned}
use Rattle.range_log.specs.Log.{HasNode, newest_of}
use Rattle.range_log.specs.Updates.{extents, page_bytes}
use Rattle.range_log.specs.Rows.{row_keys_of, node_of}
use Rattle.range_log.specs.Visits.{visits}
use Rattle.range_log.specs.Walk.{root_of}
use Rattle.blob_core.specs.World.{World, IsKnown, empty_world, fold_at, node_at, node_in, log_of}
use Rattle.blob_core.specs.Woven.{found_in}
use Rattle.blob_core.specs.Steps.{world_after, AllAllowed, IsAllowed, events_from}
use Rattle.blob_core.specs.Walk.{Way, reached, read_walk}
use Rattle.blob_core.specs.declared.step.Step.{Step}
use Rattle.blob_core.specs.declared.step.Step.TheVariants as Moves

-- the node under a key is that of the key's version in the row of its blob's updates
pub record IsRowNode (p : ℕ) (w : World) (key : NodeKey) (n : Node) : Type 0 where
  pub b : Blob
  pub there : blob_at w.store key.blob ≡ Some b
  pub has : HasNode p (log_of p b.updates) key.version key.range
  pub is : n ≡ node_of p (extents b.updates) key.version key.range

-- every node that is there is the row's node for its key
abbrev pub NodesAreRows : ℕ → World → Type 0
NodesAreRows p w = (key : NodeKey) (n : Node) → node_at w.nodes key ≡ Some n → IsRowNode p w key n

-- the bytes of a page that an update stored anew are the page's valid bytes at the update's version
pub record IsFoldPage (p : ℕ) (w : World) (blob version page : ℕ) (bytes : List ℕ) : Type 0 where
  pub b : Blob
  pub there : blob_at w.store blob ≡ Some b
  pub upto : version ≤ assigned b
  pub is : bytes ≡ page_bytes p b.updates version page

-- every page that an update stored anew has the valid bytes of that page of the update's version
abbrev pub FoldsArePages : ℕ → World → Type 0
FoldsArePages p w = (blob version page : ℕ) (bytes : List ℕ) → fold_at w.folded blob version page ≡ Some bytes → IsFoldPage p w blob version page bytes

-- once an update is finished, the store has a node under each key of its row
abbrev pub FinishedRowsAreThere : ℕ → World → Type 0
FinishedRowsAreThere p w =
    (blob version : ℕ) (b : Blob) (r : Range) → blob_at w.store blob ≡ Some b → 1 ≤ version → version ≤ assigned b → is_finished b version ≡ true
    → Contains (row_keys_of p (log_of p b.updates) version) r → IsKnown (node_in w blob version r)

-- every node that links and backs lead to from the root of a published version is there
abbrev pub ReachedIsThere : ℕ → World → Type 0
ReachedIsThere p w =
    (blob version : ℕ) (b : Blob) (ways : List Way) → blob_at w.store blob ≡ Some b → 1 ≤ version → version ≤ published b
    → 1 ≤ (reached w blob version (root_of p (log_of p b.updates) version) ways).version
    → IsKnown (node_in w blob (reached w blob version (root_of p (log_of p b.updates) version) ways).version (reached w blob version (root_of p (log_of p b.updates) version) ways).range)

-- the nodes that are there lead from a published root to the newest version that touches a range
abbrev pub FoundIsNewest : ℕ → World → Type 0
FoundIsNewest p w =
    (blob version : ℕ) (b : Blob) (r : Range) → blob_at w.store blob ≡ Some b → version ≤ published b → Aligned p r
    → found_in p w blob (log_of p b.updates) version r ≡ newest_of p (log_of p b.updates) version r

-- a read gives the content asked for, through no more nodes than the visit bound
abbrev pub ReadsAreContent : ℕ → World → Type 0
ReadsAreContent p w =
    (blob version offset count : ℕ) (b : Blob) → IsAllowed p w (Moves.Read blob version offset count) → blob_at w.store blob ≡ Some b
    → ((answer w.store 0 (Calls.Read blob version offset count)).1 ≡ Outcomes.Content (read_walk p w blob b version offset count).bytes)
    × ((read_walk p w blob b version offset count).nodes ≤ visits p (extents b.updates) version offset count)

-- The promises of a world that some steps led to.
pub record Holds (p : ℕ) (limits : Bounds) (steps : List Step) (w : World) : Type 0 where
  pub legal : IsLegal limits (events_from p (empty_world limits) steps)
  pub store : w.store ≡ store_of limits (events_from p (empty_world limits) steps)
  pub nodes : NodesAreRows p w
  pub folds : FoldsArePages p w
  pub rows : FinishedRowsAreThere p w
  pub found : FoundIsNewest p w
  pub reached : ReachedIsThere p w
  pub reads : ReadsAreContent p w

-- Whatever allowed steps are taken from the empty world, in whatever order, the promises hold of the world they lead to.
abbrev pub StepsHold : Type 0
StepsHold = (p : ℕ) (limits : Bounds) (steps : List Step) → 1 ≤ p → AllAllowed p (empty_world limits) steps
    → Holds p limits steps (world_after p (empty_world limits) steps)
