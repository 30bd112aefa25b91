use Rattle.std.specs.Prelude.{◌≡◌, ℕ, ◌-◌, ◌≤◌, ◌^◌, true, List, Option, Some, None, MatchOption, take, slice_get}
use Rattle.std.specs.List.{Contains}
use Rattle.blob_model.specs.Content.{size_of}
use Rattle.blob_model.specs.Store.{Blob, assigned}
use Rattle.tree_geom.specs.declared.range.Range.{Range}
use Rattle.tree_geom.specs.declared.touch.Touch.{Touch}
use Rattle.tree_geom.specs.declared.node.Node.{Node}
use Rattle.tree_geom.specs.declared.node.NodeKey.{NodeKey}
use Rattle.tree_geom.specs.Geometry.{Meets, page_range}
use Rattle.range_log.specs.Log.{touch_at}
use Rattle.range_log.specs.Rows.{folded_of, row_keys_of}
use Rattle.range_log.specs.Updates.{extents, Replayable}
use Rattle.blob_core.specs.World.{World, bytes_of_pages, AreCut, IsKnown, fold_at, node_at, log_of}
use Rattle.blob_core.specs.declared.world.FoldKey.{FoldKey}
use Rattle.blob_core.specs.Steps.{IsAllowed, IsNumberedIn, AllAllowed, after, world_after}
use Rattle.blob_core.specs.declared.step.Step.{Step}

-- the step was allowed, and the world is the one that it leaves
pub record IsDone (p : ℕ) (old : World) (step : Step) (new : World) : Type 0 where
  pub allowed : IsAllowed p old step
  pub is : new ≡ after p old step

-- the bytes of some pages, joined, where they may be those of an update
abbrev pub AreJoined : ℕ → List (ℕ × List ℕ) → List ℕ → Option (List ℕ) → Type 0
AreJoined p stored numbers bytes = MatchOption bytes (¬ AreCut p stored numbers) (λ b. AreCut p stored numbers × (b ≡ bytes_of_pages stored numbers))

-- The log is what the blob's updates touch. There are no more of them, and none leaves more bytes, than a store may have.
pub record IsLogOf (p : ℕ) (b : Blob) (log : List Touch) : Type 0 where
  pub replay : Replayable b.updates
  pub few : assigned b ≤ 2 ^ 20
  pub fits : (v : ℕ) → v ≤ assigned b → size_of b.updates v ≤ 2 ^ 40
  pub is : log ≡ log_of p b.updates

-- the version was numbered in the blob; what the blob's updates touch, and the ranges of the version's row
pub record IsRowOf (p : ℕ) (w : World) (blob version : ℕ) (log : List Touch) (keys : List Range) : Type 0 where
  pub b : Blob
  pub own : IsNumberedIn w blob version b
  pub touches : IsLogOf p b log
  pub ranges : keys ≡ row_keys_of p (log_of p b.updates) version

-- the key is that of a page that its version's update stores anew, and the page isn't there
pub record LacksFold (p : ℕ) (folded : List (FoldKey × List ℕ)) (key : NodeKey) (b : Blob) : Type 0 where
  pub page : ℕ
  pub leaf : key.range ≡ page_range p page
  pub met : Meets p (touch_at (log_of p b.updates) key.version) (page_range p page)
  pub anew : folded_of p (extents b.updates) key.version page ≡ true
  pub missing : fold_at folded key.blob key.version page ≡ None

-- where the key is that of such a page, the page is there
abbrev pub HasFold : ℕ → List (FoldKey × List ℕ) → NodeKey → Blob → Type 0
HasFold p folded key b =
    (page : ℕ) → key.range ≡ page_range p page → Meets p (touch_at (log_of p b.updates) key.version) (page_range p page)
    → folded_of p (extents b.updates) key.version page ≡ true → IsKnown (fold_at folded key.blob key.version page)

-- the version wasn't numbered in the blob
abbrev pub NotNumberedIn : World → ℕ → ℕ → Type 0
NotNumberedIn w blob version = (b : Blob) → ¬ IsNumberedIn w blob version b

-- there is a node of the version for each range
abbrev pub AreThere : List (NodeKey × Node) → ℕ → ℕ → List Range → Type 0
AreThere nodes blob version keys = (r : Range) → Contains keys r → IsKnown (node_at nodes (record { blob = blob; version = version; range = r }))

-- step number i, from 1, is the first that isn't allowed in the world of the steps before it
pub record IsFirstRefused (p : ℕ) (w : World) (steps : List Step) (i : ℕ) : Type 0 where
  pub some : 1 ≤ i
  pub step : Step
  pub there : slice_get steps (i - 1) ≡ Some step
  pub before : AllAllowed p w (take (i - 1) steps)
  pub refused : ¬ IsAllowed p (world_after p w (take (i - 1) steps)) step
