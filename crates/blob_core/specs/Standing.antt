use Rattle.std.specs.Prelude.{◌≡◌, ℕ, ◌≤◌, ◌^◌, List, length, Some}
use Rattle.blob_model.specs.Limits.{Bounds, IsWithin}
use Rattle.blob_model.specs.Content.{size_of}
use Rattle.blob_model.specs.Store.{Blob, blob_at, assigned, published}
use Rattle.tree_geom.specs.declared.range.Range.{Range}
use Rattle.range_log.specs.Depths.{fold_number}
use Rattle.range_log.specs.Log.{HasNode}
use Rattle.range_log.specs.Updates.{extents, update_at, Replayable}
use Rattle.range_log.specs.Rows.{folded_of, node_of}
use Rattle.blob_core.specs.World.{World, UpdateEntry, empty_world, kept_at, bytes_of_pages, log_of}
use Rattle.blob_core.specs.Woven.{woven, woven_folded}
use Rattle.blob_core.specs.Steps.{AllAllowed, IsNumberedIn, world_after}
use Rattle.blob_core.specs.Promises.{ReadsAreContent}
use Rattle.blob_core.specs.declared.step.Step.{Step}

-- a world, and how many bytes a whole page has in it
pub record Paged : Type 0 where
  pub page : ℕ
  pub world : World

-- a list of allowed steps leads there from the empty world
pub record IsReached (p : ℕ) (w : World) : Type 0 where
  pub limits : Bounds
  pub within : IsWithin limits
  pub some : 1 ≤ p
  pub steps : List Step
  pub allowed : AllAllowed p (empty_world limits) steps
  pub is : w ≡ world_after p (empty_world limits) steps

-- What a writer weaves of update k, which was numbered in the blob: its pages hold the update's bytes, and the pages that it
-- stores anew and the nodes that it weaves for the ranges of its row are the row's.
pub record WeavesRow (p : ℕ) (w : World) (blob : ℕ) (b : Blob) (k : ℕ) : Type 0 where
  pub kept : UpdateEntry
  pub there : kept_at w.updates blob k ≡ Some kept
  pub bytes : bytes_of_pages w.pages kept.pages ≡ (update_at b.updates k).bytes
  pub folded : (i : ℕ) → woven_folded fold_number p w blob b kept k i ≡ folded_of p (extents b.updates) k i
  pub nodes : (r : Range) → HasNode p (log_of p b.updates) k r → woven p w blob b kept k r ≡ node_of p (extents b.updates) k r

-- what the acts rest on in a blob of such a world
pub record IsSound (p : ℕ) (w : World) (blob : ℕ) (b : Blob) : Type 0 where
  pub replay : Replayable b.updates
  pub marks : length b.finished ≡ length b.updates
  pub front : published b ≤ assigned b
  pub few : assigned b ≤ 2 ^ 20
  pub fits : (v : ℕ) → v ≤ assigned b → size_of b.updates v ≤ 2 ^ 40
  pub weaves : (k : ℕ) → IsNumberedIn w blob k b → WeavesRow p w blob b k

-- In a world that is reached each blob is sound, and reads give the content.
pub record Stays (p : ℕ) (w : World) : Type 0 where
  pub blobs : (blob : ℕ) (b : Blob) → blob_at w.store blob ≡ Some b → IsSound p w blob b
  pub reads : ReadsAreContent p w

abbrev pub ReachedStays : Type 0
ReachedStays = (p : ℕ) (w : World) → IsReached p w → Stays p w
