-- How a desk keeps its blobs.
use Rattle.std.specs.Prelude.{◌≡◌, ℕ, suc, ◌+◌, ◌^◌, ◌<◌, ◌≤◌, List, [], ◌∷◌, length, map, Some, slice_get}
use Rattle.std.specs.Arc.{arc_value}
use Rattle.blob_model.specs.Content.{Update}
use Rattle.blob_model.specs.Limits.{Bounds}
use Rattle.blob_model.specs.Store.{Blob, empty_store, assigned, waiting, size_now}
use Rattle.blob_model.specs.Answer.{Test, offset_past_size, blob_too_big, too_many_versions, too_many_open}
use Rattle.blob_model.specs.History.{store_of, IsLegal}
use Rattle.blob_model.specs.declared.call.Place.{Place}
use Rattle.blob_model.specs.declared.call.Event.{Event}
use Rattle.tree_geom.specs.Geometry.{IsPageSize}
use Rattle.boxcar.specs.Table.{Shelves}
use Rattle.page_store.specs.House.{House}
use Rattle.page_store.specs.Stored.{bytes_of_pages, LieAmong}
use Rattle.range_log.specs.Updates.{update_at, extent_of}
use Rattle.publisher.specs.Windows.{Numbered, WindowState, finished_of, published_of, WindowHolds}
use Rattle.version_manager.specs.declared.waiting.WaitingUpdate.{WaitingUpdate}
use Rattle.version_manager.specs.Desks.{LieIn}
use Rattle.version_manager.specs.Folds.{AreInOrder}
use Rattle.version_manager.specs.Origins.{parents_of, KeepsOrigins}

-- the window keeps the blob of that id: it stands for its updates, and tells which of them are finished; the blob is within the limits
pub record IsBlobKept (limits : Bounds) (p id : ℕ) (b : Blob) (w : Numbered) : Type 0 where
  pub blob : w.blob ≡ id
  pub page_size : w.page_size ≡ p
  pub stands : WindowHolds b.updates w
  pub finished : b.finished ≡ finished_of w
  pub versions : assigned b ≤ limits.max_versions
  pub waiting : waiting b ≤ limits.max_open
  pub size : size_now b ≤ limits.max_size

-- the window keeps the blob, under the id and the page size that it has
abbrev pub Keeps : Bounds → Numbered → Blob → Type 0
Keeps limits w b = IsBlobKept limits w.page_size w.blob b w

-- what an update is refused for, in order
abbrev pub update_tests : Bounds → Blob → Place → List ℕ → List Test
update_tests limits b place bytes =
    offset_past_size b place ∷ blob_too_big (empty_store limits) b place bytes ∷ too_many_versions (empty_store limits) b ∷ too_many_open (empty_store limits) b ∷ []

-- ---- the updates that wait
-- it tells of update v of these: who made it, where it begins, and the pages of its bytes, which lie in these houses
pub record IsWaitingUpdate (p : ℕ) (houses : List House) (us : List Update) (v : ℕ) (u : WaitingUpdate) : Type 0 where
  pub numbered : v ≤ length us
  pub caller : u.caller ≡ (update_at us v).caller
  pub at : u.at ≡ (extent_of us v).at
  pub bytes : bytes_of_pages (arc_value u.pages).pages ≡ (update_at us v).bytes
  pub page_size : (arc_value u.pages).page_size ≡ p
  pub here : LieAmong houses (arc_value u.pages).pages

-- it tells so of each of these updates that the window doesn't publish, by version
abbrev pub AreWaiting : ℕ → List House → List Update → WindowState WaitingUpdate → Type 0
AreWaiting p houses us w = (i : ℕ) (u : WaitingUpdate) → slice_get w.updates i ≡ Some u → IsWaitingUpdate p houses us (suc (published_of w.numbered + i)) u

-- ---- the desk
-- the window keeps the blob of that id, and its updates that wait
pub record IsWindowOf (limits : Bounds) (p : ℕ) (houses : List House) (id : ℕ) (b : Blob) (w : WindowState WaitingUpdate) : Type 0 where
  pub kept : IsBlobKept limits p id b w.numbered
  pub waits : AreWaiting p houses b.updates w

-- The history is legal, and the windows keep the blobs of its store.
pub record KeepsDesk (limits : Bounds) (p : ℕ) (houses : List House) (history : List Event) (windows : List (WindowState WaitingUpdate)) : Type 0 where
  pub legal : IsLegal limits history
  pub page_size : IsPageSize p
  pub few : length windows ≤ limits.max_blobs
  pub count : length (store_of limits history).blobs ≡ length windows
  pub each : (i : ℕ) (b : Blob) (w : WindowState WaitingUpdate) → slice_get (store_of limits history).blobs i ≡ Some b → slice_get windows i ≡ Some w
      → IsWindowOf limits p houses (suc i) b w

-- what a clause sees of a desk's windows: the numbered updates
abbrev pub seen_in : WindowState WaitingUpdate → Numbered
seen_in w = w.numbered

abbrev pub numbered_of : List (WindowState WaitingUpdate) → List Numbered
numbered_of windows = map seen_in windows

-- The desk keeps its blobs, its rows lie in its houses, each under the blob that its version was numbered in, and its history is short.
-- Updates that store pages anew were finished in order.
pub record IsDesk (limits : Bounds) (p : ℕ) (houses : List House) (nodes : List Shelves) (history : List Event) (windows : List (WindowState WaitingUpdate)) : Type 0 where
  pub kept : KeepsDesk limits p houses history windows
  pub lies : LieIn nodes houses (numbered_of windows)
  pub origins : KeepsOrigins (parents_of history) (numbered_of windows)
  pub short : length history < 2 ^ 38
  pub in_order : AreInOrder p limits history
