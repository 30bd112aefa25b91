-- The pages of the blob that a numbered update stores anew, and why one is not stored.
use Rattle.std.specs.Prelude.{◌≡◌, ◌≢◌, ℕ, ◌+◌, ◌*◌, ◌<◌, ◌≤◌, List, [], length, max, take, drop, Some, slice_get}
use Rattle.std.specs.List.{Contains}
use Rattle.blob_model.specs.Content.{put}
use Rattle.range_log.specs.Extents.{Extent}
use Rattle.range_log.specs.Rows.{folds_of, leaf_start, leaf_from, leaf_len}
use Rattle.page_store.specs.Stored.{Stored, bytes_of_pages}
use Rattle.page_fan.specs.Lost.{NoneTook}
use Rattle.snapshot.specs.Versions.{size_now}
use Rattle.border_hints.specs.Numbered.{NumberedUpdate, IsTicketAmong}
use Rattle.range_reader.specs.Reading.{page_in}
use Rattle.range_reader.specs.Faults.{AllRose, PageFailed}
use Rattle.tree_weaver.specs.Planned.{own_extent}
use Rattle.tree_weaver.specs.declared.folding.WeaveFault.{WeaveFault}
use Rattle.tree_weaver.specs.declared.folding.WeaveFault.TheVariants as fault

-- ---- which they are, among whichever updates it stands for
-- it stores none anew
abbrev pub StoresNoneAnew : NumberedUpdate → Type 0
StoresNoneAnew t = (us : List Extent) → IsTicketAmong t us → folds_of t.snapshot.page_size us t.version ≡ []

-- it stores some anew
abbrev pub StoresSomeAnew : NumberedUpdate → Type 0
StoresSomeAnew t = (us : List Extent) → IsTicketAmong t us → folds_of t.snapshot.page_size us t.version ≢ []

-- page i is one of them
abbrev pub IsStoredAnew : NumberedUpdate → ℕ → Type 0
IsStoredAnew t i = (us : List Extent) → IsTicketAmong t us → Contains (folds_of t.snapshot.page_size us t.version) i

-- its snapshot is the version before it, if it stores a page anew
abbrev pub KnowsBefore : NumberedUpdate → Type 0
KnowsBefore t = (us : List Extent) → IsTicketAmong t us → folds_of t.snapshot.page_size us t.version ≢ [] → length t.snapshot.rows + 1 ≡ t.version

-- ---- a page of an update whose snapshot is the version before it
-- the page has bytes there, and the update writes some of its bytes
pub record IsChanged (t : NumberedUpdate) (i : ℕ) : Type 0 where
  pub older : i * t.snapshot.page_size < size_now t.snapshot
  pub begins : t.at < (i + 1) * t.snapshot.page_size
  pub ends : i * t.snapshot.page_size < t.at + t.len
  pub at : t.at ≤ size_now t.snapshot
  pub size : t.size ≡ max (size_now t.snapshot) (t.at + t.len)

-- the bytes of the update that lie in page i
abbrev pub own_part : NumberedUpdate → ℕ → List ℕ
own_part t i = take (leaf_len t.snapshot.page_size (own_extent t) i) (drop (leaf_from t.snapshot.page_size (own_extent t) i) (bytes_of_pages t.pages.pages))

-- and the bytes of the page after the update: those put over the bytes that it had before
abbrev pub bytes_anew : NumberedUpdate → ℕ → List ℕ
bytes_anew t i = put (page_in t.snapshot (length t.snapshot.rows) i) (leaf_start t.snapshot.page_size (own_extent t) i) (own_part t i)

-- ---- why one is not stored; the counts of the doors were `before`, and are `now`
-- every door failed of the update's stored page of that number
pub record OwnLost (t : NumberedUpdate) (before now : List ℕ) (number : ℕ) : Type 0 where
  pub stored : Stored
  pub is : slice_get t.pages.pages number ≡ Some stored
  pub failed : AllRose before now stored.spots

-- so it was for one of its stored pages in which its n bytes from byte b on lie
pub record OwnFailed (t : NumberedUpdate) (before now : List ℕ) (b n : ℕ) : Type 0 where
  pub number : ℕ
  pub begins : number * t.snapshot.page_size < b + n
  pub ends : b < (number + 1) * t.snapshot.page_size
  pub lost : OwnLost t before now number

-- page i couldn't be read at the version before, or the update's own bytes of it couldn't, or no door took it
pub data FoldFailed (t : NumberedUpdate) (providers replicas : ℕ) (before now : List ℕ) (i : ℕ) : Type 0 where
  Unread : PageFailed t.snapshot before now i → FoldFailed t providers replicas before now i
  Unfetched : OwnFailed t before now (leaf_from t.snapshot.page_size (own_extent t) i) (leaf_len t.snapshot.page_size (own_extent t) i) → FoldFailed t providers replicas before now i
  Untaken : NoneTook providers replicas before now → FoldFailed t providers replicas before now i

-- a fact on the page of the blob, where one was lost
abbrev pub OnLostFold : WeaveFault → (ℕ → Type 0) → Type 0
OnLostFold (fault.PageFault page) P = P page
OnLostFold fault.NoMemory P = Unit {0}
