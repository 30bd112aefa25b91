-- Under which blob's id the nodes of each version lie.
use Rattle.std.specs.Prelude.{◌≡◌, ℕ, suc, List, [], ◌∷◌, length, Option, None, Some, slice_get, slice_index_or}
use Rattle.blob_model.specs.declared.call.Event.{Event}
use Rattle.blob_model.specs.declared.call.Event.TheVariants as Events
use Rattle.branching.specs.Parents.{origin_of}
use Rattle.branching.specs.declared.Parent.{Parent}
use Rattle.node_store.specs.UpdateRows.{UpdateRow}
use Rattle.publisher.specs.Windows.{Numbered}

-- ---- where a version was numbered
-- the parents of the blobs, the newest first, after an event
abbrev pub parents_after : List (Option Parent) → Event → List (Option Parent)
parents_after parents (Events.Create caller) = None ∷ parents
parents_after parents (Events.Assign caller blob place bytes) = parents
parents_after parents (Events.Finish caller blob version) = parents
parents_after parents (Events.Branch caller blob version) = Some (record { blob = blob; version = version }) ∷ parents

-- the parents of the blobs after these events in turn
abbrev pub parents_from : List (Option Parent) → List Event → List (Option Parent)
parents_from parents [] = parents
parents_from parents (e ∷ es) = parents_from (parents_after parents e) es

-- the parents of the blobs that a history makes: none for a blob that was created, and for a branch the blob and the version that it was taken at
abbrev pub parents_of : List Event → List (Option Parent)
parents_of history = parents_from [] history

-- the blob that the version of a blob was numbered in: the blob itself, but the parent's for a version of a branch up to the one that it was taken at
abbrev pub origin_in : List Event → ℕ → ℕ → ℕ
origin_in history blob version = origin_of (parents_of history) blob version

-- ---- where its row lies
-- Each of these rows of a blob, that of version 1 first, is stored under the blob that its version was numbered in.
abbrev pub LieUnderOrigins : List Event → ℕ → List UpdateRow → Type 0
LieUnderOrigins history blob rows = (j : ℕ) (row : UpdateRow) → slice_get rows j ≡ Some row → row.blob ≡ origin_in history blob (suc j)

-- the blob under which a version's row is stored, or will be where there is none yet
abbrev pub stored_under : ℕ → Option UpdateRow → ℕ
stored_under blob None = blob
stored_under blob (Some row) = row.blob

-- the rows of a blob are stored under the blobs that their versions were numbered in, and those that aren't there yet will be
abbrev pub AreUnder : List (Option Parent) → ℕ → List (Option UpdateRow) → Type 0
AreUnder parents blob rows = (j : ℕ) → stored_under blob (slice_index_or rows j None) ≡ origin_of parents blob (suc j)

-- a desk's rows, of all its blobs
pub record KeepsOrigins (parents : List (Option Parent)) (windows : List Numbered) : Type 0 where
  pub count : length parents ≡ length windows
  pub each : (i : ℕ) (w : Numbered) → slice_get windows i ≡ Some w → AreUnder parents (suc i) w.rows
