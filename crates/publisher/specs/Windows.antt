-- What a clause sees of a window: the numbered updates of one blob, and the rows of those that are finished.
use Rattle.std.specs.Prelude.{◌≡◌, ℕ, suc, ◌+◌, ◌-◌, ◌^◌, ◌≤◌, Bool, false, List, [], ◌∷◌, ◌++◌, length, drop, map, Option, None, Some, is_some, slice_set, slice_index_or}
use Rattle.blob_model.specs.Content.{Update, size_of}
use Rattle.blob_model.specs.Store.{true_prefix}
use Rattle.tree_geom.specs.declared.touch.Touch.{Touch}
use Rattle.range_log.specs.declared.open.OpenTouch.{OpenTouch}
use Rattle.range_log.specs.Extents.{touches}
use Rattle.range_log.specs.Updates.{extents, Replayable}
use Rattle.node_store.specs.UpdateRows.{UpdateRow}
use Rattle.snapshot.specs.Versions.{Version, IsRowOf}

-- the blob's id and page size, what each numbered update touches, update 1 first, and the row of each that is finished
pub record Numbered : Type 0 where
  pub blob : ℕ
  pub page_size : ℕ
  pub log : List Touch
  pub rows : List (Option UpdateRow)

-- a window: the numbered updates, and what was given with each of those that wait, the least version first
pub record WindowState (U : Type 0) : Type 0 where
  pub numbered : Numbered
  pub updates : List U

-- ---- what is finished and what is published
-- which of the numbered updates are finished
abbrev pub finished_of : Numbered → List Bool
finished_of w = map is_some w.rows

-- how many versions are finished before the first that isn't
abbrev pub published_of : Numbered → ℕ
published_of w = true_prefix (finished_of w)

-- whether that numbered version is finished
abbrev pub is_finished : Numbered → ℕ → Bool
is_finished w version = slice_index_or (finished_of w) (version - 1) false

-- the rows that stand before the first missing one
abbrev pub leading : List (Option UpdateRow) → List UpdateRow
leading [] = []
leading (None ∷ rest) = []
leading (Some row ∷ rest) = row ∷ leading rest

-- the published version, with its rows
abbrev pub version_of : Numbered → Version
version_of w = record { blob = w.blob; page_size = w.page_size; rows = leading w.rows }

-- these touches, under the versions from that one on
abbrev pub opens_from : ℕ → List Touch → List OpenTouch
opens_from version [] = []
opens_from version (touch ∷ rest) = record { version = version; touch = touch } ∷ opens_from (version + 1) rest

-- the updates that are numbered and not published
abbrev pub waiting_of : Numbered → List OpenTouch
waiting_of w = opens_from (published_of w + 1) (drop (published_of w) w.log)

-- ---- what the calls do
-- nothing waits above the version
abbrev pub window_on : Version → Numbered
window_on s = record { blob = s.blob; page_size = s.page_size; log = map (λ (row : UpdateRow). row.touch) s.rows; rows = map (λ (row : UpdateRow). Some row) s.rows }

-- the window with one update more, unfinished
abbrev pub with_numbered : Numbered → Touch → Numbered
with_numbered w touch = record w { log = w.log ++ touch ∷ []; rows = w.rows ++ None ∷ [] }

-- the window with that version finished by that row
abbrev pub with_finished : Numbered → ℕ → UpdateRow → Numbered
with_finished w version row = record w { rows = slice_set w.rows (version - 1) (Some row) }

-- ---- the updates that a window stands for
-- the log is what these updates touch, and each row is that of its update; the sizes are within bounds
pub record WindowHolds (us : List Update) (w : Numbered) : Type 0 where
  pub replayable : Replayable us
  pub fits : (v : ℕ) → v ≤ length us → size_of us v ≤ 2 ^ 40
  pub counted : length us ≡ length w.log
  pub log : w.log ≡ touches w.page_size (extents us)
  pub rows : (i : ℕ) (row : UpdateRow) → slice_index_or w.rows i None ≡ Some row → IsRowOf w.page_size us (suc i) row

-- the row is that of the version, in some updates that the window stands for
abbrev pub IsRowIn : Numbered → ℕ → UpdateRow → Type 0
IsRowIn w version row = (us : List Update) × WindowHolds us w × IsRowOf w.page_size us version row
