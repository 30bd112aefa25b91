-- Which updates a window stands for as it goes on.
use Rattle.std.specs.Prelude.{◌≡◌, ℕ, suc, ◌^◌, ◌≤◌, List, [], ◌∷◌, ◌++◌, length, take}
use Rattle.blob_model.specs.Content.{Update, size_of}
use Rattle.tree_geom.specs.declared.touch.Touch.{Touch}
use Rattle.range_log.specs.Log.{touch_at}
use Rattle.range_log.specs.Extents.{touches}
use Rattle.range_log.specs.Updates.{extents, Replayable}
use Rattle.node_store.specs.UpdateRows.{UpdateRow}
use Rattle.snapshot.specs.Versions.{Version, updates_of, older_version, IsRowOf}
use Rattle.snapshot.specs.Laws.{AreRowsOf}
use Rattle.publisher.specs.Windows.{Numbered, published_of, version_of, window_on, with_numbered, with_finished, WindowHolds}

-- u is the next of these updates, within bounds, and it touches this
pub record IsNext (p : ℕ) (us : List Update) (u : Update) (touch : Touch) : Type 0 where
  pub replayable : Replayable (us ++ u ∷ [])
  pub fits : size_of (us ++ u ∷ []) (suc (length us)) ≤ 2 ^ 40
  pub touches : touch ≡ touch_at (touches p (extents (us ++ u ∷ []))) (suc (length us))

-- a new window stands for the updates that its rows are the rows of
abbrev pub NewStands : Type 0
NewStands = (us : List Update) (s : Version) → Replayable us → ((v : ℕ) → v ≤ length us → size_of us v ≤ 2 ^ 40) → length us ≡ length s.rows
    → AreRowsOf s.page_size us s.rows → WindowHolds us (window_on s)

-- one update more is numbered
abbrev pub NumberedStands : Type 0
NumberedStands = (us : List Update) (u : Update) (w : Numbered) (touch : Touch) → length w.rows ≡ length w.log → WindowHolds us w
    → IsNext w.page_size us u touch → WindowHolds (us ++ u ∷ []) (with_numbered w touch)

-- one update more is finished, by its row
abbrev pub FinishedStands : Type 0
FinishedStands = (us : List Update) (w : Numbered) (version : ℕ) (row : UpdateRow) → 1 ≤ version → version ≤ length w.rows → WindowHolds us w
    → IsRowOf w.page_size us version row → WindowHolds us (with_finished w version row)

-- the rows of each published version are those of the first of the updates
abbrev pub PublishedRowsAre : Type 0
PublishedRowsAre = (us : List Update) (w : Numbered) (v : ℕ) → length w.rows ≡ length w.log → WindowHolds us w
    → AreRowsOf w.page_size us (older_version (version_of w) v).rows

-- what the updates of a published version touch is the beginning of the log
abbrev pub PublishedLogIs : Type 0
PublishedLogIs = (us : List Update) (w : Numbered) (v : ℕ) → 1 ≤ w.page_size → length w.rows ≡ length w.log → WindowHolds us w → v ≤ length (version_of w).rows
    → touches w.page_size (extents (updates_of (older_version (version_of w) v))) ≡ take v w.log

-- as many versions are published as the published version has rows
abbrev pub PublishedCounts : Type 0
PublishedCounts = (w : Numbered) → published_of w ≡ length (version_of w).rows
