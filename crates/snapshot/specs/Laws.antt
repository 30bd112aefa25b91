-- What ties rows to the updates of a blob.
use Rattle.std.specs.Prelude.{◌≡◌, ℕ, ◌≤◌, List, ◌++◌, length, take}
use Rattle.blob_model.specs.Content.{Update, content}
use Rattle.range_log.specs.Updates.{update_at, extents, Replayable}
use Rattle.node_store.specs.UpdateRows.{UpdateRow}
use Rattle.snapshot.specs.Versions.{row_at, updates, IsRowOf}

-- the rows are those of the first of these updates
pub record AreRowsOf (p : ℕ) (us : List Update) (rows : List UpdateRow) : Type 0 where
  pub few : length rows ≤ length us
  pub each : (k : ℕ) → 1 ≤ k → k ≤ length rows → IsRowOf p us k (row_at rows k)

-- what the rows tell is as good as those updates: each falls in the same place with the same bytes, and leaves the same
-- content, and the rows are those of what they tell
pub record TellUpdates (p : ℕ) (us : List Update) (rows : List UpdateRow) : Type 0 where
  pub fall : extents (updates rows) ≡ take (length rows) (extents us)
  pub bytes : (k : ℕ) → k ≤ length rows → (update_at (updates rows) k).bytes ≡ (update_at us k).bytes
  pub leave : (v : ℕ) → v ≤ length rows → content (updates rows) v ≡ content us v
  pub replayable : Replayable (updates rows)
  pub own : AreRowsOf p (updates rows) rows

abbrev pub RowsTell : Type 0
RowsTell = (p : ℕ) (us : List Update) (rows : List UpdateRow) → 1 ≤ p → Replayable us → AreRowsOf p us rows → TellUpdates p us rows

-- the row of an update is its row among more updates too
abbrev pub OwnRowsStay : Type 0
OwnRowsStay = (p k : ℕ) (us more : List Update) (row : UpdateRow) → k ≤ length us → IsRowOf p us k row → IsRowOf p (us ++ more) k row

-- and the row of an update among more updates is its row without them
abbrev pub OwnRowsStood : Type 0
OwnRowsStood = (p k : ℕ) (us more : List Update) (row : UpdateRow) → k ≤ length us → IsRowOf p (us ++ more) k row → IsRowOf p us k row
