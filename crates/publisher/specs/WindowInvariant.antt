-- How a window keeps what it stands for: the published version, and the touches and rows above it.
use Rattle.std.specs.Prelude.{◌≡◌, ℕ, ◌+◌, ◌^◌, ◌≤◌, List, [], ◌++◌, length, map, Option, Some, option_map}
use Rattle.std.specs.Arc.{arc_value}
use Rattle.blob_model.specs.Content.{Update, size_of}
use Rattle.tree_geom.specs.declared.touch.Touch.{Touch}
use Rattle.range_log.specs.declared.open.OpenTouch.{OpenTouch}
use Rattle.range_log.specs.Updates.{Replayable}
use Rattle.node_store.specs.UpdateRows.{UpdateRow}
use Rattle.snapshot.specs.Versions.{Version}
use Rattle.snapshot.specs.Laws.{AreRowsOf}
use Rattle.publisher.specs.declared.slot.Slot.{Slot}
use Rattle.publisher.specs.Windows.{Numbered, leading, opens_from}

-- the row in a slot, where its update is finished
abbrev pub row_in : {U : Type 0} → Slot U → Option UpdateRow
row_in slot = option_map arc_value slot.row

-- what was given with the update of a slot
abbrev pub update_in : {U : Type 0} → Slot U → U
update_in slot = slot.update

-- what rows touch
abbrev pub row_touches : List UpdateRow → List Touch
row_touches rows = map (λ (row : UpdateRow). row.touch) rows

-- what waiting updates touch
abbrev pub open_touches : List OpenTouch → List Touch
open_touches opens = map (λ (o : OpenTouch). o.touch) opens

-- rows, none of which is missing
abbrev pub present : List UpdateRow → List (Option UpdateRow)
present rows = map (λ (row : UpdateRow). Some row) rows

-- the window over a version with these updates above it, and these rows of theirs
abbrev pub over : Version → List OpenTouch → List (Option UpdateRow) → Numbered
over s opens above = record {
  blob = s.blob;
  page_size = s.page_size;
  log = row_touches s.rows ++ open_touches opens;
  rows = present s.rows ++ above;
}

-- there is a slot for each waiting update, the versions go on from the published one, and the least of them is unfinished
pub record KeepsWindow (s : Version) (opens : List OpenTouch) (above : List (Option UpdateRow)) : Type 0 where
  pub paired : length above ≡ length opens
  pub few : length above ≤ 64
  pub versions : opens ≡ opens_from (length s.rows + 1) (open_touches opens)
  pub least : leading above ≡ []
  pub counted : length s.rows + length opens ≤ 1048576

-- the rows are those of the first of some updates within bounds
pub record AreReady (p : ℕ) (us : List Update) (rows : List UpdateRow) : Type 0 where
  pub replayable : Replayable us
  pub fits : (v : ℕ) → v ≤ length us → size_of us v ≤ 2 ^ 40
  pub counted : length rows ≤ 1048576
  pub own : AreRowsOf p us rows

abbrev pub Ready : ℕ → List UpdateRow → Type 0
Ready p rows = (us : List Update) × AreReady p us rows
