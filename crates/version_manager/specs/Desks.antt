-- What a clause sees of a desk, and what its calls do.
use Rattle.std.specs.Prelude.{◌≡◌, ℕ, ◌+◌, ◌-◌, ◌≤◌, nat_lt, Bool, false, List, [], ◌∷◌, ◌++◌, length, take, drop, filter, slice_index_or, slice_set, Option, Some, None, IfSome, All}
use Rattle.boxcar.specs.Table.{Shelves}
use Rattle.blob_model.specs.Content.{Update}
use Rattle.blob_model.specs.Limits.{Bounds}
use Rattle.blob_model.specs.Store.{Store, Blob, blob_at, published, is_finished}
use Rattle.blob_model.specs.Answer.{answer, repair_refusal}
use Rattle.blob_model.specs.History.{store_of}
use Rattle.blob_model.specs.declared.call.Call.{Call}
use Rattle.blob_model.specs.declared.call.Event.{Event}
use Rattle.blob_model.specs.declared.call.Outcome.{Outcome}
use Rattle.blob_model.specs.declared.call.Outcome.TheVariants as Outcomes
use Rattle.blob_model.specs.declared.call.Refusal.{Refusal}
use Rattle.range_log.specs.declared.open.OpenTouch.{OpenTouch}
use Rattle.range_log.specs.Extents.{touches}
use Rattle.range_log.specs.Updates.{update_at, extents}
use Rattle.page_store.specs.House.{House}
use Rattle.page_store.specs.Stored.{bytes_of_pages}
use Rattle.node_store.specs.UpdateRows.{UpdateRow, IsRowIn}
use Rattle.snapshot.specs.Versions.{IsRowOf, IsVersionIn}
use Rattle.snapshot.specs.Laws.{TellUpdates}
use Rattle.border_hints.specs.Numbered.{NumberedUpdate, IsTicketAmong}
use Rattle.publisher.specs.Windows.{Numbered, version_of, waiting_of, opens_from}
use Rattle.version_manager.specs.Origins.{LieUnderOrigins}
use Rattle.version_manager.specs.declared.fault.DeskFault.{DeskFault}
use Rattle.version_manager.specs.declared.fault.DeskFault.TheVariants.{Refused, NoMemory}
use Rattle.version_manager.specs.declared.fault.OpenFault.{OpenFault}
use Rattle.version_manager.specs.declared.fault.OpenFault.TheVariants as OpenFaults

-- how much it takes, its page size, the houses of its pages and the house of its nodes, the history of all that it accepted, and
-- the numbered updates of each blob, blob 1 first
pub record DeskState : Type 0 where
  pub limits : Bounds
  pub page_size : ℕ
  pub houses : List House
  pub nodes : List Shelves
  pub history : List Event
  pub windows : List Numbered

-- a desk that accepted nothing
abbrev pub empty_desk : Bounds → ℕ → List House → List Shelves → DeskState
empty_desk limits page_size houses nodes = record { limits = limits; page_size = page_size; houses = houses; nodes = nodes; history = []; windows = [] }

-- ---- what it keeps
-- the store that the history leaves
abbrev pub store_now : DeskState → Store
store_now d = store_of d.limits d.history

-- what the store answers now
abbrev pub outcome_now : DeskState → ℕ → Call → Outcome
outcome_now d caller call = (answer (store_now d) caller call).1

-- ---- its blobs
abbrev pub updates_or_none : Option Blob → List Update
updates_or_none None = []
updates_or_none (Some b) = b.updates

-- the updates of a blob, of which one that isn't there has none
abbrev pub updates_in : DeskState → ℕ → List Update
updates_in d blob = updates_or_none (blob_at (store_now d) blob)

abbrev pub published_or_none : Option Blob → ℕ
published_or_none None = 0
published_or_none (Some b) = published b

-- the published version of a blob, of which one that isn't there has none
abbrev pub published_in : DeskState → ℕ → ℕ
published_in d blob = published_or_none (blob_at (store_now d) blob)

abbrev pub finished_or_not : Option Blob → ℕ → Bool
finished_or_not None version = false
finished_or_not (Some b) version = is_finished b version

-- whether that version of that blob is finished
abbrev pub is_finished_in : DeskState → ℕ → ℕ → Bool
is_finished_in d blob version = finished_or_not (blob_at (store_now d) blob) version

-- the version of that blob was numbered, and isn't finished
pub record IsUnfinished (d : DeskState) (blob version : ℕ) : Type 0 where
  pub some : 1 ≤ version
  pub numbered : version ≤ length (updates_in d blob)
  pub unfinished : is_finished_in d blob version ≡ false

-- what stands in place of the window of a blob that isn't there
abbrev pub no_window : Numbered
no_window = record { blob = 0; page_size = 0; log = []; rows = [] }

-- the window of a blob, from 1
abbrev pub window_in : DeskState → ℕ → Numbered
window_in d blob = slice_index_or d.windows (blob - 1) no_window

-- ---- what its calls do
-- the desk once it accepted one event more, with these windows
abbrev pub with_event : DeskState → Event → List Numbered → DeskState
with_event d event windows = record d { history = d.history ++ event ∷ []; windows = windows }

-- the windows with another one for that blob
abbrev pub windows_with : DeskState → ℕ → Numbered → List Numbered
windows_with d blob w = slice_set d.windows (blob - 1) w

-- the windows with that of one blob more
abbrev pub windows_and : DeskState → Numbered → List Numbered
windows_and d w = d.windows ++ w ∷ []

-- how many bytes an update has at most
abbrev pub most_bytes : ℕ
most_bytes = 16777216

-- the refusal that an outcome is, if it is one
abbrev pub refusal_in : Outcome → Option Refusal
refusal_in (Outcomes.Refused refusal) = Some refusal
refusal_in _ = None

-- a fact on the refusal, where the call was refused
abbrev pub OnRefused : DeskFault → (Refusal → Type 0) → Type 0
OnRefused (Refused refusal) P = P refusal
OnRefused NoMemory P = Unit {0}

-- a fact on a call that found no memory
abbrev pub OnNoMemory : DeskFault → Type 0 → Type 0
OnNoMemory (Refused refusal) P = Unit {0}
OnNoMemory NoMemory P = P

-- what the store answers of the size of a version that was not opened: its refusal, or the size where no memory was found
abbrev pub unopened_size : OpenFault → Outcome
unopened_size (OpenFaults.Refused refusal) = Outcomes.Refused refusal
unopened_size (OpenFaults.NoMemory size) = Outcomes.Size size

-- ---- tickets
-- the numbering of an update of this caller on the blob, with these hints and pages
pub record IsNumbering (d : DeskState) (who on : ℕ) (t : NumberedUpdate) : Type 0 where
  pub caller : t.caller ≡ who
  pub blob : t.blob ≡ on
  pub version : t.version ≡ length (updates_in d on) + 1
  pub len : t.len ≡ length (bytes_of_pages t.pages.pages)
  pub snapshot : t.snapshot ≡ version_of (window_in d on)
  pub waiting : t.waiting ≡ waiting_of (window_in d on)

-- the ticket is of a version that was numbered here: it stands for the blob's updates up to it, and its pages for the update's bytes
pub record IsTicketOf (d : DeskState) (t : NumberedUpdate) : Type 0 where
  pub page_size : t.snapshot.page_size ≡ d.page_size
  pub numbered : t.version ≤ length (updates_in d t.blob)
  pub caller : (update_at (updates_in d t.blob) t.version).caller ≡ t.caller
  pub stands : IsTicketAmong t (extents (take t.version (updates_in d t.blob)))
  pub bytes : bytes_of_pages t.pages.pages ≡ (update_at (updates_in d t.blob) t.version).bytes

-- why there is no ticket of that version now: the blob isn't there, the version was never numbered, or it is finished, as version 0 always is
abbrev pub ticket_refusal : DeskState → ℕ → ℕ → Option Refusal
ticket_refusal d blob version = repair_refusal (store_now d) blob version

-- those of the waiting updates that are below that version
abbrev pub opens_below : ℕ → List OpenTouch → List OpenTouch
opens_below version opens = filter (λ (o : OpenTouch). nat_lt o.version version) opens

-- the row is that of the ticket's update
abbrev pub IsRowFor : DeskState → NumberedUpdate → UpdateRow → Type 0
IsRowFor d t row = IsRowOf d.page_size (updates_in d t.blob) t.version row

-- ---- houses
-- the row, where there is one, lies in these houses
abbrev pub IsRowIfAnyIn : List Shelves → List House → Option UpdateRow → Type 0
IsRowIfAnyIn nodes houses row = IfSome row (IsRowIn nodes houses)

-- the nodes of the windows' rows lie in this house, and their pages in these houses
abbrev pub LieIn : List Shelves → List House → List Numbered → Type 0
LieIn nodes houses windows = All (λ (w : Numbered). All (IsRowIfAnyIn nodes houses) w.rows) windows

-- ---- hints
-- The ticket tells, of the updates of this blob and under its id: the published ones by their rows, which lie in the desk's houses,
-- each under the blob that its version was numbered in, and what the others above them touch.
pub record HasHints (d : DeskState) (on : ℕ) (t : NumberedUpdate) : Type 0 where
  pub blob_is : t.snapshot.blob ≡ on
  pub rows : length t.snapshot.rows ≡ published_in d on
  pub tells : TellUpdates d.page_size (updates_in d on) t.snapshot.rows
  pub waiting : t.waiting ≡ opens_from (published_in d on + 1) (drop (published_in d on) (touches d.page_size (extents (updates_in d on))))
  pub here : IsVersionIn d.nodes d.houses t.snapshot
  pub origins : LieUnderOrigins d.history on t.snapshot.rows

-- The same of an update that was numbered before, by what is known now: the published ones by their rows, and what those touch that
-- wait below it.
pub record HasHintsBelow (d : DeskState) (on : ℕ) (t : NumberedUpdate) : Type 0 where
  pub blob_is : t.snapshot.blob ≡ on
  pub rows : length t.snapshot.rows ≡ published_in d on
  pub tells : TellUpdates d.page_size (updates_in d on) t.snapshot.rows
  pub waiting : t.waiting ≡ opens_from (published_in d on + 1) (drop (published_in d on) (take (t.version - 1) (touches d.page_size (extents (updates_in d on)))))
  pub here : IsVersionIn d.nodes d.houses t.snapshot
  pub origins : LieUnderOrigins d.history on t.snapshot.rows
