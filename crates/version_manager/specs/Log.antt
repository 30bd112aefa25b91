-- A desk's history as a list of entries, each with its caller, and what the acts on a desk do to it.
use Rattle.std.specs.Prelude.{◌≡◌, ℕ, ◌<◌, ◌≤◌, ◌^◌, ◌++◌, true, false, List, [], ◌∷◌, map, length, Option, None, Some, IfOk, IfErr, Result}
use Rattle.page_store.specs.Stored.{Cut, bytes_of_pages, LieAmong}
use Rattle.node_store.specs.UpdateRows.{UpdateRow, IsRowIn}
use Rattle.snapshot.specs.Versions.{Version, IsVersionIn, size_now}
use Rattle.snapshot.specs.Laws.{TellUpdates}
use Rattle.blob_model.specs.Limits.{Bounds}
use Rattle.blob_model.specs.History.{caller_of, is_refused, store_of, IsLegal}
use Rattle.blob_model.specs.declared.call.Call.{Call}
use Rattle.blob_model.specs.declared.call.Call.TheVariants as Calls
use Rattle.blob_model.specs.declared.call.Event.{Event}
use Rattle.blob_model.specs.declared.call.Outcome.{Outcome}
use Rattle.blob_model.specs.declared.call.Outcome.TheVariants as Outcomes
use Rattle.blob_model.specs.declared.call.Place.{Place}
use Rattle.blob_model.specs.declared.call.Refusal.{Refusal}
use Rattle.border_hints.specs.Numbered.{NumberedUpdate}
use Rattle.version_manager.specs.Folds.{IsInOrder, AreInOrder}
use Rattle.version_manager.specs.Origins.{LieUnderOrigins}
use Rattle.version_manager.specs.declared.fault.DeskFault.{DeskFault}
use Rattle.version_manager.specs.declared.fault.OpenFault.{OpenFault}
use Rattle.version_manager.specs.declared.journal.DeskFixed.{DeskFixed}
use Rattle.version_manager.specs.Desks.{DeskState, OnRefused, OnNoMemory, IsTicketOf, IsRowFor, IsUnfinished, HasHints, HasHintsBelow, outcome_now, updates_in, is_finished_in, most_bytes, refusal_in, ticket_refusal, unopened_size}

-- an event with its caller
abbrev pub tag : Event → ℕ × Event
tag e = (caller_of e, e)

abbrev pub tagged : List Event → List (ℕ × Event)
tagged es = map tag es

abbrev pub events : List (ℕ × Event) → List Event
events log = map (λ (x : ℕ × Event). x.1) log

-- what no act changes
abbrev pub fixed_of : DeskState → DeskFixed
fixed_of d = record { limits = d.limits; page_size = d.page_size; houses = d.houses; nodes = d.nodes }

-- a desk with these fixed data and this history, as far as conditions on the history look
abbrev pub desk_at : DeskFixed → List (ℕ × Event) → DeskState
desk_at f log = record { limits = f.limits; page_size = f.page_size; houses = f.houses; nodes = f.nodes; history = events log; windows = [] }

-- It is the history of a desk with these fixed data: each entry has its caller, the events are legal, and they are fewer than 2^38. No update
-- is finished that stores a page anew before the version before it is published.
pub record IsLog (f : DeskFixed) (log : List (ℕ × Event)) : Type 0 where
  pub tags : log ≡ tagged (events log)
  pub legal : IsLegal f.limits (events log)
  pub short : length log < 2 ^ 38
  pub in_order : AreInOrder f.page_size f.limits (events log)

-- It is what happened at a desk of this page size and these limits, whoever its callers were.
pub record IsHistory (p : ℕ) (limits : Bounds) (history : List Event) : Type 0 where
  pub legal : IsLegal limits history
  pub short : length history < 2 ^ 38
  pub in_order : AreInOrder p limits history

-- what the store of that history answers
abbrev pub outcome_in : DeskFixed → List (ℕ × Event) → ℕ → Call → Outcome
outcome_in f log caller call = outcome_now (desk_at f log) caller call

-- ---- what the acts give
-- A look: it is answered from the store of the history, and changes nothing.
pub record Looked (f : DeskFixed) (call : Call) (before : List (ℕ × Event)) (caller : ℕ) (said : Outcome) (after : List (ℕ × Event)) : Type 0 where
  pub log : IsLog f before
  pub same : after ≡ before
  pub said_is : said ≡ outcome_in f before caller call

-- A change: its outcome is that of the store of the history, and its event is entered exactly where it is done. It finds no memory
-- only where the store refuses nothing.
pub record Changed {A E : Type 0} (f : DeskFixed) (call : Call) (event : Event) (tells : A → Outcome) (fault : E → DeskFault) (before : List (ℕ × Event)) (caller : ℕ) (said : Result A E)
    (after : List (ℕ × Event)) : Type 0 where
  pub log : IsLog f before
  pub log_after : IsLog f after
  pub done : IfOk said (λ a. outcome_in f before caller call ≡ tells a)
  pub added : IfOk said (λ _. after ≡ before ++ tag event ∷ [])
  pub refused : IfErr said (λ e. OnRefused (fault e) (λ refusal. outcome_in f before caller call ≡ Outcomes.Refused refusal))
  pub memory : IfErr said (λ e. OnNoMemory (fault e) (is_refused (outcome_in f before caller call) ≡ false))
  pub same : IfErr said (λ _. after ≡ before)

-- what a numbering needs
pub record MayAssign (pages : Cut) (f : DeskFixed) : Type 0 where
  pub some : 1 ≤ length (bytes_of_pages pages.pages)
  pub few : length (bytes_of_pages pages.pages) ≤ most_bytes
  pub page_size : pages.page_size ≡ f.page_size
  pub here : LieAmong f.houses pages.pages

-- A ticket of a numbering. Its hints are of the history before it, and it is of the history after it, where its version waits for its finish.
pub record IsNewTicket (f : DeskFixed) (blob caller : ℕ) (pages : Cut) (before after : List (ℕ × Event)) (t : NumberedUpdate) : Type 0 where
  pub caller_is : t.caller ≡ caller
  pub blob_is : t.blob ≡ blob
  pub len : t.len ≡ length (bytes_of_pages pages.pages)
  pub pages_are : t.pages ≡ pages
  pub hints : HasHints (desk_at f before) blob t
  pub ticket : IsTicketOf (desk_at f after) t
  pub unfinished : IsUnfinished (desk_at f after) blob t.version

-- What a finish needs: the row of the ticket's update, stored under the ticket's blob, in the desk's houses; and the version before it is
-- published, if the update stores a page anew.
pub record MayFinish (t : NumberedUpdate) (row : UpdateRow) (log : List (ℕ × Event)) (f : DeskFixed) : Type 0 where
  pub ticket : IsTicketOf (desk_at f log) t
  pub row_for : IsRowFor (desk_at f log) t row
  pub under : row.blob ≡ t.blob
  pub here : IsRowIn f.nodes f.houses row
  pub in_order : IsInOrder f.page_size (store_of f.limits (events log)) t.blob t.version

-- a finish: the version wasn't finished where it is done or finds no memory, and was where it is refused; the row comes back where
-- it isn't done
pub record Finishes {R : Type 0} (f : DeskFixed) (t : NumberedUpdate) (row : R) (before after : List (ℕ × Event)) (said : Result ℕ (DeskFault × R)) : Type 0 where
  pub unfinished : IfOk said (λ _. is_finished_in (desk_at f before) t.blob t.version ≡ false)
  pub finished : IfOk said (λ _. is_finished_in (desk_at f after) t.blob t.version ≡ true)
  pub already : IfErr said (λ e. OnRefused e.0 (λ _. is_finished_in (desk_at f before) t.blob t.version ≡ true))
  pub waits : IfErr said (λ e. OnNoMemory e.0 (is_finished_in (desk_at f before) t.blob t.version ≡ false))
  pub back : IfErr said (λ e. e.1 ≡ row)

-- The snapshot of a version of this blob, under its id: its rows tell the blob's updates, and lie in the desk's houses, each under the
-- blob that its version was numbered in.
pub record IsSnapshotOf (f : DeskFixed) (log : List (ℕ × Event)) (blob version : ℕ) (s : Version) : Type 0 where
  pub blob_is : s.blob ≡ blob
  pub rows : length s.rows ≡ version
  pub page_size : s.page_size ≡ f.page_size
  pub tells : TellUpdates f.page_size (updates_in (desk_at f log) blob) s.rows
  pub here : IsVersionIn f.nodes f.houses s
  pub origins : LieUnderOrigins (events log) blob s.rows

-- A look at the size of a version, with its snapshot. Where it finds no memory for that the size is told alone.
pub record Opened (f : DeskFixed) (blob version : ℕ) (before : List (ℕ × Event)) (caller : ℕ) (said : Result Version OpenFault) (after : List (ℕ × Event)) : Type 0 where
  pub log : IsLog f before
  pub same : after ≡ before
  pub done : IfOk said (λ s. outcome_in f before caller (Calls.Size blob version) ≡ Outcomes.Size (size_now s))
  pub not_opened : IfErr said (λ fault. outcome_in f before caller (Calls.Size blob version) ≡ unopened_size fault)
  pub snapshot : IfOk said (λ s. IsSnapshotOf f before blob version s)

-- The ticket of a waiting version of the blob, with the hints of this history: it is of the history, whoever asked for it. Its pages, and
-- the nodes and pages of its snapshot, lie in the desk's houses.
pub record IsWaitingTicket (f : DeskFixed) (log : List (ℕ × Event)) (blob version : ℕ) (t : NumberedUpdate) : Type 0 where
  pub blob_is : t.blob ≡ blob
  pub version_is : t.version ≡ version
  pub ticket : IsTicketOf (desk_at f log) t
  pub hints : HasHintsBelow (desk_at f log) blob t
  pub pages_here : LieAmong f.houses t.pages.pages
  pub unfinished : IsUnfinished (desk_at f log) blob version

-- A look at a waiting version, with its ticket. It finds no memory only where nothing is refused.
pub record Reissued (f : DeskFixed) (blob version : ℕ) (before : List (ℕ × Event)) (said : Result NumberedUpdate DeskFault) (after : List (ℕ × Event)) : Type 0 where
  pub log : IsLog f before
  pub same : after ≡ before
  pub done : IfOk said (λ _. ticket_refusal (desk_at f before) blob version ≡ None)
  pub refused : IfErr said (λ fault. OnRefused fault (λ refusal. ticket_refusal (desk_at f before) blob version ≡ Some refusal))
  pub memory : IfErr said (λ fault. OnNoMemory fault (ticket_refusal (desk_at f before) blob version ≡ None))
  pub ticket : IfOk said (λ t. IsWaitingTicket f before blob version t)

-- A look at what the store would refuse of an update of so many bytes there.
pub record Foreseen (f : DeskFixed) (blob : ℕ) (place : Place) (len : ℕ) (before : List (ℕ × Event)) (caller : ℕ) (said : Option Refusal) (after : List (ℕ × Event)) : Type 0 where
  pub log : IsLog f before
  pub same : after ≡ before
  pub said_is : (bytes : List ℕ) → length bytes ≡ len → said ≡ refusal_in (outcome_in f before caller (Calls.Assign blob place bytes))
