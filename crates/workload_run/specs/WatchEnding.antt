-- How a watch ends.
use Rattle.std.specs.Prelude.{◌≡◌, ℕ, ◌<◌, List, [], ◌∷◌, ◌++◌, length, map, None, Result, Ok, Err, All}
use Rattle.blob_model.specs.Content.{size_of}
use Rattle.blob_model.specs.Limits.{greatest}
use Rattle.blob_model.specs.Store.{blob_at}
use Rattle.blob_model.specs.History.{store_of, events_by}
use Rattle.blob_model.specs.declared.call.Event.{Event}
use Rattle.blob_model.specs.declared.call.Place.TheVariants.{Append}
use Rattle.turn_lock.specs.History.{Begins}
use Rattle.version_manager.specs.Desks.{DeskState, updates_in, published_in}
use Rattle.version_manager.specs.Log.{IsHistory, events, desk_at, fixed_of}
use Rattle.version_manager.specs.declared.journal.DeskFixed.{DeskFixed}
use Rattle.request_form.specs.Answers.{max_read}
use Rattle.request_form.specs.PublishedReads.{IsPublishedIn}
use Rattle.request_form.specs.declared.form.Fault.{Fault}
use Rattle.workload_law.specs.Ends.{IsOutside, NoPage, UpdateHindered}
use Rattle.read_board.specs.declared.refresh.Refresh.{Refresh}
use Rattle.read_board.specs.Refreshes.{version_of}
use Rattle.workload_law.specs.declared.watch_plan.WatchPlan.{WatchPlan}
use Rattle.workload_law.specs.declared.watch_plan.WatchSummary.{WatchSummary}
use Rattle.workload_law.specs.Watch.{piece_of, IsWatch, IsWatchPage, HasWritten, summary_of}
use Rattle.workload_law.specs.WatchNotes.{NotesState, HaveNoted}
use Rattle.workload_run.specs.declared.last.Last.{Last}
use Rattle.workload_run.specs.Agreeing.{IsToldBy, IsSeenIn}
use Rattle.workload_run.specs.WatchCrews.{AllCameToEnd}
use Rattle.workload_run.specs.Noting.{IsPieceSeen}
use Rattle.workload_run.specs.Readers.{WatcherState}
use Rattle.workload_run.specs.WatchStages.{Entries, Owner, IsUnopened, IsWatched, LeavesWatch}
use Rattle.workload_run.specs.Stops.{Stops}

-- ---- the last version
-- The version was the recent one in a history between the first and the last of these, and this is its size in the last.
pub record IsSeenLast (f : DeskFixed) (old new : Entries) (version size : ℕ) : Type 0 where
  pub mid : Entries
  pub begins : Begins old mid
  pub goes_on : Begins mid new
  pub is : version ≡ published_in (desk_at f mid) 1
  pub size_is : size ≡ size_of (updates_in (desk_at f new) 1) version

-- ---- before the store is closed
-- the writer came to its end, and what was seen by then has all events of the first two callers
pub record HasWrittenAll (plan : WatchPlan) (seen : Entries) (owner : Owner) : Type 0 where
  pub written : HasWritten plan plan.ops (events_by 2 (events owner.seen))
  pub created : events_by 1 (events seen) ≡ events_by 1 (events owner.seen)
  pub same : events_by 2 (events seen) ≡ events_by 2 (events owner.seen)
  pub begins : Begins seen owner.seen

-- why a watch ended early
pub data EndsBy (plan : WatchPlan) (f : DeskFixed) (owner : Owner) (fault : Fault) : Type 0 where
  outside : IsOutside NoPage fault → EndsBy plan f owner fault
  unopened : IsUnopened fault owner → EndsBy plan f owner fault
  stops : (first : Entries) → IsWatched plan first owner → Stops f owner.seen fault → EndsBy plan f owner fault
  writer : (first : Entries) → IsWatched plan first owner → (op : ℕ) (seen : Entries) (later : List Event) → Begins seen owner.seen
      → UpdateHindered greatest f.page_size 2 1 Append (piece_of plan op) (events first ++ later) (events seen) fault → EndsBy plan f owner fault
  missing : (first : Entries) → IsWatched plan first owner → (seen : Entries) → Begins first seen → Begins seen owner.seen
      → blob_at (store_of greatest (events seen)) 1 ≡ None → EndsBy plan f owner fault
  too_long : (first old new : Entries) → IsWatched plan first owner → HasWrittenAll plan old owner → Begins new owner.seen → (version size : ℕ) → IsSeenLast f old new version size
      → max_read < size → EndsBy plan f owner fault

-- ---- after the writer and the keeper came to their ends
-- One more session has read the last version, and ended: what the readers learn tells that version, and the owner has seen it.
pub record HasReadBack (f : DeskFixed) (shown : List Refresh) (old new : Owner) (last : Last) : Type 0 where
  pub leaves : LeavesWatch old new
  pub told : IsToldBy shown last
  pub known : IsSeenIn f new.seen last
  pub seen : Entries
  pub begins : Begins seen new.seen
  pub seen_last : IsSeenLast f old.seen seen last.version (length last.bytes)

-- The last session and all readers have ended: what the version came to, as the last session saw it.
pub record HasFinished (f : DeskFixed) (readers : ℕ) (old new : Owner) (summary : WatchSummary) : Type 0 where
  pub leaves : LeavesWatch old new
  pub seen : Entries
  pub begins : Begins seen new.seen
  pub last : IsSeenLast f old.seen seen summary.versions summary.size
  pub agree : summary.agree ≡ readers

-- why they didn't come to it
pub data FinishHindered (f : DeskFixed) (old new : Owner) (fault : Fault) : Type 0 where
  stops : LeavesWatch old new → Stops f new.seen fault → FinishHindered f old new fault
  missing : LeavesWatch old new → (seen : Entries) → Begins old.seen seen → Begins seen new.seen → blob_at (store_of greatest (events seen)) 1 ≡ None → FinishHindered f old new fault
  too_long : LeavesWatch old new → (seen : Entries) → Begins seen new.seen → (version size : ℕ) → IsSeenLast f old.seen seen version size → max_read < size → FinishHindered f old new fault

abbrev pub Finishes : DeskFixed → ℕ → Result (WatchSummary × NotesState) Fault → Owner → Owner → Type 0
Finishes f readers (Ok done) old new = HasFinished f readers old new done.0
Finishes f readers (Err fault) old new = FinishHindered f old new fault

-- What is noted then: the versions of these refreshes of the keeper, and last of one more; and what these readers read, all of whom came to their ends.
pub record NotesOf {D : Type 0} (all : List Refresh) (ws : List (WatcherState D)) (seen : Entries) (version : ℕ) (notes : NotesState) : Type 0 where
  pub refreshes : notes.refreshes ≡ map version_of all ++ version ∷ []
  pub readings : AllCameToEnd seen ws notes.readings

-- what a watch came to, or why it ended early
abbrev pub WatchEnds : WatchPlan → DeskFixed → Result (WatchSummary × NotesState) Fault → Owner → Type 0
WatchEnds plan f (Ok done) owner =
    (first : Entries) × ((old : Entries) × ((new : Entries) × (IsWatched plan first owner × (HasWrittenAll plan old owner
    × (Begins new owner.seen × (IsSeenLast f old new done.0.versions done.0.size × (done.0.agree ≡ plan.readers)))))))
WatchEnds plan f (Err fault) owner = EndsBy plan f owner fault

-- What is noted then: as many refreshes as the plan has operations, of versions that are published in what was seen, and one of the last version; and of each reader, in order, what it read.
pub record NotesSeen (plan : WatchPlan) (f : DeskFixed) (seen : Entries) (version : ℕ) (notes : NotesState) : Type 0 where
  pub before : List ℕ
  pub count : length before ≡ plan.ops
  pub refreshes : notes.refreshes ≡ before ++ version ∷ []
  pub published : All (λ (v : ℕ). IsPublishedIn (store_of f.limits (events seen)) 1 v) before
  pub readings : HaveNoted (IsPieceSeen f seen) plan.ops plan.readers notes.readings

-- ---- once it is closed
-- a page has p bytes
abbrev pub TellsWatch : WatchPlan → ℕ → Result (WatchSummary × NotesState) Fault → Type 0
TellsWatch plan p (Ok done) = done.0 ≡ summary_of plan
TellsWatch plan p (Err fault) = IsOutside (IsWatchPage plan p) fault

-- what a watch came to: the plan's summary, and a closed store of these fixed data, whose history is a watch's
pub record CameTo (plan : WatchPlan) (f : DeskFixed) (told : WatchSummary) (desk : DeskState) : Type 0 where
  pub summary : told ≡ summary_of plan
  pub history : IsHistory f.page_size greatest desk.history
  pub watched : IsWatch plan desk.history
  pub fixed : fixed_of desk ≡ f
