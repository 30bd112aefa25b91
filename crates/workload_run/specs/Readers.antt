-- The readers of a watch, each with how it ended.
use Rattle.std.specs.Prelude.{◌≡◌, ℕ, ◌+◌, ◌*◌, ◌<◌, List, Some, Result, IfOk, IfErr, sum_by, slice_index_or, length}
use mathlib.Core.List.{IsPrefix}
use Rattle.faults.specs.Counts.{RoseBy}
use Rattle.request_form.specs.declared.form.Fault.{Fault}
use Rattle.client_session.specs.Opening.{RangeCause}
use Rattle.read_board.specs.declared.refresh.Refresh.{Refresh}
use Rattle.read_board.specs.Fronts.{BoardId}
use Rattle.read_board.specs.Keeping.{StandingState}
use Rattle.read_board.specs.Reads.{goes_by}
use Rattle.read_board.specs.Refreshes.{updates_of}
use Rattle.workload_law.specs.Ends.{IsOutside}
use Rattle.workload_run.specs.Updates.{told_faults}
use Rattle.workload_law.specs.declared.watch_plan.WatchPlan.{WatchPlan}
use Rattle.workload_law.specs.WatchNotes.{HasNoted}
use Rattle.workload_run.specs.Idling.{Idles}
use Rattle.workload_run.specs.Stops.{IsPageSeen, IsRefusedIn}
use Rattle.workload_run.specs.Noting.{PieceRead}

-- a reader, and what it read, or why it stopped
pub record WatcherState (D : Type 0) : Type 0 where
  pub reader : StandingState D
  pub told : Result (List ℕ) Fault

-- it stands at that board
abbrev pub StandsAt : {D : Type 0} → BoardId → WatcherState D → Type 0
StandsAt board w = w.reader.board ≡ board

-- what it has seen and learnt is a beginning of that list
abbrev pub HasMet : {D : Type 0} → List Refresh → WatcherState D → Type 0
HasMet all w = IsPrefix w.reader.list all

-- Why a read of an update's bytes wasn't done, and not as their version isn't published: by a refresh of the reader's list; or by a turn the outside failed, or the store refused it.
pub data ReadHindered {D : Type 0} (r : StandingState D) (fault : Fault) : Type 0 where
  by_board : (op : ℕ) (on : Refresh) → goes_by r.has_place r.list 1 (op + 1) ≡ Some on
      → RangeCause r.session.store.fixed.page_size (updates_of on) (op + 1) (16 * op) 16 fault → ReadHindered r fault
  outside : IsOutside (IsPageSeen r.session.store.fixed r.session.log) fault → ReadHindered r fault
  refused : IsRefusedIn r.session.store.fixed r.session.log fault → ReadHindered r fault

module _ {D : Type 0} (faults : D → ℕ) where
  -- what reads leave of a reader: its board and its place; its session entered nothing, and its doors counted this
  pub record HasRead (count : ℕ) (old new : StandingState D) : Type 0 where
    pub board : new.board ≡ old.board
    pub place : new.has_place ≡ old.has_place
    pub idles : Idles old.session new.session
    pub rose : RoseBy count (sum_by faults old.session.doors) (sum_by faults new.session.doors)

  -- a reader has read each version of the plan, or it stopped at a read
  pub record HasWatched (plan : WatchPlan) (old new : WatcherState D) : Type 0 where
    pub read : HasRead (told_faults new.told) old.reader new.reader
    pub stop : IfErr new.told (ReadHindered new.reader)
    pub noted : IfOk new.told (HasNoted (PieceRead old.reader new.reader) plan.ops)

  -- so it is of the readers at all places
  abbrev pub HaveWatched : WatchPlan → List (WatcherState D) → List (WatcherState D) → Type 0
  HaveWatched plan old new = (place : ℕ) (d : WatcherState D) → place < length old → HasWatched plan (slice_index_or old place d) (slice_index_or new place d)
