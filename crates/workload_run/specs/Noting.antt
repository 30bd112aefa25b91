-- What is noted of the reads of a watch's readers.
use Rattle.std.specs.Prelude.{◌≡◌, ℕ, ◌+◌, ◌*◌, ◌≤◌, false, List, ◌++◌, length, Some, None, Ok}
use mathlib.Core.List.{IsPrefix}
use Rattle.blob_model.specs.History.{store_of}
use Rattle.turn_lock.specs.History.{Begins}
use Rattle.version_manager.specs.Log.{events}
use Rattle.version_manager.specs.declared.journal.DeskFixed.{DeskFixed}
use Rattle.request_form.specs.PublishedReads.{read_outcome}
use Rattle.request_form.specs.Replies.{reply_of}
use Rattle.request_form.specs.declared.form.Reply.TheVariants as Replies
use Rattle.request_form.specs.declared.form.Fault.TheVariants as Faults
use Rattle.client_session.specs.Opening.{ReadsRange}
use Rattle.client_session.specs.Kept.{has_opened}
use Rattle.read_board.specs.declared.refresh.Refresh.{Refresh}
use Rattle.read_board.specs.Keeping.{StandingState}
use Rattle.read_board.specs.Reads.{goes_by}
use Rattle.read_board.specs.Refreshes.{updates_of}
use Rattle.workload_law.specs.Watch.{range_of}
use Rattle.workload_law.specs.WatchNotes.{noted}
use Rattle.workload_run.specs.WatchStages.{Entries}

-- ---- one read
-- A read of an update's bytes gave these: by a refresh that the reader had learnt of by then, or by a turn, as the store told in a history that its session saw.
pub data PieceRead {D : Type 0} (old new : StandingState D) (op : ℕ) (bytes : List ℕ) : Type 0 where
  by_board : (list : List Refresh) → IsPrefix list new.list → (on : Refresh) → goes_by new.has_place list 1 (op + 1) ≡ Some on
      → ReadsRange new.session.store.fixed.page_size (updates_of on) (op + 1) (16 * op) 16 (Ok bytes) → PieceRead old new op bytes
  by_turn : (log : Entries) → Begins old.session.log log → Begins log new.session.log
      → Replies.Content bytes ≡ reply_of (read_outcome (store_of new.session.store.fixed.limits (events log)) (range_of op)) → PieceRead old new op bytes

-- The version that an update makes isn't published in what the session has seen. The read took one turn, unless the session keeps a snapshot for it.
pub record IsUnpublished {D : Type 0} (old new : StandingState D) (op : ℕ) : Type 0 where
  pub last : ℕ
  pub told : Replies.Refused (Faults.NotPublished (op + 1) last) ≡ reply_of (read_outcome (store_of new.session.store.fixed.limits (events new.session.log)) (range_of op))
  pub one_turn : has_opened old.session.opened 1 (op + 1) ≡ false → new.session.turns ≡ old.session.turns + 1

-- so one read was done, and noted
pub data ReadIsNoted {D : Type 0} (old new : StandingState D) (op : ℕ) (before after : List ℕ) : Type 0 where
  read : (bytes : List ℕ) → PieceRead old new op bytes → after ≡ before ++ noted (op + 1) (Some bytes) → ReadIsNoted old new op before after
  unpublished : IsUnpublished old new op → after ≡ before ++ noted (op + 1) None → ReadIsNoted old new op before after

-- ---- once all readers came to their ends
-- these are an update's bytes, as the store told in a history that was seen and isn't empty
pub record IsPieceSeen (f : DeskFixed) (seen : Entries) (op : ℕ) (bytes : List ℕ) : Type 0 where
  pub log : Entries
  pub some : 1 ≤ length log
  pub begins : Begins log seen
  pub told : Replies.Content bytes ≡ reply_of (read_outcome (store_of f.limits (events log)) (range_of op))
