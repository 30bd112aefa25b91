-- Why the readers of a watch and its last session stop, by what was seen.
use Rattle.std.specs.Prelude.{◌≡◌, ◌≢◌, ℕ, ◌*◌, ◌<◌, ◌≤◌, length}
use Rattle.blob_model.specs.Content.{size_of}
use Rattle.blob_model.specs.History.{store_of}
use Rattle.turn_lock.specs.History.{Begins}
use Rattle.version_manager.specs.Desks.{updates_in}
use Rattle.version_manager.specs.Log.{desk_at, events}
use Rattle.version_manager.specs.declared.journal.DeskFixed.{DeskFixed}
use Rattle.request_form.specs.PublishedReads.{IsPublishedIn, read_outcome}
use Rattle.request_form.specs.Replies.{reply_of}
use Rattle.request_form.specs.declared.form.Reply.TheVariants as Replies
use Rattle.request_form.specs.declared.form.Fault.{Fault}
use Rattle.request_form.specs.declared.form.Fault.TheVariants as Faults
use Rattle.workload_law.specs.Ends.{IsOutside}
use Rattle.workload_law.specs.Watch.{range_of}
use Rattle.workload_run.specs.WatchStages.{Entries}

-- a page of a version of blob 1 that was published in a history that was seen
pub record IsPageSeen (f : DeskFixed) (seen : Entries) (page : ℕ) : Type 0 where
  pub before : Entries
  pub begins : Begins before seen
  pub version : ℕ
  pub published : IsPublishedIn (store_of f.limits (events before)) 1 version
  pub within : f.page_size * page < size_of (updates_in (desk_at f before) 1) version

-- the store of that history refuses so a read of an update's bytes, and not as their version isn't published
pub record IsRefusedIn (f : DeskFixed) (log : Entries) (fault : Fault) : Type 0 where
  pub op : ℕ
  pub told : Replies.Refused fault ≡ reply_of (read_outcome (store_of f.limits (events log)) (range_of op))
  pub other : (version last : ℕ) → fault ≢ Faults.NotPublished version last

-- The outside failed; or the store refused a read, in a history that was seen and isn't empty.
pub data Stops (f : DeskFixed) (seen : Entries) (fault : Fault) : Type 0 where
  outside : IsOutside (IsPageSeen f seen) fault → Stops f seen fault
  refused : (log : Entries) → 1 ≤ length log → Begins log seen → IsRefusedIn f log fault → Stops f seen fault
