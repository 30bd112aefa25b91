use Rattle.std.specs.Prelude.{ℕ}
use Rattle.blob_model.specs.declared.call.Place.{Place}
use Rattle.blob_model.specs.declared.call.Place.TheVariants.{WriteAt, Append}
use Rattle.blob_model.specs.declared.call.Call.{Call}
use Rattle.blob_model.specs.declared.call.Call.TheVariants as Calls
use Rattle.blob_model.specs.declared.call.Refusal.{Refusal}
use Rattle.blob_model.specs.declared.call.Refusal.TheVariants as Refusals
use Rattle.blob_model.specs.declared.call.Outcome.{Outcome}
use Rattle.blob_model.specs.declared.call.Outcome.TheVariants as Outcomes
use Rattle.request_form.specs.declared.form.Reply.{Reply}
use Rattle.request_form.specs.declared.form.Reply.TheVariants as Replies
use Rattle.request_form.specs.declared.form.Fault.{Fault}
use Rattle.request_form.specs.declared.form.Fault.TheVariants as Faults

-- the store's refusal as a session's fault
abbrev pub fault_of : Refusal → Fault
fault_of (Refusals.NoBlob blob) = Faults.NoBlob blob
fault_of (Refusals.NotPublished version published) = Faults.NotPublished version published
fault_of (Refusals.OffsetPastSize offset size) = Faults.OffsetPastSize offset size
fault_of (Refusals.BlobTooBig end limit) = Faults.BlobTooBig end limit
fault_of (Refusals.TooManyVersions limit) = Faults.TooManyVersions limit
fault_of (Refusals.TooManyOpen limit) = Faults.TooManyOpen limit
fault_of (Refusals.TooManyBlobs limit) = Faults.TooManyBlobs limit
fault_of (Refusals.Already version) = Faults.Already version
fault_of (Refusals.RangePastSize end size) = Faults.RangePastSize end size
fault_of (Refusals.Pending version held) = Faults.Pending version held

-- What is said of the store's outcome. Of a write, a start and a branch something else is said, where they aren't refused.
abbrev pub reply_of : Outcome → Reply
reply_of (Outcomes.Blob blob) = Replies.Created blob
reply_of (Outcomes.Assigned version at size) = Replies.Appended version at size
reply_of (Outcomes.Published published) = Replies.Finished published
reply_of (Outcomes.Content bytes) = Replies.Content bytes
reply_of (Outcomes.Recent version size) = Replies.RecentIs version size
reply_of (Outcomes.Size size) = Replies.SizeIs size
reply_of (Outcomes.Synced version) = Replies.Synced version
reply_of (Outcomes.Status assigned published held) = Replies.StatusIs assigned published held
reply_of (Outcomes.Refused refusal) = Replies.Refused (fault_of refusal)

-- what is said of a blob that a call added
abbrev pub added_reply : Call → ℕ → Reply
added_reply (Calls.Branch blob version) added = Replies.Branched added
added_reply _ added = Replies.Created added

-- what is said of an update that was finished: its version, its offset and the blob's size
abbrev pub update_reply : Place → ℕ → ℕ → ℕ → Reply
update_reply Append version at size = Replies.Appended version at size
update_reply (WriteAt offset) version at size = Replies.Wrote version at size

-- what is said of one that was started: its ticket, its version, its offset and the blob's size
abbrev pub start_reply : Place → ℕ → ℕ → ℕ → ℕ → Reply
start_reply Append ticket version at size = Replies.AppendStarted ticket version at size
start_reply (WriteAt offset) ticket version at size = Replies.WriteStarted ticket version at size

-- how often the outside failed for a fault: a lost page is one
abbrev pub page_faults : Fault → ℕ
page_faults (Faults.PageFault page) = 1
page_faults _ = 0

-- how often the outside failed for a reply, as far as the reply tells
abbrev pub fault_count : Reply → ℕ
fault_count (Replies.Refused fault) = page_faults fault
fault_count _ = 0
