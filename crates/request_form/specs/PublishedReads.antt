-- Reads of a version that was published in a history, by sessions that have seen it.
use Rattle.std.specs.Prelude.{◌≡◌, ℕ, ◌≤◌, List, ◌++◌, Some}
use Rattle.blob_model.specs.Limits.{Bounds}
use Rattle.blob_model.specs.Store.{Store, Blob, blob_at, published}
use Rattle.blob_model.specs.Answer.{answer}
use Rattle.blob_model.specs.History.{AllOther}
use Rattle.blob_model.specs.declared.call.Call.TheVariants as Calls
use Rattle.blob_model.specs.declared.call.Event.{Event}
use Rattle.blob_model.specs.declared.call.Outcome.{Outcome}
use Rattle.request_form.specs.declared.form.Request.TheVariants as Requests
use Rattle.request_form.specs.declared.form.Reply.{Reply}
use Rattle.request_form.specs.declared.form.Reply.TheVariants as Replies
use Rattle.request_form.specs.declared.form.Fault.TheVariants as Faults
use Rattle.request_form.specs.Replies.{reply_of}
use Rattle.request_form.specs.Session.{Session}
use Rattle.request_form.specs.Answers.{Answers}

-- the store has the blob, and the version is published there
abbrev pub IsPublishedIn : Store → ℕ → ℕ → Type 0
IsPublishedIn store blob version = (b : Blob) × (blob_at store blob ≡ Some b) × (version ≤ published b)

-- a range of a blob's version
pub record Range : Type 0 where
  pub blob : ℕ
  pub version : ℕ
  pub offset : ℕ
  pub count : ℕ

-- what a store answers a read; callers don't matter to it
abbrev pub read_outcome : Store → Range → Outcome
read_outcome store range = (answer store 0 (Calls.Read range.blob range.version range.offset range.count)).1

-- some session had that reply to a read, and what it had seen then begins with the history
pub record ReadAfter (limits : Bounds) (history : List Event) (range : Range) (reply : Reply) : Type 0 where
  pub before : Session
  pub after : Session
  pub limits_are : before.fixed.limits ≡ limits
  pub more : List Event
  pub seen : after.seen ≡ history ++ more
  pub answered : Answers AllOther before (Requests.Read range.blob range.version range.offset range.count) reply after

-- the store's outcome is told, or the read is too long, or the outside failed
pub data Tells (outcome : Outcome) (count : ℕ) (reply : Reply) : Type 0 where
  outcome_told : reply ≡ reply_of outcome → Tells outcome count reply
  too_long : reply ≡ Replies.Refused (Faults.ReadTooLong count) → Tells outcome count reply
  out_of_memory : reply ≡ Replies.Refused Faults.NoMemory → Tells outcome count reply
  not_read : (page : ℕ) → reply ≡ Replies.Refused (Faults.PageFault page) → Tells outcome count reply
