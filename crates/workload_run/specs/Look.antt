-- What the last session is told of the log and of the grid.
use Rattle.std.specs.Prelude.{◌≡◌, ℕ, ◌*◌, ◌<◌, ◌≤◌, [], Result, Ok, Err, Bool, true, false, length, sum}
use Rattle.blob_model.specs.declared.call.Call.TheVariants as Calls
use Rattle.blob_model.specs.declared.call.Outcome.{Outcome}
use Rattle.blob_model.specs.declared.call.Outcome.TheVariants as Outcomes
use Rattle.blob_model.specs.declared.call.Refusal.{Refusal}
use Rattle.blob_model.specs.History.{store_of}
use Rattle.request_form.specs.Answers.{max_read}
use Rattle.request_form.specs.Session.{Session, outcome_at}
use Rattle.request_form.specs.declared.form.Reply.{Reply}
use Rattle.request_form.specs.declared.form.Reply.TheVariants as Replies
use Rattle.request_form.specs.declared.form.Fault.{Fault}
use Rattle.request_form.specs.declared.form.Fault.TheVariants as Faults
use Rattle.workload_law.specs.declared.plan.LoadPlan.{LoadPlan}
use Rattle.workload_law.specs.declared.plan.Summary.{Summary}
use Rattle.workload_law.specs.Load.{IsSized}
use Rattle.workload_law.specs.Laws.{IsReadBack}
use Rattle.workload_law.specs.Pieces.{in_order_of}
use Rattle.workload_law.specs.Ends.{IsOutside}
use Rattle.workload_run.specs.declared.looking.Last.{Last}
use Rattle.workload_run.specs.Making.{HasDoneOwn}
use Rattle.workload_run.specs.Stages.{TellsSummary}

-- the version and the size that a look at the most recent version gives; the one cause of another answer is that the blob isn't there
abbrev pub recent_told : ℕ → Outcome → Result (ℕ × ℕ) Fault
recent_told blob (Outcomes.Recent version size) = Ok (version, size)
recent_told blob _ = Err (Faults.NoBlob blob)

-- a read's reply is some bytes or a refusal
abbrev pub is_read_reply : Reply → Bool
is_read_reply (Replies.Content bytes) = true
is_read_reply (Replies.Refused fault) = true
is_read_reply _ = false

-- ---- one blob

-- The store tells this version and its bytes, where nobody else does anything meanwhile.
pub record IsTold (s : Session) (blob : ℕ) (last : Last) : Type 0 where
  pub recent : outcome_at s [] (Calls.Recent blob) ≡ Outcomes.Recent last.version last.size
  pub read : outcome_at s [] (Calls.Read blob last.version 0 last.size) ≡ Outcomes.Content last.bytes

-- Why it doesn't: the blob isn't there; its bytes are more than a read may have; the read is refused; or the outside failed, and a page
-- that was lost begins within the blob's bytes.
pub data IsUntold (s : Session) (blob : ℕ) (fault : Fault) : Type 0 where
  no_blob : ((version size : ℕ) → outcome_at s [] (Calls.Recent blob) ≡ Outcomes.Recent version size → ⊥) → IsUntold s blob fault
  too_long : (version size : ℕ) → outcome_at s [] (Calls.Recent blob) ≡ Outcomes.Recent version size → max_read < size → IsUntold s blob fault
  refused : (version size : ℕ) (refusal : Refusal) → outcome_at s [] (Calls.Recent blob) ≡ Outcomes.Recent version size
      → outcome_at s [] (Calls.Read blob version 0 size) ≡ Outcomes.Refused refusal → IsUntold s blob fault
  outside : (version size : ℕ) → outcome_at s [] (Calls.Recent blob) ≡ Outcomes.Recent version size → IsOutside (λ page. s.fixed.page * page < size) fault → IsUntold s blob fault

abbrev pub TellsLast : Session → ℕ → Result Last Fault → Type 0
TellsLast s blob (Ok last) = IsTold s blob last
TellsLast s blob (Err fault) = IsUntold s blob fault

-- the bytes are no more than a read may have
abbrev pub IsShort : Result Last Fault → Type 0
IsShort (Ok last) = length last.bytes ≤ max_read
IsShort (Err fault) = Unit {0}

-- how the look at a blob ended
pub record LookEnds (blob : ℕ) (told : Result Last Fault) (s s' : Session) : Type 0 where
  pub did : HasDoneOwn s [] s'
  pub short : IsShort told
  pub tells : s'.seen ≡ s.seen → TellsLast s blob told

-- ---- both

-- what is summed up of them
abbrev pub summed_up : LoadPlan → Last → Last → Summary
summed_up plan log grid = record {
  log_size = log.size;
  log_versions = log.version;
  in_order = in_order_of plan.workers plan.ops log.bytes;
  grid_size = grid.size;
  grid_versions = grid.version;
  grid_sum = sum grid.bytes;
}

-- how the look at both ended
pub record SummaryEnds (plan : LoadPlan) (told : Result Summary Fault) (s s' : Session) : Type 0 where
  pub did : HasDoneOwn s [] s'
  pub tells : s'.seen ≡ s.seen → IsSized plan → IsReadBack plan (store_of s.fixed.limits s.seen) s.caller → TellsSummary plan s.fixed.page told
