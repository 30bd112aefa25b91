-- What a command promises that measures the store: the lines that it comes to.
use Rattle.std.specs.Prelude.{◌≡◌, ℕ, List, []}
use Rattle.std.specs.Io.KnownBytes.{Appends}
use Rattle.blob_model.specs.declared.call.Event.{Event}
use Rattle.workload_run.specs.declared.ending.EarlyEnd.{EarlyEnd}
use Rattle.workload_run.specs.declared.ending.EarlyEnd.TheVariants as Ends
use Rattle.blobseer_run.specs.declared.status.Status.{Status}
use Rattle.blobseer_run.specs.declared.status.Status.TheVariants as Statuses
use Rattle.blobseer_run.specs.Status.{out_of_memory, load_ended_early}
use Rattle.blobseer_run.specs.Writing.{WritesLine}
use Rattle.blobseer_run.specs.Outside.{Outside, LeavesInput, LeavesNet, Rises}

-- how a measure ends that was ended early
abbrev pub status_of : EarlyEnd → Status
status_of (Ends.Refused fault) = Statuses.LoadEndedEarly
status_of Ends.NoMemory = Statuses.OutOfMemory

-- How a measure ended, by the status and by the text that was written.
pub data Measured (Came : List Event → Type 0) (lines text : List ℕ) (doors doors' writes writes' status : ℕ) : Type 0 where
  -- all of its callers came to their ends, this is what the closed store had come to, and the lines were told
  whole : WritesLine lines text writes writes' status → (history : List Event) → Came history → Measured Came lines text doors doors' writes writes' status
  -- a page was lost
  early : (status ≡ load_ended_early) → Rises doors doors' → (text ≡ []) → Measured Came lines text doors doors' writes writes' status
  -- no memory was found
  starved : (status ≡ out_of_memory) → (text ≡ []) → Measured Came lines text doors doors' writes writes' status

-- The store was measured, the output got the text, and the input and the listener were left alone.
pub record DidMeasure (Came : List Event → Type 0) (lines : List ℕ) (old new : Outside) (status : ℕ) : Type 0 where
  pub text : List ℕ
  pub adds : Appends old.written new.written text
  pub ended : Measured Came lines text old.doors new.doors old.writes new.writes status
  pub input : LeavesInput old new
  pub net : LeavesNet old new
