-- How a load or a watch ended that was ended early.
use Rattle.std.proofs.Common.{◌≡◌, ◌⊎◌, inl, inr, ℕ}
use Rattle.workload_run.specs.Ending.{EndsEarly}
use Rattle.workload_run.specs.declared.ending.EarlyEnd.{EarlyEnd}
use Rattle.workload_run.specs.declared.ending.EarlyEnd.TheVariants as Ends
use Rattle.blobseer_run.specs.declared.status.Status.{Status}
use Rattle.blobseer_run.specs.declared.status.Status.TheVariants as Statuses
use Rattle.blobseer_run.specs.Outside.{Rises}
use Rattle.blobseer_run.specs.Measuring.{status_of}

-- no memory was found, or a page was lost, and the doors' count rose
abbrev pub IsEarly : Status → ℕ → ℕ → Type 0
IsEarly status before after = (status ≡ Statuses.OutOfMemory) ⊎ ((status ≡ Statuses.LoadEndedEarly) × Rises before after)

pub ended_so : (IsPage : ℕ → Type 0) (end : EarlyEnd) (before after : ℕ) (status : Status) → status ≡ status_of end → EndsEarly IsPage end before after → IsEarly status before after
ended_so IsPage (Ends.Refused fault) before after status is lost = inr (is, lost.rose)
ended_so IsPage Ends.NoMemory before after status is ended = inl is
