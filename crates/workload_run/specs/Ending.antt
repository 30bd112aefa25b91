-- How work of many sessions ends early.
use Rattle.std.specs.Prelude.{◌≡◌, ℕ, ◌+◌, ◌<◌, ◌≤◌, ◌^◌, ◌-◌}
use Rattle.request_form.specs.declared.form.Fault.{Fault}
use Rattle.request_form.specs.declared.form.Fault.TheVariants as Faults
use Rattle.workload_run.specs.declared.ending.EarlyEnd.{EarlyEnd}
use Rattle.workload_run.specs.declared.ending.EarlyEnd.TheVariants as Ends

-- what is said of a call's fault
abbrev pub ended_by : Fault → EarlyEnd
ended_by Faults.NoMemory = Ends.NoMemory
ended_by (Faults.NoMemoryTicket ticket) = Ends.NoMemory
ended_by fault = Ends.Refused fault

-- A page was lost, which is one of those, and the count rose, which stands still at the greatest u64.
pub record LostPage (IsPage : ℕ → Type 0) (fault : Fault) (before after : ℕ) : Type 0 where
  pub page : ℕ
  pub is_page : IsPage page
  pub lost : fault ≡ Faults.PageFault page
  pub rose : after < 2 ^ 64 - 1 → before + 1 ≤ after

-- it ends so only where one of those pages was lost, or for want of memory
abbrev pub EndsEarly : (ℕ → Type 0) → EarlyEnd → ℕ → ℕ → Type 0
EndsEarly IsPage (Ends.Refused fault) before after = LostPage IsPage fault before after
EndsEarly IsPage Ends.NoMemory before after = Unit {0}
