-- A caller before its session does anything, and once its pass came back.
use Rattle.std.specs.Prelude.{◌≡◌, ℕ, ◌+◌, List, [], ◌++◌, Result}
use Rattle.blob_model.specs.Limits.{greatest}
use Rattle.blob_model.specs.History.{events_by}
use Rattle.blob_model.specs.declared.call.Event.{Event}
use Rattle.request_form.specs.Session.{Session}
use Rattle.request_form.specs.declared.form.Fault.{Fault}
use Rattle.workload_run.specs.Updates.{IsReady}

-- how something ended that was to come to its end: there, or at a fault
abbrev pub Told : Type 0
Told = Result (Unit {0}) Fault

-- A session with which a worker begins, whose caller is the one after its number: it has events of others alone, the greatest limits,
-- and no ticket.
pub record IsFresh (worker : ℕ) (s : Session) : Type 0 where
  pub caller : s.caller ≡ worker + 1
  pub limits : s.fixed.limits ≡ greatest
  pub none : events_by (worker + 1) s.seen ≡ []
  pub ready : IsReady s

-- The history goes on from what was seen, and has no more events of that caller.
pub record CameBack (caller : ℕ) (seen history : List Event) : Type 0 where
  pub later : List Event
  pub begins : history ≡ seen ++ later
  pub same : events_by caller history ≡ events_by caller seen
