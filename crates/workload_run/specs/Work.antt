-- The work of one of a load's workers.
use Rattle.std.specs.Prelude.{◌≡◌, ℕ, ◌+◌, ◌<◌, ◌≤◌, List, [], ◌++◌, Result, Ok, Err, sum_by}
use Rattle.blob_model.specs.Limits.{greatest}
use Rattle.blob_model.specs.History.{events_by}
use Rattle.blob_model.specs.declared.call.Event.{Event}
use Rattle.request_form.specs.Session.{Session}
use Rattle.request_form.specs.declared.form.Fault.{Fault}
use Rattle.faults.specs.Counts.{RoseBy}
use Rattle.client_session.specs.Sessions.{SessionState, Continues, session_of}
use Rattle.workload_law.specs.declared.plan.LoadPlan.{LoadPlan}
use Rattle.workload_law.specs.Load.{operation, IsSized, HasDone, HasBegun}
use Rattle.workload_law.specs.Sessions.{FinishesItsOwn}
use Rattle.workload_law.specs.Ends.{Leaves}
use Rattle.workload_law.specs.Closing.{OperationHindered}
use Rattle.workload_run.specs.Updates.{IsReady, StoppedWithin}

-- a worker of the plan, and an operation of it
pub record IsOperation (plan : LoadPlan) (worker op : ℕ) : Type 0 where
  pub sized : IsSized plan
  pub some : 1 ≤ worker
  pub last : worker ≤ plan.workers
  pub within : op < plan.ops

-- the operation was done
pub record HasOperated (plan : LoadPlan) (worker op : ℕ) (s s' : Session) : Type 0 where
  pub log_version : ℕ
  pub grid_version : ℕ
  pub leaves : Leaves s (operation plan worker op log_version grid_version) s'
  pub none_held : s'.tickets ≡ []

-- It wasn't: the session hung up within it, at what hindered the last try of one of its updates.
pub record HasStoppedAt (plan : LoadPlan) (worker op : ℕ) (fault : Fault) (s s' : Session) : Type 0 where
  pub log_version : ℕ
  pub grid_version : ℕ
  pub stopped : StoppedWithin s (operation plan worker op log_version grid_version) s'
  pub more : List Event
  pub hindered : OperationHindered plan s.fixed.page worker op (s.seen ++ more) s'.seen fault

-- which of them it was
abbrev pub Operated : {A : Type 0} → LoadPlan → ℕ → ℕ → Result A Fault → Session → Session → Type 0
Operated plan worker op (Ok done) s s' = HasOperated plan worker op s s'
Operated plan worker op (Err fault) s s' = HasStoppedAt plan worker op fault s s'

-- A worker's session has done its first operations: what it saw has gone on, its own events are those of the operations, and it finished its own alone.
pub record HasWorked (plan : LoadPlan) (worker op : ℕ) (s s' : Session) : Type 0 where
  pub more : List Event
  pub seen : s'.seen ≡ s.seen ++ more
  pub done : HasDone plan worker op (events_by (worker + 1) s'.seen)
  pub own : FinishesItsOwn greatest s'.seen (worker + 1)
  pub caller : s'.caller ≡ worker + 1
  pub fixed : s'.fixed ≡ s.fixed
  pub ready : IsReady s'

-- A worker's session stopped at an operation, and hung up.
pub record HasEndedEarly (plan : LoadPlan) (worker : ℕ) (fault : Fault) (s s' : Session) : Type 0 where
  pub more : List Event
  pub seen : s'.seen ≡ s.seen ++ more
  pub begun : HasBegun plan worker (events_by (worker + 1) s'.seen)
  pub own : FinishesItsOwn greatest s'.seen (worker + 1)
  pub none_held : s'.tickets ≡ []
  pub op : ℕ
  pub is_op : op < plan.ops
  pub later : List Event
  pub hindered : OperationHindered plan s.fixed.page worker op (s.seen ++ later) s'.seen fault

-- how a worker ended: at its end, or early
abbrev pub WorkEnds : {A : Type 0} → LoadPlan → ℕ → Result A Fault → Session → Session → Type 0
WorkEnds plan worker (Ok done) s s' = HasWorked plan worker plan.ops s s'
WorkEnds plan worker (Err fault) s s' = HasEndedEarly plan worker fault s s'

-- the work so far
pub record Works {D : Type 0} (faults : D → ℕ) (plan : LoadPlan) (worker op : ℕ) (old new : SessionState D) : Type 0 where
  pub worked : HasWorked plan worker op (session_of old) (session_of new)
  pub rose : RoseBy 0 (sum_by faults old.doors) (sum_by faults new.doors)
  pub goes_on : Continues old new
