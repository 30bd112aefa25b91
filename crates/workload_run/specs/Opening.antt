-- How a load's first session makes the log and the grid, and fills the grid with zeros.
use Rattle.std.specs.Prelude.{ℕ, List, Result, Ok, Err}
use Rattle.blob_model.specs.declared.call.Event.{Event}
use Rattle.request_form.specs.Session.{Session}
use Rattle.request_form.specs.declared.form.Fault.{Fault}
use Rattle.workload_law.specs.declared.plan.LoadPlan.{LoadPlan}
use Rattle.workload_law.specs.Load.{opened_with}
use Rattle.workload_law.specs.Closing.{OpeningHindered}
use Rattle.workload_run.specs.Making.{HasDoneOwn}

-- the whole opening was done, and the zeros got some version
pub record HasOpened (plan : LoadPlan) (s s' : Session) : Type 0 where
  pub version : ℕ
  pub did : HasDoneOwn s (opened_with plan version) s'

-- one of its steps was hindered, and the session hung up
pub record HasNotOpened (plan : LoadPlan) (fault : Fault) (s s' : Session) : Type 0 where
  pub own : List Event
  pub did : HasDoneOwn s own s'
  pub first : List Event
  pub hindered : OpeningHindered plan s.fixed.page first s'.seen fault

-- which of them it was
abbrev pub OpeningEnds : {A : Type 0} → LoadPlan → Result A Fault → Session → Session → Type 0
OpeningEnds plan (Ok done) s s' = HasOpened plan s s'
OpeningEnds plan (Err fault) s s' = HasNotOpened plan fault s s'
