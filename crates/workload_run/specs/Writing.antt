-- The work of a watch's writer.
use Rattle.std.specs.Prelude.{◌≡◌, ℕ, List, ◌++◌, Result, Ok, Err, sum_by}
use Rattle.faults.specs.Counts.{RoseBy}
use Rattle.blob_model.specs.Limits.{greatest}
use Rattle.blob_model.specs.History.{events_by}
use Rattle.blob_model.specs.declared.call.Event.{Event}
use Rattle.blob_model.specs.declared.call.Place.TheVariants.{Append}
use Rattle.request_form.specs.Session.{Session}
use Rattle.request_form.specs.declared.form.Fault.{Fault}
use Rattle.client_session.specs.Sessions.{SessionState, Continues, session_of}
use Rattle.workload_law.specs.Sessions.{FinishesItsOwn}
use Rattle.workload_law.specs.Ends.{UpdateHindered}
use Rattle.workload_run.specs.Updates.{IsReady, told_faults}
use Rattle.workload_run.specs.Callers.{Told}
use Rattle.workload_law.specs.declared.watch_plan.WatchPlan.{WatchPlan}
use Rattle.workload_law.specs.Watch.{piece_of, HasWritten, HasBegun}

-- The writer's session has done its first operations: what it saw has gone on, its own events are those of the operations, and it finished its own alone.
pub record Wrote (plan : WatchPlan) (op : ℕ) (s s' : Session) : Type 0 where
  pub more : List Event
  pub seen : s'.seen ≡ s.seen ++ more
  pub written : HasWritten plan op (events_by 2 s'.seen)
  pub own : FinishesItsOwn greatest s'.seen 2
  pub caller : s'.caller ≡ 2
  pub fixed : s'.fixed ≡ s.fixed
  pub ready : IsReady s'

-- It stopped at an operation, and hung up. It tells what hindered the last try, when it had seen more of others.
pub record StoppedWriting (plan : WatchPlan) (fault : Fault) (s s' : Session) : Type 0 where
  pub begun : HasBegun plan (events_by 2 s'.seen)
  pub own : FinishesItsOwn greatest s'.seen 2
  pub op : ℕ
  pub later : List Event
  pub hindered : UpdateHindered greatest s.fixed.page 2 1 Append (piece_of plan op) (s.seen ++ later) s'.seen fault

-- how the writer ended: at its end, or early
abbrev pub WriteEnds : {A : Type 0} → WatchPlan → Result A Fault → Session → Session → Type 0
WriteEnds plan (Ok done) s s' = Wrote plan plan.ops s s'
WriteEnds plan (Err fault) s s' = StoppedWriting plan fault s s'

-- the work so far
pub record Writes {D : Type 0} (faults : D → ℕ) (plan : WatchPlan) (op : ℕ) (old new : SessionState D) : Type 0 where
  pub wrote : Wrote plan op (session_of old) (session_of new)
  pub rose : RoseBy 0 (sum_by faults old.doors) (sum_by faults new.doors)
  pub goes_on : Continues old new

-- a writer that was handed its session has ended
pub record HasWrittenBy {D : Type 0} (faults : D → ℕ) (plan : WatchPlan) (told : Told) (old new : SessionState D) : Type 0 where
  pub ends : WriteEnds plan told (session_of old) (session_of new)
  pub rose : RoseBy (told_faults told) (sum_by faults old.doors) (sum_by faults new.doors)
  pub goes_on : Continues old new
