use Rattle.workload_run.specs.Work.{Works}
use Rattle.workload_run.proofs.working.work.Given as goal

abbrev pub invariant-ops : goal.invariant-ops
invariant-ops g l = Works g.D.Door.faults l.fn.plan l.fn.worker l.op l.fn.session l.session
