use Rattle.workload_run.specs.Writing.{Writes}
use Rattle.workload_run.proofs.writing.write_all.Given as goal

abbrev pub invariant-ops : goal.invariant-ops
invariant-ops g l = Writes g.D.Door.faults l.fn.plan l.op l.fn.session l.session
