use Rattle.workload_run.specs.Updates.{Finishes}
use Rattle.workload_run.proofs.finishing.finish_when_ready.Given as goal

abbrev pub invariant-tries : goal.invariant-tries
invariant-tries g l = Finishes g.D.Door.faults l.blob l.ticket l.fn.session l.session
