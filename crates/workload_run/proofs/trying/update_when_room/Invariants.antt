use Rattle.workload_run.specs.Updates.{Retries}
use Rattle.workload_run.proofs.trying.update_when_room.Given as goal

abbrev pub invariant-tries : goal.invariant-tries
invariant-tries g l = Retries g.D.Door.faults l.fn.session l.session
