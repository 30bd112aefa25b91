use Rattle.world_acts.proofs.Finishing.{finishing}
use Rattle.world_acts.proofs.Owning.{waiting_are_own}
use Rattle.world_acts.proofs.laws.finishes_are_steps.Goals as goal

pub returns-clause-own : goal.returns-clause-own
returns-clause-own c = waiting_are_own

pub returns-clause-finishes : goal.returns-clause-finishes
returns-clause-finishes c = finishing c.worlds_agree.ensures.stores
