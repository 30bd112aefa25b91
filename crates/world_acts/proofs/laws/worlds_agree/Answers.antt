use Rattle.world_acts.proofs.Steps.{empty_is_a_world, worlds_are_reached, stores_agree, lineages_agree}
use Rattle.world_acts.proofs.laws.worlds_agree.Goals as goal

pub returns-clause-empty : goal.returns-clause-empty
returns-clause-empty c = empty_is_a_world

pub returns-clause-reached : goal.returns-clause-reached
returns-clause-reached c = worlds_are_reached

pub returns-clause-stores : goal.returns-clause-stores
returns-clause-stores c = stores_agree c.steps_hold.ensures.hold

pub returns-clause-lineages : goal.returns-clause-lineages
returns-clause-lineages c = lineages_agree
