use Rattle.world_acts.proofs.Histories.{histories_have_worlds, sessions_together}
use Rattle.world_acts.proofs.laws.histories_have_worlds.Goals as goal

pub returns-clause-worlds : goal.returns-clause-worlds
returns-clause-worlds c = histories_have_worlds c.worlds_agree.ensures.stores c.steps_hold.ensures.hold c.steps_hold.ensures.stays c.worlds_only_grow.ensures.grow

pub returns-clause-together : goal.returns-clause-together
returns-clause-together c = sessions_together c.worlds_agree.ensures.stores c.steps_hold.ensures.hold c.steps_hold.ensures.stays c.worlds_only_grow.ensures.grow
