use Rattle.world_acts.proofs.Turns.{creating, branching, looking}
use Rattle.world_acts.proofs.laws.turns_are_steps.Goals as goal

pub returns-clause-creates : goal.returns-clause-creates
returns-clause-creates c = creating c.worlds_agree.ensures.stores

pub returns-clause-branches : goal.returns-clause-branches
returns-clause-branches c = branching c.worlds_agree.ensures.stores

pub returns-clause-looks : goal.returns-clause-looks
returns-clause-looks c = looking
