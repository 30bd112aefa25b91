use Rattle.world_acts.proofs.Numbering.{numbering}
use Rattle.world_acts.proofs.laws.numberings_are_steps.Goals as goal

pub returns : goal.returns
returns c = numbering c.worlds_agree.ensures.stores
