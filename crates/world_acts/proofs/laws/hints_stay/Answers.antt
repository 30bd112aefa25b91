use Rattle.world_acts.proofs.Hinting.{hints_stay}
use Rattle.world_acts.proofs.laws.hints_stay.Goals as goal

pub returns : goal.returns
returns c = hints_stay c.old_versions_stay.ensures
