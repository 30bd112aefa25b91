use Rattle.world_acts.proofs.Following.{folds_follow}
use Rattle.world_acts.proofs.laws.folds_follow.Goals as goal

pub returns : goal.returns
returns c = folds_follow c.worlds_agree.ensures.stores
