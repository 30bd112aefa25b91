use Rattle.version_manager.proofs.Gaps.{gaps_other}
use Rattle.version_manager.proofs.laws.gaps_are_of_others.Goals as goal

pub returns : goal.returns
returns c = gaps_other
