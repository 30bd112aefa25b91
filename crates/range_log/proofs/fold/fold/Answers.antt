use Rattle.std.proofs.Common.{refl}
use Rattle.range_log.specs.Depths.{fold_number}
use Rattle.range_log.proofs.fold.fold.Goals as goal

pub returns : goal.returns
unfolding fold_number
returns c = refl
