use Rattle.std.proofs.Common.{refl}
use Rattle.range_log.specs.Depths.{fold_number}
use Rattle.range_log.proofs.Folds.{is_one_of}
use Rattle.range_log.proofs.fold.fold_stands.Goals as goal

pub returns : goal.returns
unfolding fold_number
returns c = is_one_of fold_number refl
