use Rattle.range_log.proofs.Folds.{folds_are, none_folds, visits_are_few}
use Rattle.range_log.proofs.laws.folds_are.Goals as goal

pub returns-clause-folds : goal.returns-clause-folds
returns-clause-folds c = folds_are

pub returns-clause-none : goal.returns-clause-none
returns-clause-none c = none_folds

pub returns-clause-few : goal.returns-clause-few
returns-clause-few c = visits_are_few
