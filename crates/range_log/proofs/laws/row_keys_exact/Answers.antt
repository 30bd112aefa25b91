use Rattle.range_log.proofs.Exact.{row_keys_exact, row_keys_in_order}
use Rattle.range_log.proofs.Counts.{levels_are_few}
use Rattle.range_log.proofs.laws.row_keys_exact.Goals as goal

pub returns-clause-exact : goal.returns-clause-exact
returns-clause-exact c = row_keys_exact

pub returns-clause-order : goal.returns-clause-order
returns-clause-order c = row_keys_in_order

pub returns-clause-few : goal.returns-clause-few
returns-clause-few c = levels_are_few
