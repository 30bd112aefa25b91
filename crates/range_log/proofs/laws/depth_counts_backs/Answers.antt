use Rattle.range_log.proofs.Depths.{depths_step, depth_of_newest, depth_counts_backs, depths_are_few, depths_stay}
use Rattle.range_log.proofs.laws.depth_counts_backs.Goals as goal

pub returns-clause-backs : goal.returns-clause-backs
returns-clause-backs c = depth_counts_backs

pub returns-clause-step : goal.returns-clause-step
returns-clause-step c = depths_step

pub returns-clause-newest : goal.returns-clause-newest
returns-clause-newest c = depth_of_newest

pub returns-clause-few : goal.returns-clause-few
returns-clause-few c = depths_are_few

pub returns-clause-stay : goal.returns-clause-stay
returns-clause-stay c = depths_stay
