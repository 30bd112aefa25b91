use Rattle.range_log.proofs.Grown.{length-touches, touch-touches, size-touches, grown_updates}
use Rattle.range_log.proofs.laws.logs_are_grown.Goals as goal

pub returns-clause-count : goal.returns-clause-count
returns-clause-count c = length-touches

pub returns-clause-touches : goal.returns-clause-touches
returns-clause-touches c = touch-touches

pub returns-clause-sizes : goal.returns-clause-sizes
returns-clause-sizes c = size-touches

pub returns-clause-grown : goal.returns-clause-grown
returns-clause-grown c = grown_updates
