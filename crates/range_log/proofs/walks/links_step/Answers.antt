use Rattle.range_log.proofs.Steps.{links_step, child_stands}
use Rattle.range_log.proofs.walks.links_step.Goals as goal

pub returns-clause-step : goal.returns-clause-step
returns-clause-step c = links_step

pub returns-clause-child : goal.returns-clause-child
returns-clause-child c = child_stands
