use Rattle.range_log.proofs.Counts.{backs_step}
use Rattle.range_log.proofs.laws.backs_step.Goals as goal

pub returns : goal.returns
returns c = backs_step
