use Rattle.workload_law.proofs.Closing.{reads_short}
use Rattle.workload_law.proofs.laws.reads_are_short.Goals as goal

pub returns : goal.returns
returns c = reads_short
