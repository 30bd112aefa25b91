use Rattle.workload_law.proofs.Loads.{summary_holds}
use Rattle.workload_law.proofs.laws.summaries_hold.Goals as goal

pub returns : goal.returns
returns c = λ plan history small legal load. summary_holds plan history legal load small
