use Rattle.workload_law.proofs.Watching.{watch_done}
use Rattle.workload_law.proofs.watch_laws.watches_are_done.Goals as goal

pub returns : goal.returns
returns c = watch_done
