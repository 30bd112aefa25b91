use Rattle.workload_law.proofs.Loads.{read_back}
use Rattle.workload_law.proofs.laws.loads_read_back.Goals as goal

pub returns : goal.returns
returns c = λ plan history small legal load caller. read_back plan history small legal load caller
