use Rattle.workload_law.proofs.OneCaller.{one_caller, numbered_stays}
use Rattle.workload_law.proofs.laws.versions_have_one_caller.Goals as goal

pub returns-clause-one : goal.returns-clause-one
returns-clause-one c = one_caller

pub returns-clause-stays : goal.returns-clause-stays
returns-clause-stays c = numbered_stays
