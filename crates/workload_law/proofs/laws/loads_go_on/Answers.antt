use Rattle.workload_law.proofs.Loads.{opening_legal, refused_when_full, loads_underway, beginnings_underway, both_there, stopped_begun}
use Rattle.workload_law.proofs.laws.loads_go_on.Goals as goal

pub returns-clause-opening : goal.returns-clause-opening
returns-clause-opening c = opening_legal

pub returns-clause-full : goal.returns-clause-full
returns-clause-full c = refused_when_full

pub returns-clause-loads : goal.returns-clause-loads
returns-clause-loads c = loads_underway

pub returns-clause-beginnings : goal.returns-clause-beginnings
returns-clause-beginnings c = beginnings_underway

pub returns-clause-there : goal.returns-clause-there
returns-clause-there c = both_there

pub returns-clause-stopped : goal.returns-clause-stopped
returns-clause-stopped c = stopped_begun
