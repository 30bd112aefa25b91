use Rattle.workload_law.proofs.CallEnds.{updates_ended, creates_ended, hindrances_stay, finish_ended}
use Rattle.workload_law.proofs.laws.calls_end.Goals as goal

pub returns-clause-creates : goal.returns-clause-creates
returns-clause-creates c = creates_ended

pub returns-clause-updates : goal.returns-clause-updates
returns-clause-updates c = updates_ended

pub returns-clause-stay : goal.returns-clause-stay
returns-clause-stay c = hindrances_stay

pub returns-clause-finishes : goal.returns-clause-finishes
returns-clause-finishes c s mid blob place bytes number version reply s' none holds answers =
    finish_ended s mid blob place bytes number version holds c.finished_by_events.ensures c.old_versions_stay.ensures none reply s' answers
