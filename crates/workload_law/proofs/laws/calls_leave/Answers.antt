use Rattle.workload_law.proofs.CallEnds.{leaves_add, stops_later, holds_later, holds_stay, holds_own, looks_leave_none, reports_leave}
use Rattle.workload_law.proofs.laws.calls_leave.Goals as goal

pub returns-clause-add : goal.returns-clause-add
returns-clause-add c = leaves_add

pub returns-clause-looks : goal.returns-clause-looks
returns-clause-looks c = looks_leave_none

pub returns-clause-reports : goal.returns-clause-reports
returns-clause-reports c = reports_leave

pub returns-clause-stops : goal.returns-clause-stops
returns-clause-stops c = stops_later

pub returns-clause-holds : goal.returns-clause-holds
returns-clause-holds c = holds_later

pub returns-clause-held : goal.returns-clause-held
returns-clause-held c s mid s' blob place bytes number version holds leaves same = holds_stay s mid blob place bytes number version holds s' leaves same

pub returns-clause-held_own : goal.returns-clause-held_own
returns-clause-held_own c s blob place bytes number version s' holds = holds_own s s' blob place bytes number version holds
