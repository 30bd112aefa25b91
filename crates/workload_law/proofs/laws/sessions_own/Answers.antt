use Rattle.workload_law.proofs.OwnEvents.{gap_has_none, event_is_own, numbering_is_own, update_is_own, numbers_own, finishes_stay, reports_stay, nobody_else}
use Rattle.workload_law.proofs.laws.sessions_own.Goals as goal

pub returns-clause-gaps : goal.returns-clause-gaps
returns-clause-gaps c = gap_has_none

pub returns-clause-numberings : goal.returns-clause-numberings
returns-clause-numberings c = numbering_is_own

pub returns-clause-updates : goal.returns-clause-updates
returns-clause-updates c = update_is_own

pub returns-clause-stay : goal.returns-clause-stay
returns-clause-stay c = finishes_stay

pub returns-clause-nobody : goal.returns-clause-nobody
returns-clause-nobody c = nobody_else

pub returns-clause-events : goal.returns-clause-events
returns-clause-events c = event_is_own

pub returns-clause-numbers : goal.returns-clause-numbers
returns-clause-numbers c = numbers_own

pub returns-clause-reports : goal.returns-clause-reports
returns-clause-reports c = reports_stay
