use Rattle.workload_law.proofs.Closing.{seen_alone, nobodys_are_none, openings_are_first, owns_stay, idle_owns_all, nothing_else_hinders_openings, nothing_else_hinders}
use Rattle.workload_law.proofs.laws.loads_close.Goals as goal

pub returns-clause-alone : goal.returns-clause-alone
returns-clause-alone c = seen_alone

pub returns-clause-none : goal.returns-clause-none
returns-clause-none c = nobodys_are_none

pub returns-clause-first : goal.returns-clause-first
returns-clause-first c = openings_are_first

pub returns-clause-own : goal.returns-clause-own
returns-clause-own c = owns_stay

pub returns-clause-idle : goal.returns-clause-idle
returns-clause-idle c = idle_owns_all

pub returns-clause-workers : goal.returns-clause-workers
returns-clause-workers c = nothing_else_hinders c.old_versions_stay.ensures

pub returns-clause-openings : goal.returns-clause-openings
returns-clause-openings c = nothing_else_hinders_openings
