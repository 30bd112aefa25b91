use Rattle.workload_law.proofs.Watching.{version_of, pieces_told}
use Rattle.workload_law.proofs.watch_laws.pieces_are_told.Goals as goal

pub returns-clause-sizes : goal.returns-clause-sizes
returns-clause-sizes c plan history legal under b at version out = version_of c.published_are_numbered.ensures plan history legal under b at version out

pub returns-clause-told : goal.returns-clause-told
returns-clause-told c plan history legal under op = pieces_told c.published_are_numbered.ensures plan history legal under op
