use Rattle.workload_law.proofs.Watching.{first_is, history_is, blob_there, blob_after, nothing_else_hinders}
use Rattle.workload_law.proofs.watch_laws.watches_close.Goals as goal

pub returns-clause-together : goal.returns-clause-together
returns-clause-together c first history come = (first_is first history come, history_is first history come)

pub returns-clause-there : goal.returns-clause-there
returns-clause-there c later legal = (blob_after later, blob_there later legal)

pub returns-clause-writer : goal.returns-clause-writer
returns-clause-writer c = nothing_else_hinders c.old_versions_stay.ensures
