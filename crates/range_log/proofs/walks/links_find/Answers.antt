use Rattle.range_log.proofs.Walk.{roots_stand, links_find}
use Rattle.range_log.proofs.walks.links_find.Goals as goal

pub returns-clause-roots : goal.returns-clause-roots
returns-clause-roots c = roots_stand

pub returns-clause-find : goal.returns-clause-find
returns-clause-find c = links_find
