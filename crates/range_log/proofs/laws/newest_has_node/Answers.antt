use Rattle.range_log.proofs.Links.{newest_has_node, newest_some, newest_past}
use Rattle.range_log.proofs.laws.newest_has_node.Goals as goal

pub returns-clause-node : goal.returns-clause-node
returns-clause-node c = newest_has_node

pub returns-clause-some : goal.returns-clause-some
returns-clause-some c = newest_some

pub returns-clause-none : goal.returns-clause-none
returns-clause-none c = newest_past
