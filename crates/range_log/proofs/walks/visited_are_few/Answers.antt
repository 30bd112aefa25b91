use Rattle.range_log.proofs.Visits.{apart, leaf, more, visited_are_few, walks_are_bounded}
use Rattle.range_log.proofs.walks.visited_are_few.Goals as goal

pub returns-clause-none : goal.returns-clause-none
returns-clause-none c = apart

pub returns-clause-leaf : goal.returns-clause-leaf
returns-clause-leaf c = leaf

pub returns-clause-inner : goal.returns-clause-inner
returns-clause-inner c = more

pub returns-clause-few : goal.returns-clause-few
returns-clause-few c = visited_are_few

pub returns-clause-bounded : goal.returns-clause-bounded
returns-clause-bounded c = walks_are_bounded
