use Rattle.tree_weaver.proofs.Plans.{touch_ordered}
use Rattle.tree_weaver.proofs.node.folds.Goals as goal

pub folded-requires-clause-last : goal.folded-requires-clause-last
folded-requires-clause-last c = rw c.touch-touch.ensures (touch_ordered c.args.ticket.now c.stands.ensures)

pub folded-requires-then-touch-clause-first : goal.folded-requires-then-touch-clause-first
folded-requires-then-touch-clause-first c = rw c.touch-touch.ensures (touch_ordered c.args.ticket.now c.stands.ensures)
