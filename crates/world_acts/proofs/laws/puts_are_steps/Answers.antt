use Rattle.tree_weaver.proofs.Anew.{bytes_told}
use Rattle.world_acts.proofs.Folding.{fold_putting}
use Rattle.world_acts.proofs.Weaving.{node_putting}
use Rattle.world_acts.proofs.laws.puts_are_steps.Goals as goal

pub returns-clause-fold : goal.returns-clause-fold
returns-clause-fold c =
    let extents = c.extents_hold.ensures in
    let grown = c.logs_are_grown.ensures in
    fold_putting c.worlds_agree.ensures.stores c.steps_hold.ensures.hold c.steps_hold.ensures.stays
    (bytes_told c.leaves_fill.ensures.fill c.folds_are.ensures.folds grown.grown grown.count c.newest_is_greatest.ensures.hit c.newest_has_node.ensures.node
    extents.count extents.each extents.contents)

pub returns-clause-node : goal.returns-clause-node
returns-clause-node c = node_putting c.worlds_agree.ensures.stores c.steps_hold.ensures.hold c.steps_hold.ensures.stays
