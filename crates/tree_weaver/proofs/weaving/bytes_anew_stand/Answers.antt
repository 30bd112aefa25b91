use Rattle.tree_weaver.proofs.Anew.{bytes_told}
use Rattle.tree_weaver.proofs.weaving.bytes_anew_stand.Goals as goal

pub returns : goal.returns
returns c =
    let extents = c.extents_hold.ensures in
    let grown = c.logs_are_grown.ensures in
    bytes_told c.leaves_fill.ensures.fill c.folds_are.ensures.folds grown.grown grown.count c.newest_is_greatest.ensures.hit c.newest_has_node.ensures.node
    extents.count extents.each extents.contents
