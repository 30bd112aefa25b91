use Rattle.std.proofs.Common.{sym}
use Rattle.tree_weaver.proofs.Shapes.{cover_told}
use Rattle.tree_weaver.proofs.node.covers_page.Goals as goal

pub returns : goal.returns
returns c =
    sym (cover_told c.touches_tell_cover.ensures c.args.ticket.now c.args.page c.touch.result c.leaves_open.result c.stands.ensures
    c.requires.first c.requires.last c.touch.ensures c.leaves_open.ensures)
