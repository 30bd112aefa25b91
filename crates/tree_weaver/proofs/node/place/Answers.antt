use Rattle.std.proofs.Common.{sym, true, false, ◌∙◌}
use Rattle.tree_weaver.proofs.FoldedPages.{place_other}
use Rattle.tree_weaver.proofs.node.place.Goals as goal

pub returns-then-folded-clause-place : goal.returns-then-folded-clause-place
returns-then-folded-clause-place c =
    place_other c.touches_tell_cover.ensures c.args.ticket.now c.args.page true c.stands.ensures c.touch-first.result c.touch-first.ensures c.requires.first c.requires.last c.if-page-first.false
    c.requires.anew (sym c.if-folded.true ∙ c.folded.ensures)

pub returns-else-folded-clause-place : goal.returns-else-folded-clause-place
returns-else-folded-clause-place c =
    place_other c.touches_tell_cover.ensures c.args.ticket.now c.args.page false c.stands.ensures c.touch-first.result c.touch-first.ensures c.requires.first c.requires.last c.if-page-first.false
    c.requires.anew (sym c.if-folded.false ∙ c.folded.ensures)
