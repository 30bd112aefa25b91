use Rattle.std.proofs.Common.{arith, ◌∙◌}
use Rattle.tree_weaver.proofs.FoldedPages.{page_touched}
use Rattle.tree_weaver.proofs.node.page_begin.Goals as goal

pub overflow_mul-result : goal.overflow_mul-result
overflow_mul-result c =
    let is = c.stands.ensures in
    let touched = page_touched c.args.ticket.now c.args.page c.bytes.result is (c.bytes.ensures.is ∙ c.page_size.ensures) c.requires.first c.requires.last in
    omega (arith, touched, is.size, is.fits)

pub returns : goal.returns
returns c =
    let same = c.bytes.ensures.is ∙ c.page_size.ensures in
    let touched = page_touched c.args.ticket.now c.args.page c.bytes.result c.stands.ensures same c.requires.first c.requires.last in
    record { is = touched.0; before_end = touched.1; ends_behind = omega (arith, touched, same) }
