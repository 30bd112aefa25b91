use Rattle.std.proofs.Common.{arith, ◌∙◌}
use Rattle.tree_geom.proofs.Spans.{page_pos}
use Rattle.tree_weaver.proofs.Shapes.{inner_wide, node_leaf, node_inner}
use Rattle.tree_weaver.proofs.planning.node.Goals as goal

pub returns-then-level-eq0 : goal.returns-then-level-eq0
returns-then-level-eq0 c =
    let t = c.args.ticket.now in
    c.leaf.ensures ∙ node_leaf t c.args.level c.args.q (page_pos t.snapshot.page_size c.stands.ensures.published.page_size) c.if-level-eq0.true

pub returns-else-level-eq0 : goal.returns-else-level-eq0
returns-else-level-eq0 c =
    let t = c.args.ticket.now in
    let p = t.snapshot.page_size in
    c.inner.ensures ∙ node_inner t c.args.level c.args.q (inner_wide p c.args.level (page_pos p c.stands.ensures.published.page_size) (omega (arith, c.if-level-eq0.false)))

pub leaf-requires-clause-borders : goal.leaf-requires-clause-borders
leaf-requires-clause-borders c = c.requires.tells.own

pub inner-requires-clause-borders : goal.inner-requires-clause-borders
inner-requires-clause-borders c = c.requires.tells.own
