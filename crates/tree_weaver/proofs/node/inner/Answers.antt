use Rattle.std.proofs.Common.{ap, sym, ◌∙◌}
use Rattle.tree_geom.specs.declared.node.Node.TheVariants.{Inner}
use Rattle.tree_geom.specs.Geometry.{tree_range, left_half}
use Rattle.tree_weaver.specs.Planned.{own_link}
use Rattle.tree_weaver.proofs.Links.{low_is, high_is}
use Rattle.tree_weaver.proofs.node.inner.Goals as goal

pub returns : goal.returns
returns c =
    let t = c.args.ticket.now in
    let p = t.snapshot.page_size in
    let low = low_is c.ranges_align.ensures.low p c.args.level c.args.q c.requires.above in
    let high = high_is c.ranges_align.ensures.high p c.args.level c.args.q c.requires.above in
    ap (λ left. Inner left c.link-2.result) (c.link.ensures ∙ ap (own_link t) (sym low))
    ∙ ap (λ right. Inner (own_link t (left_half (tree_range p c.args.level c.args.q))) right) (c.link-2.ensures ∙ ap (own_link t) (sym high))
