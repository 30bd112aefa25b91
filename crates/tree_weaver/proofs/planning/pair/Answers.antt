use Rattle.std.proofs.Common.{◌+◌, ◌*◌, ◌%◌, ◌^◌, ◌≤◌, arith, ap, ◌∙◌}
use Rattle.tree_geom.specs.declared.range.Range.{Range}
use Rattle.tree_geom.specs.declared.node.Node.{Node}
use Rattle.tree_geom.specs.Geometry.{tree_range}
use Rattle.tree_geom.proofs.Shifts.{size_is, range_is}
use Rattle.tree_weaver.proofs.Shapes.{own_range, own_fits}
use Rattle.tree_weaver.proofs.planning.pair.Goals as goal

pub overflow_mul-range : goal.overflow_mul-range
overflow_mul-range c =
    let t = c.args.ticket.now in
    let is = c.stands.ensures in
    let size = size_is c.bytes.result c.page_size.result t.snapshot.page_size c.args.level c.bytes.ensures.is c.page_size.ensures
    c.bytes.ensures.bounds.1 (omega (arith, c.requires.level, c.requires.tells.low)) in
    let row = own_range c.spans_hold.ensures.heights c.spans_hold.ensures.some c.ranges_align.ensures.nest t c.args.level c.args.q is c.requires.level c.requires.first c.requires.last in
    let fits : c.args.q * (c.bytes.result * 2 ^ c.args.level % 2 ^ 64) + c.bytes.result * 2 ^ c.args.level % 2 ^ 64 ≤ 2 ^ 40 =
    own_fits c.spans_hold.ensures.some t c.args.level c.args.q _ is c.requires.root row size in
    omega (arith, fits)

pub returns : goal.returns
returns c =
    let t = c.args.ticket.now in
    let size = size_is c.bytes.result c.page_size.result t.snapshot.page_size c.args.level c.bytes.ensures.is c.page_size.ensures
    c.bytes.ensures.bounds.1 (omega (arith, c.requires.level, c.requires.tells.low)) in
    let made : Range → Node → Range × Node = λ r n. (r, n) in
    ap (λ r. made r c.node.result) (range_is t.snapshot.page_size c.args.level c.args.q _ size)
    ∙ ap (made (tree_range t.snapshot.page_size c.args.level c.args.q)) c.node.ensures
