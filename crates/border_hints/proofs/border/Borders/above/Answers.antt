use Rattle.std.proofs.Common.{◌/◌, ◌^◌, ◌<◌, arith, inr, ap, ◌∙◌}
use Rattle.tree_geom.specs.Geometry.{tree_range}
use Rattle.range_log.specs.Log.{newest_of}
use Rattle.border_hints.specs.Borders.{BorderLinks, beside}
use Rattle.border_hints.proofs.Halves.{height_few}
use Rattle.border_hints.proofs.border.Borders.above.Goals as goal

pub edge-requires : goal.edge-requires
edge-requires c = inr (ap (λ (b : BorderLinks). b.touch.last) c.self.view_is)

pub bounds-edge-level : goal.bounds-edge-level
bounds-edge-level c =
    let i = c.self.inside in
    let low = rw (← c.self.view_is) at c.requires in
    let few : c.args.level < 39 =
    height_few c.spans_hold.ensures.heights c.spans_hold.ensures.some i.page_size i.touch.size c.args.level (omega (arith, c.stands.ensures.bounds)) c.self.invariant.1 low in
    omega arith

pub returns : goal.returns
returns c = λ log k are.
    let b = c.args.self.now in
    let same = ap (λ (x : BorderLinks). x.touch.last) c.self.view_is in
    c.from.ensures
    ∙ (c.edge.ensures.knows log k are).besides c.args.level c.requires
    ∙ ap (λ n. newest_of b.page_size log k (tree_range b.page_size c.args.level (beside (n / 2 ^ c.args.level)))) same
