use Rattle.std.proofs.Common.{◌+◌, ◌<◌, ◌^◌, arith, ◌∙◌}
use Rattle.tree_weaver.proofs.Shapes.{stored_fits}
use Rattle.tree_weaver.proofs.node.leaf.Goals as goal

pub pieces-count-requires-clause-stored : goal.pieces-count-requires-clause-stored
pieces-count-requires-clause-stored c =
    let t = c.args.ticket.now in
    let is = c.stands.ensures in
    let few : c.count-pages.result < 2 ^ 32 = omega (arith, c.count-pages.type_inv) in
    stored_fits (c.part-part.result.from + c.part-part.result.len) t.len c.count-pages.result t.snapshot.page_size c.page_size.result t.pages c.deref.result.now
    (c.deref.ensures ∙ c.pages.ensures) c.part-part.ensures.in_buffer is.len is.page_size c.count-pages.ensures.enough few c.page_size.ensures
