use Rattle.std.proofs.Common.{sym, ◌∙◌}
use Rattle.tree_weaver.proofs.Plans.{touch_told}
use Rattle.tree_weaver.proofs.Shapes.{own_edge, covered_back, covered_depth, answered_back, answered_depth}
use Rattle.tree_weaver.proofs.node.back.Goals as goal

pub leaf-requires : goal.leaf-requires
leaf-requires c = record {
  edge = own_edge c.touches_tell_cover.ensures c.args.borders.now c.args.ticket.now c.args.page c.stands.ensures c.requires.borders.touch c.requires.first c.requires.last
      (sym c.covers_page.ensures ∙ c.if-covers_page.false);
}

pub depth-requires : goal.depth-requires
depth-requires c = record {
  edge = own_edge c.touches_tell_cover.ensures c.args.borders.now c.args.ticket.now c.args.page c.stands.ensures c.requires.borders.touch c.requires.first c.requires.last
      (sym c.covers_page.ensures ∙ c.if-covers_page.false);
}

pub returns-then-covers_page-clause-back : goal.returns-then-covers_page-clause-back
returns-then-covers_page-clause-back c = covered_back c.args.ticket.now c.args.page (sym c.covers_page.ensures ∙ c.if-covers_page.true)

pub returns-then-covers_page-clause-depth : goal.returns-then-covers_page-clause-depth
returns-then-covers_page-clause-depth c =
    let t = c.args.ticket.now in
    let is = c.stands.ensures in
    covered_depth c.meets_is_decided.ensures.met c.touches_tell_cover.ensures t c.args.page is
    (touch_told c.logs_are_grown.ensures.touches c.logs_are_grown.ensures.sizes t is is.stands.0 is.stands.1)
    c.requires.first c.requires.last (sym c.covers_page.ensures ∙ c.if-covers_page.true)

pub returns-clause-back : goal.returns-clause-back
returns-clause-back c =
    answered_back c.args.borders.now c.args.ticket.now c.args.page c.leaf.result c.requires.borders c.leaf.ensures (sym c.covers_page.ensures ∙ c.if-covers_page.false)

pub returns-clause-depth : goal.returns-clause-depth
returns-clause-depth c =
    let t = c.args.ticket.now in
    let is = c.stands.ensures in
    answered_depth c.args.borders.now t c.args.page c.depth.result is c.requires.borders
    (touch_told c.logs_are_grown.ensures.touches c.logs_are_grown.ensures.sizes t is is.stands.0 is.stands.1) c.depth.ensures
