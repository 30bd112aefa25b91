use Rattle.std.proofs.Common.{◌≡◌, ◌-◌, suc, arith, ◌∙◌}
use Rattle.tree_weaver.proofs.Plans.{touch_told}
use Rattle.tree_weaver.proofs.Links.{height_asked, link_own, link_below, link_above}
use Rattle.tree_weaver.proofs.node.link.Goals as goal

pub below-requires : goal.below-requires
below-requires c = height_asked _ _ (c.args.level - 1) c.requires.borders (omega arith)

pub above-requires : goal.above-requires
above-requires c = height_asked _ _ (c.args.level - 1) c.requires.borders (omega arith)

pub returns-then-n-touch : goal.returns-then-n-touch
returns-then-n-touch c =
    let t = c.args.ticket.now in
    let is = c.stands.ensures in
    let grown = c.logs_are_grown.ensures in
    let next : suc (c.args.level - 1) ≡ c.args.level = omega arith in
    link_below t is (touch_told grown.touches grown.sizes t is is.stands.0 is.stands.1) (c.args.level - 1) c.args.n c.touch-touch.result c.touch-touch.ensures c.newest_is_greatest.ensures.miss
    c.args.borders.now c.below.result c.requires.borders c.below.ensures (rw next c.requires.first) c.if-n-touch.true

pub returns-then-touch-under : goal.returns-then-touch-under
returns-then-touch-under c =
    let t = c.args.ticket.now in
    let is = c.stands.ensures in
    let grown = c.logs_are_grown.ensures in
    let next : suc (c.args.level - 1) ≡ c.args.level = omega arith in
    link_above t is (touch_told grown.touches grown.sizes t is is.stands.0 is.stands.1) (c.args.level - 1) c.args.n c.touch-touch.result c.touch-touch.ensures c.newest_is_greatest.ensures.miss
    c.args.borders.now c.above.result c.requires.borders c.above.ensures (rw next c.requires.last) c.if-touch-under.true

pub returns : goal.returns
returns c =
    let t = c.args.ticket.now in
    let is = c.stands.ensures in
    let grown = c.logs_are_grown.ensures in
    c.version.ensures.version
    ∙ link_own t is (touch_told grown.touches grown.sizes t is is.stands.0 is.stands.1) (c.args.level - 1) c.args.n c.touch-touch.result c.touch-touch.ensures c.newest_is_greatest.ensures.hit
    c.if-n-touch.false c.if-touch-under.false
