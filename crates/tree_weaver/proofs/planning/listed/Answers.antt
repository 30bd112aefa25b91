use Rattle.std.proofs.Common.{◌≤◌, ◌*◌, ◌^◌, arith, subst}
use Rattle.tree_geom.specs.Geometry.{height_of}
use Rattle.range_reader.proofs.Walking.{root_span}
use Rattle.tree_weaver.proofs.Plans.{level_added, levels_done}
use Rattle.tree_weaver.proofs.planning.listed.Goals as goal

pub loop-level-preserved : goal.loop-level-preserved
loop-level-preserved c =
    level_added c.args.ticket.now c.loop-level.level _ c.loop-level.row.items c.list_level.new.row.items (omega (arith, c.loop-level-test.true)) c.loop-level.invariant c.in_ok-list_level.ensures

pub returns : goal.returns
returns c =
    levels_done c.args.ticket.now c.loop-level.level c.args.height c.loop-level.row.items (omega (arith, c.loop-level-test.false)) c.requires.tells.height_is c.loop-level.invariant

pub list_level-requires-clause-tells : goal.list_level-requires-clause-tells
list_level-requires-clause-tells c = c.requires.tells.nodes

pub list_level-requires-clause-level : goal.list_level-requires-clause-level
list_level-requires-clause-level c = omega (arith, c.requires.tells.height_is, c.loop-level.auto, c.loop-level-test.true)

pub list_level-requires-clause-root : goal.list_level-requires-clause-root
list_level-requires-clause-root c =
    let p = c.page_size.result in
    let n = c.size.result in
    let root : p * 2 ^ height_of p n ≤ 2 ^ 40 = omega (arith, root_span p n (omega (arith, c.size.ensures, c.stands.ensures.size, c.stands.ensures.some)), c.span_stands.ensures.fits) in
    subst (λ q. q * 2 ^ height_of q c.args.ticket.now.size ≤ 2 ^ 40) c.page_size.ensures (subst (λ m. p * 2 ^ height_of p m ≤ 2 ^ 40) c.size.ensures root)
