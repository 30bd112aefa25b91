use Rattle.std.proofs.Common.{◌/◌, ◌^◌, ◌≤◌, ap, subst}
use Rattle.tree_geom.specs.declared.touch.Touch.{Touch}
use Rattle.border_hints.specs.Numbered.{own_touch}
use Rattle.tree_weaver.proofs.Plans.{numbered_node, level_begun, level_more, level_finished}
use Rattle.tree_weaver.proofs.planning.list_level.Goals as goal

pub loop-q-init : goal.loop-q-init
loop-q-init c =
    let t = c.args.ticket.now in
    level_begun (numbered_node t c.args.level) c.args.row.now.items ((own_touch t).first / 2 ^ c.args.level) _ (ap (λ (u : Touch). u.first / 2 ^ c.args.level) c.touch-touch.ensures)

pub loop-q-preserved : goal.loop-q-preserved
loop-q-preserved c =
    let t = c.args.ticket.now in
    let P : Touch → Type 0 = λ u. u.first / 2 ^ c.args.level ≤ c.loop-q.q in
    level_more (numbered_node t c.args.level) c.args.row.now.items c.loop-q.row.items c.push.new.self.items ((own_touch t).first / 2 ^ c.args.level) c.loop-q.q _
    (subst P c.touch-touch.ensures c.loop-q.auto.q) c.loop-q.invariant c.in_ok-push.ensures.items c.pair.ensures

pub returns : goal.returns
returns c =
    level_finished c.args.ticket.now c.touch-touch.result c.args.level c.loop-q.q c.args.row.now.items c.loop-q.row.items c.stands.ensures
    c.touch-touch.ensures c.loop-q-test.false c.loop-q.auto.q-end c.loop-q.invariant
