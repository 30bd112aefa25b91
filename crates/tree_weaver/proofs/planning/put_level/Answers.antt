use Rattle.std.proofs.Common.{◌/◌, ◌^◌, ◌≤◌, ap, sym, subst}
use Rattle.tree_geom.specs.declared.touch.Touch.{Touch}
use Rattle.border_hints.specs.Numbered.{own_touch}
use Rattle.node_store.specs.Placed.{PlacedNodes, Spot}
use Rattle.node_store.specs.House.{IsIn}
use Rattle.tree_weaver.proofs.PutRows.{node_at, put_begun, put_more, put_finished, room_left}
use Rattle.tree_weaver.proofs.planning.put_level.Goals as goal

pub loop-q-init : goal.loop-q-init
loop-q-init c =
    let t = c.args.ticket.now in
    put_begun (node_at t c.args.level) c.args.row.now ((own_touch t).first / 2 ^ c.args.level) _ (ap (λ (u : Touch). u.first / 2 ^ c.args.level) c.touch-touch.ensures)

pub put-requires-clause-here : goal.put-requires-clause-here
put-requires-clause-here c =
    subst (λ (s : Spot). IsIn c.args.nodes.now s) (sym (ap (λ (r : PlacedNodes). r.spot) c.loop-q.invariant)) c.requires.here

pub put-requires-clause-room : goal.put-requires-clause-room
put-requires-clause-room c =
    let t = c.args.ticket.now in
    room_left (node_at t c.args.level) t.snapshot.page_size (own_touch t) c.touch-touch.result c.args.row.now c.loop-q.row c.args.level c.loop-q.q c.touch-touch.ensures c.loop-q.invariant
    c.loop-q.auto.q c.loop-q-test.true c.requires.room

pub loop-q-preserved : goal.loop-q-preserved
loop-q-preserved c =
    let t = c.args.ticket.now in
    let P : Touch → Type 0 = λ u. u.first / 2 ^ c.args.level ≤ c.loop-q.q in
    put_more (node_at t c.args.level) c.args.row.now c.loop-q.row c.put.new.row ((own_touch t).first / 2 ^ c.args.level) c.loop-q.q _
    (subst P c.touch-touch.ensures c.loop-q.auto.q) c.loop-q.invariant c.in_ok-put.ensures.put c.node.ensures

pub returns : goal.returns
returns c =
    put_finished c.args.ticket.now c.touch-touch.result c.args.level c.loop-q.q c.args.row.now c.loop-q.row c.stands.ensures
    c.touch-touch.ensures c.loop-q-test.false c.loop-q.auto.q-end c.loop-q.invariant
