use Rattle.std.proofs.Common.{arith, ap, sym, subst, refl, ◌∙◌}
use Rattle.node_store.specs.Placed.{PlacedNodes, Spot}
use Rattle.node_store.specs.House.{IsIn}
use Rattle.tree_weaver.proofs.Plans.{touch_ordered}
use Rattle.tree_weaver.proofs.Links.{number_fits}
use Rattle.tree_weaver.proofs.PutRows.{rows_begun, rows_more, rows_done, room_told, room_enough}
use Rattle.tree_weaver.proofs.planning.put_nodes.Goals as goal

pub node_count-count-requires-clause-ordered : goal.node_count-count-requires-clause-ordered
node_count-count-requires-clause-ordered g c = rw c.touch.ensures (touch_ordered c.args.ticket.now c.stands.ensures)

pub node_count-count-requires-clause-small : goal.node_count-count-requires-clause-small
node_count-count-requires-clause-small g c = rw c.touch.ensures (number_fits c.args.ticket.now 0 _ c.stands.ensures (omega arith))

pub node_count-count-requires-clause-low : goal.node_count-count-requires-clause-low
node_count-count-requires-clause-low g c = omega (arith, c.requires.tells.height_is, c.requires.tells.nodes.low)

pub loop-level-init : goal.loop-level-init
loop-level-init g c =
    let t = c.args.ticket.now in
    record {
      here = c.in_ok-row.ensures.here;
      version = c.in_ok-row.ensures.version;
      room = c.in_ok-row.ensures.room ∙ room_told t c.touch.result c.node_count-count.result c.args.height c.touch.ensures c.requires.tells.height_is c.node_count-count.ensures;
      nodes = rows_begun t c.in_ok-row.row.nodes _ c.args.height c.requires.tells.height_is refl c.in_ok-row.ensures.none;
    }

pub put_level-requires-clause-tells : goal.put_level-requires-clause-tells
put_level-requires-clause-tells g c = c.requires.tells.nodes

pub put_level-requires-clause-level : goal.put_level-requires-clause-level
put_level-requires-clause-level g c = omega (arith, c.requires.tells.height_is, c.loop-level.auto, c.loop-level-test.true)

pub put_level-requires-clause-here : goal.put_level-requires-clause-here
put_level-requires-clause-here g c = c.loop-level.invariant.here

pub put_level-requires-clause-room : goal.put_level-requires-clause-room
put_level-requires-clause-room g c =
    room_enough c.args.ticket.now c.loop-level.level c.loop-level.row.room c.loop-level.row.nodes (omega (arith, c.loop-level-test.true)) c.loop-level.invariant.room c.loop-level.invariant.nodes

pub loop-level-preserved : goal.loop-level-preserved
loop-level-preserved g c =
    let e = c.in_ok-put_level.ensures in
    record {
      here = subst (λ (s : Spot). IsIn c.args.nodes.now s) (sym (ap (λ (r : PlacedNodes). r.spot) e)) c.loop-level.invariant.here;
      version = ap (λ (r : PlacedNodes). r.version) e ∙ c.loop-level.invariant.version;
      room = ap (λ (r : PlacedNodes). r.room) e ∙ c.loop-level.invariant.room;
      nodes = rows_more c.args.ticket.now c.loop-level.level _ c.loop-level.row c.put_level.new.row (omega (arith, c.loop-level-test.true)) c.loop-level.invariant.nodes e;
    }

pub returns-clause-nodes : goal.returns-clause-nodes
returns-clause-nodes g c =
    rows_done c.args.ticket.now c.loop-level.level c.loop-level.row.nodes _ (omega (arith, c.loop-level-test.false)) c.loop-level.invariant.nodes
