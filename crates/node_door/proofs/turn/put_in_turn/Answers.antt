use Rattle.std.proofs.Common.{◌<◌, length, refl, arith}
use Rattle.node_door.proofs.Turning.{HasPut, changed_next}
use Rattle.node_door.proofs.turn.put_in_turn.Goals as goal

pub loop-index-init : goal.loop-index-init
loop-index-init g c = record { long = refl; rest = λ k d later. refl; done = λ k d before. absurd (omega (arith, before)) }

pub loop-index-preserved : goal.loop-index-preserved
loop-index-preserved g c =
    let put = c.put_group.ensures in
    let within : c.loop-index.index < length c.loop-index.stands = omega (arith, c.loop-index.invariant.long) in
    changed_next (HasPut g.D.Door.is_true g.D.Door.faults g.D.Door.called c.args.houses.now c.args.p c.args.buffer.now c.args.puts.now) c.args.stands.now c.loop-index.stands c.loop-index.index c.index-stands-index.result c.put_group.new.self within
    c.loop-index.invariant (record { truth = put.truth_stays; replies = put.replies; each = put.each; calls = put.called })

pub returns-clause-truth_stays : goal.returns-clause-truth_stays
returns-clause-truth_stays g c = λ k d within. (c.loop-index.invariant.done k d (omega (arith, within))).truth

pub returns-clause-replies : goal.returns-clause-replies
returns-clause-replies g c = λ k d within. (c.loop-index.invariant.done k d (omega (arith, within))).replies

pub returns-clause-each : goal.returns-clause-each
returns-clause-each g c = λ k d within. (c.loop-index.invariant.done k d (omega (arith, within))).each

pub returns-clause-called : goal.returns-clause-called
returns-clause-called g c = λ k d within. (c.loop-index.invariant.done k d (omega (arith, within))).calls
