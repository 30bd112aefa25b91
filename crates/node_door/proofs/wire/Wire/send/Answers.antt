use Rattle.node_door.proofs.Passing.{sends_front, sends_both}
use Rattle.node_door.proofs.wire.Wire.send.Goals as goal

pub returns-then-not-write : goal.returns-then-not-write
returns-then-not-write g c = sends_front c.args.front.now c.args.bytes.now _ _ c.write.result c.if-not-write.true c.write.ensures

pub returns : goal.returns
returns g c = sends_both c.args.front.now c.args.bytes.now _ _ _ c.write.result _ c.if-not-write.false c.write.ensures c.write-2.ensures
