use Rattle.std.proofs.Common.{inl, inr}
use Rattle.node_door.proofs.Passing.{sends_by}
use Rattle.node_door.proofs.wire.Wire.write.Goals as goal
use Rattle.node_door.proofs.wire.Wire.write.Goals.{in-Whole, in-Failed}

pub returns : goal.returns
returns g c =
    let e = c.write.ensures in
    sends_by c.args.bytes.now c.write.result _ _ _ c.match-write.result c.self.view_is
    (elim c.match-write.branch [ in-Whole w ↦ inl (w.in-Whole.is, w.result-is) | in-Failed w ↦ inr (_, w.in-Failed.is, w.result-is) ])
    e.part e.written e.given e.left e.write_faults e.read_faults e.ends
