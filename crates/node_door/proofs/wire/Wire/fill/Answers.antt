use Rattle.std.proofs.Common.{◌∙◌, arith}
use Rattle.node_door.proofs.Passing.{takes_more, fills_part}
use Rattle.node_door.proofs.wire.Wire.fill.Goals as goal

pub pieces-preserved : goal.pieces-preserved
pieces-preserved g c =
    let t = c.in-Some.ensures.takes in
    let same = c.take_at.ensures.length in
    record {
      long = same ∙ c.pieces.invariant.long;
      within = omega (arith, t.1, same);
      passed = takes_more c.pieces.buf c.take_at.new.buf c.pieces.at c.in-Some.n _ _ _ c.pieces.invariant.passed t;
    }

pub returns-in-None-clause-fills : goal.returns-in-None-clause-fills
returns-in-None-clause-fills g c = fills_part c.pieces.buf c.take_at.new.buf c.pieces.at _ _ _ c.pieces.invariant.passed c.in-None.ensures.takes
