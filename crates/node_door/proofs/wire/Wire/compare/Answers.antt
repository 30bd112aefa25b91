use Rattle.std.proofs.Common.{◌∙◌, arith}
use Rattle.node_door.proofs.Passing.{compared_on, compared_all, compared_broke}
use Rattle.node_door.proofs.wire.Wire.compare.Goals as goal

pub returns-then-not-fill_front-clause-compares : goal.returns-then-not-fill_front-clause-compares
returns-then-not-fill_front-clause-compares g c =
    compared_broke c.args.count c.args.want.now c.pieces.at c.min-n.result c.pieces.same _ _ _ _ c.fill_front.result c.if-not-fill_front.true c.pieces.invariant.so_far c.fill_front.ensures.fills

pub pieces-preserved : goal.pieces-preserved
pieces-preserved g c = record {
  long = c.fill_front.ensures.length ∙ c.pieces.invariant.long;
  within = omega (arith, c.min-n.ensures, c.pieces-test.true);
  so_far =
      compared_on c.args.count c.args.want.now c.pieces.at c.min-n.result c.pieces.same c.goes_on_same-same.result c.fill_front.new.buf _ _ _
      (omega (arith, c.min-n.ensures, c.fill_front.ensures.length)) c.pieces.invariant.so_far c.if-not-fill_front.ensures.fills c.goes_on_same-same.ensures.same c.goes_on_same-same.ensures.other;
}

pub returns-clause-compares : goal.returns-clause-compares
returns-clause-compares g c = compared_all c.args.count c.args.want.now c.pieces.at c.pieces.same _ _ c.pieces.invariant.within (let done = c.pieces-test.false in λ less. omega arith) c.pieces.invariant.so_far
