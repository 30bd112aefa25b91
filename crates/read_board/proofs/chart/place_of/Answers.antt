use Rattle.std.proofs.Common.{arith}
use Rattle.read_board.proofs.Latest.{past_place, at_place}
use Rattle.read_board.proofs.chart.place_of.Goals as goal

pub loop-at-preserved : goal.loop-at-preserved
loop-at-preserved c = (omega (arith, c.loop-at-test.true), past_place c.args.blob c.args.on.now c.loop-at.at c.index-on-at.result c.loop-at-test.true c.if-on-at.true c.loop-at.invariant.1)

pub returns-else-on-at-clause-place : goal.returns-else-on-at-clause-place
returns-else-on-at-clause-place c = at_place c.args.blob c.args.on.now c.loop-at.at c.index-on-at.result c.loop-at-test.true c.if-on-at.false c.loop-at.invariant.1
