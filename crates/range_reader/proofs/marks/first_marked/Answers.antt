use Rattle.std.proofs.Common.{◌+◌, ◌-◌, arith}
use Rattle.range_reader.proofs.Blocks.{none_further}
use Rattle.range_reader.proofs.marks.first_marked.Goals as goal

pub loop-start-preserved : goal.loop-start-preserved
loop-start-preserved c = record {
  least = omega arith;
  most = omega arith;
  none = none_further c.args.marks.now c.args.from c.loop-start.start 64 (c.loop-start.start + 64 - c.loop-start.start) c.args.wanted
      (omega arith) (omega arith) c.loop-start.invariant.none (c.has_mark.ensures.none c.if-has_mark.false);
}
