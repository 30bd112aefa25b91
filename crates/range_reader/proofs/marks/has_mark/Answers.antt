use Rattle.std.proofs.Common.{arith}
use Rattle.range_reader.proofs.Blocks.{none_with}
use Rattle.range_reader.proofs.marks.has_mark.Goals as goal

pub loop-mark-init : goal.loop-mark-init
loop-mark-init c = λ _ x lt _. omega (arith, lt)

pub loop-mark-preserved : goal.loop-mark-preserved
loop-mark-preserved c = λ e x lt at. none_with c.args.marks.now c.loop-mark.mark-index c.loop-mark.found c.args.wanted e c.loop-mark.invariant x lt at

pub returns : goal.returns
returns c = record { none = λ e x lt at. c.loop-mark.invariant e x (omega arith) at }
