use Rattle.std.proofs.Common.{arith}
use Rattle.script_text.proofs.PairLemmas.{digits_more, digits_all}
use Rattle.script_text.proofs.fields.are_digits.Goals as goal

pub loop-byte-preserved : goal.loop-byte-preserved
loop-byte-preserved c = digits_more c.loop-byte.digits c.is_other.result c.args.piece.now c.loop-byte.byte-index c.loop-byte-test.true c.is_other.ensures c.loop-byte.invariant

pub returns : goal.returns
returns c = digits_all c.loop-byte.digits c.args.piece.now c.loop-byte.byte-index (omega arith) c.loop-byte.invariant
