use Rattle.std.proofs.Common.{◌+◌, ◌*◌, ◌∙◌, arith}
use Rattle.hex.proofs.Pairs.{decode_start, decode_step, decode_done}
use Rattle.hex.proofs.HexLemmas.{decode_of-even}
use Rattle.script_text.proofs.fields.decode_digits.Goals as goal

pub bytes-init : goal.bytes-init
bytes-init c = decode_start c.args.digits.now c.args.out.now

pub digits_value-requires-clause-high : goal.digits_value-requires-clause-high
digits_value-requires-clause-high c = c.requires.digits (2 * c.bytes.i) 0 (omega arith)

pub digits_value-requires-clause-low : goal.digits_value-requires-clause-low
digits_value-requires-clause-low c = c.requires.digits (2 * c.bytes.i + 1) 0 (omega arith)

pub bytes-preserved : goal.bytes-preserved
bytes-preserved c = decode_step c.args.digits.now c.bytes.out c.bytes.i c.digits_value.result (omega arith) (omega arith) (c.digits_value.ensures (2 * c.bytes.i)) c.bytes.invariant

pub returns : goal.returns
returns c = decode_of-even c.args.digits.now (omega (arith, c.requires.room)) ∙ decode_done c.args.digits.now c.bytes.out c.bytes.i (omega arith) (omega (arith, c.requires.room)) c.bytes.invariant
