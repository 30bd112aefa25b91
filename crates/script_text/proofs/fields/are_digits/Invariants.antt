use Rattle.std.proofs.Common.{take}
use Rattle.std.specs.Bool.{OnTrue}
use Rattle.std.specs.List.{AllPass}
use Rattle.hex.specs.Hex.{is_hex_digit}
use Rattle.script_text.proofs.fields.are_digits.Given as goal

abbrev pub invariant-loop-byte : goal.invariant-loop-byte
invariant-loop-byte l = OnTrue l.digits (AllPass is_hex_digit (take l.byte-index l.piece))
