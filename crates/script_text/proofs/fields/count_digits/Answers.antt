use Rattle.std.proofs.Common.{sym, ◌∙◌, arith}
use Rattle.script_text.proofs.RunLemmas.{first_comes}
use Rattle.script_text.proofs.fields.count_digits.Goals as goal

pub returns-clause-digits : goal.returns-clause-digits
returns-clause-digits c =
    first_comes c.args.number _ c.args.piece.now c.from.result _ c.in_default.is (grind (arith, c.is_empty.ensures, c.if-is_empty.false))
    (sym c.is_ascii_digit.ensures.value ∙ c.if-not-is_ascii_digit.false) c.from.ensures c.digits_behind-behind.ensures.digits
