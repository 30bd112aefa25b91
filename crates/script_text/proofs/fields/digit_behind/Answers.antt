use Rattle.std.proofs.Common.{ℕ, ◌∷◌, ◌++◌, [], sym, subst, arith}
use Rattle.std.specs.Fmt.{decimal}
use Rattle.script_text.specs.Decoded.{SpellsNoNumber}
use Rattle.script_text.proofs.NumberLemmas.{zero_more, too_great, checked_digit, digit_in}
use Rattle.script_text.proofs.fields.digit_behind.Goals as goal

pub returns-then-number-eq0 : goal.returns-then-number-eq0
returns-then-number-eq0 c = subst (λ (n : ℕ). SpellsNoNumber (decimal n ++ c.args.byte ∷ [])) (sym c.if-number-eq0.true) (zero_more c.args.byte)

pub returns-in_err-checked_mul : goal.returns-in_err-checked_mul
returns-in_err-checked_mul c =
    let great = c.in_err-checked_mul.ensures in
    rw c.from_residual.ensures (too_great c.args.number c.args.byte (omega arith) (digit_in c.args.byte c.requires.low c.requires.high) (omega (arith, great)))

pub returns : goal.returns
returns c =
    let product = c.in_ok-checked_mul.ensures in
    let some_number = c.if-number-eq0.false in
    checked_digit c.args.number c.args.byte c.from-digit.result c.in_ok-checked_mul.field-0 c.checked_add.result (omega arith) (omega arith)
    (digit_in c.args.byte c.requires.low c.requires.high) c.from-digit.ensures product.1 c.checked_add.ensures
