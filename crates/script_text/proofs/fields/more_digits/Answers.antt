use Rattle.std.proofs.Common.{◌∙◌, ℕ, ◌∷◌, ◌++◌, [], Option, sym, ap}
use Rattle.std.specs.Fmt.{decimal}
use Rattle.script_text.specs.Decoded.{digits_of}
use Rattle.script_text.proofs.NumberLemmas.{no_digit, one_digit}
use Rattle.script_text.proofs.fields.more_digits.Goals as goal

pub returns-then-not-is_ascii_digit : goal.returns-then-not-is_ascii_digit
returns-then-not-is_ascii_digit c = no_digit (digits_of c.args.number) c.args.byte (sym c.is_ascii_digit.ensures.value ∙ c.if-not-is_ascii_digit.true)

pub returns-in-None : goal.returns-in-None
returns-in-None c =
    let digit = sym c.is_ascii_digit.ensures.value ∙ c.if-not-is_ascii_digit.false in
    ap (λ (n : Option ℕ). digits_of n ++ c.args.byte ∷ []) c.in-None.is ∙ one_digit c.args.byte digit ∙ ap (λ (n : ℕ). decimal n) (sym c.from.ensures)
