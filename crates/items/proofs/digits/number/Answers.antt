use Rattle.std.proofs.Common.{List, ℕ, sym, ap, ◌∙◌}
use Rattle.std.specs.List.{slice_get}
use Rattle.items.proofs.Decimals.{first_is, number_of-parsed}
use Rattle.items.proofs.digits.number.Goals as goal

pub returns : goal.returns
returns c =
    let bytes = c.as_bytes-digits.ensures.value in
    let first = first_is c.args.text.now c.in-Some.first.now (c.in-Some.ensures.value ∙ ap (λ (t : List ℕ). slice_get t 0) bytes) in
    c.ok.ensures.value
    ∙ number_of-parsed c.args.text.now c.parse.result first.0 (λ e. c.if-first-eq48.false (sym first.1 ∙ e)) (λ e. c.if-first-eq43.false (sym first.1 ∙ e)) c.parse.ensures.value.0
