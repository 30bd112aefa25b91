use Rattle.std.proofs.Common.{ℕ, List, [], ◌∷◌, ◌++◌, sym, subst}
use Rattle.request_form.specs.Operations.{HasWord}
use Rattle.script_text.specs.Decoded.{AsksNothing}
use Rattle.script_text.proofs.FieldLemmas.{is_command}
use Rattle.script_text.proofs.DecodedLemmas.{bare_stops}
use Rattle.script_text.proofs.TextLemmas.{unknown_stops}
use Rattle.script_text.proofs.line.opened.Goals as goal

pub returns-in_err-operation : goal.returns-in_err-operation
returns-in_err-operation c = rw c.from_residual.ensures (unknown_stops c.args.word.now c.requires c.in_err-operation.ensures)

pub returns-in_err-first : goal.returns-in_err-first
returns-in_err-first c =
    let operation = c.in_ok-operation.operation in
    let is = is_command operation c.args.word.now c.in_ok-operation.ensures in
    let none = bare_stops operation (subst (HasWord operation) is c.in_ok-operation.ensures) c.in_err-first.ensures.0 c.in_err-first.ensures.1 in
    rw c.from_residual-in_err-first.ensures (subst (λ (l : List ℕ). AsksNothing (l ++ 32 ∷ [])) (sym is) none)
