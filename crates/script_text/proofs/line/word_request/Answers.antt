use Rattle.std.proofs.Common.{Option, [], sym, ap, ◌∙◌}
use Rattle.request_form.specs.declared.operation.Operation.{Operation}
use Rattle.request_form.proofs.Rows.{word_found}
use Rattle.script_text.specs.Requests.{request_in}
use Rattle.script_text.proofs.FieldLemmas.{no_command}
use Rattle.script_text.proofs.TextLemmas.{word_asks}
use Rattle.script_text.proofs.line.word_request.Goals as goal

pub returns-in-None : goal.returns-in-None
returns-in-None c = sym (word_asks c.args.word.now c.requires ∙ no_command c.args.word.now [] c.in-None.ensures)

pub returns-in-Some : goal.returns-in-Some
returns-in-Some c =
    c.bare.ensures
    ∙ sym (word_asks c.args.word.now c.requires ∙ ap (λ (o : Option Operation). request_in o []) (word_found c.in-Some.operation c.args.word.now c.in-Some.ensures))
