use Rattle.std.proofs.Common.{◌∙◌, ℕ, List, [], ap}
use Rattle.script_text.specs.Decoded.{fields_text}
use Rattle.script_text.proofs.DecodedLemmas.{of_text}
use Rattle.script_text.proofs.fields.Fields.of.Goals as goal

pub returns : goal.returns
returns c =
    ap (λ (l : List ℕ). fields_text c.args.operation l c.args.part c.new-2.result.items) c.new.ensures
    ∙ ap (λ (l : List ℕ). fields_text c.args.operation [] c.args.part l) c.new-2.ensures.items
    ∙ of_text c.args.operation c.args.part c.requires.first
