use Rattle.std.proofs.Common.{◌∙◌, ℕ, List, ◌∷◌, ap, append-nil}
use Rattle.frame_wire.specs.Said.{field, frame_of}
use Rattle.page_node.proofs.saying.number_frame.Goals as goal

pub returns-clause-frame : goal.returns-clause-frame
returns-clause-frame c = c.numbers_frame.ensures.frame ∙ ap (λ (l : List ℕ). frame_of (c.args.operation ∷ l)) (append-nil (field c.args.number))
