use Rattle.std.proofs.Common.{◌∙◌, ℕ, List, ◌∷◌, ◌++◌, ap, append-nil}
use Rattle.frame_wire.specs.Said.{field, frame_of}
use Rattle.page_node.proofs.saying.refusal_frame.Goals as goal

pub returns : goal.returns
returns c =
    c.numbers_frame.ensures.frame ∙ ap (λ (l : List ℕ). frame_of (255 ∷ (field c.args.refusal ++ l))) (append-nil (field c.args.number))
