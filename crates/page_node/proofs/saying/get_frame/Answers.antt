use Rattle.std.proofs.Common.{◌∙◌, ℕ, List, ◌∷◌, ◌++◌, ap, append-nil}
use Rattle.frame_wire.specs.Said.{field, frame_of}
use Rattle.page_node.proofs.saying.get_frame.Goals as goal

pub returns : goal.returns
returns c =
    c.numbers_frame.ensures.frame
    ∙ ap (λ (l : List ℕ). frame_of (33 ∷ (field c.args.id ++ (field c.args.from ++ l)))) (append-nil (field c.args.length))
