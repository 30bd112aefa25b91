use Rattle.std.proofs.Common.{◌∙◌, ℕ, List, ◌++◌, ap}
use Rattle.frame_wire.specs.Said.{field, wide_field}
use Rattle.frame_wire.proofs.ReplyLemmas.{framed_range}
use Rattle.frame_wire.proofs.head.range_frame.Goals as goal

pub returns : goal.returns
returns c =
    c.add-2.ensures.front
    ∙ ap (λ (l : List ℕ). l ++ field c.args.size) (c.add_wide.ensures.front ∙ ap (λ (l : List ℕ). l ++ wide_field c.args.end) (c.add.ensures.front ∙ ap (λ (l : List ℕ). l ++ field c.args.refusal) c.begin-frame.ensures.front))
    ∙ framed_range c.args.refusal c.args.end c.args.size
