use Rattle.std.proofs.Common.{◌∙◌, ℕ, List, ◌++◌, ap}
use Rattle.frame_wire.proofs.ReplyLemmas.{framed_bytes}
use Rattle.frame_wire.proofs.head.front.Goals as goal

pub returns : goal.returns
returns c = λ bytes e. ap (λ (l : List ℕ). l ++ bytes) c.begin.ensures.front ∙ framed_bytes c.args.operation c.args.count bytes e
