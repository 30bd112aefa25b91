use Rattle.std.proofs.Common.{ℕ, List, length, ap, arith}
use Rattle.node_door.specs.Loop.{LoopAt}
use Rattle.node_door.proofs.Looping.{read_off, none_left}
use Rattle.node_door.proofs.loop_link.LoopLinkSource.read.Goals as goal

pub returns-then-n-eq0-clause-end : goal.returns-then-n-eq0-clause-end
returns-then-n-eq0-clause-end c =
    let long = ap (λ (l : List ℕ). length l) c.replies.ensures in
    none_left c.self.inside.far.replies c.self.inside.at (omega (arith, long, c.min-n.ensures, c.if-n-eq0.true, c.requires))

pub returns-clause-left : goal.returns-clause-left
returns-clause-left c =
    read_off c.self.inside.far.replies c.copy_front.new.to c.replies-2.result.now c.self.inside.at c.min-n.result c.args.self.now.left (ap (λ (l : LoopAt). l.left) c.self.view_is) c.replies-2.ensures c.copy_front.ensures.front
