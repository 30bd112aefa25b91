use Rattle.std.proofs.Common.{sym, subst}
use Rattle.node_door.specs.Loop.{LoopAt, IsBehind}
use Rattle.node_door.proofs.loop_link.LoopLinkSink.write.Goals as goal

pub returns-clause-left : goal.returns-clause-left
returns-clause-left c = subst (λ (l : LoopAt). IsBehind c.args.self.now.left l.left) (sym c.self.view_is) c.take_all-n.ensures.left
