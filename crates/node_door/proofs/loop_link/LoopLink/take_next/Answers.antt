use Rattle.std.proofs.Common.{List, ℕ, length, refl, ap, arith, inl}
use Rattle.node_door.proofs.Looping.{not_read, next_taken}
use Rattle.node_door.proofs.loop_link.LoopLink.take_next.Goals as goal

pub returns-then-self-replies : goal.returns-then-self-replies
returns-then-self-replies c =
    let long = ap (λ (l : List ℕ). length l) c.replies.ensures in
    (refl, inl (not_read c.self.inside.far c.self.inside.at c.self.inside.faults c.self.inside.ends c.args.self.now c.self.view_is (omega (arith, c.if-self-replies.true, long))))

pub returns : goal.returns
returns c = next_taken c.self.inside.far c.take_part.new.self c.args.self.now c.self.inside.at c.args.bytes.now c.self.inside.faults c.self.inside.ends c.take_part.result c.self.view_is c.self.invariant c.take_part.ensures
