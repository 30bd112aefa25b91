use Rattle.std.proofs.Common.{ℕ, List, subst}
use Rattle.items.specs.Taken.{Takes}
use Rattle.items.proofs.FramesRead.{next_is}
use Rattle.items.proofs.frames.Frames.next.Goals as goal

pub returns : goal.returns
returns g c =
    let d = c.self.inside in
    let takes : List ℕ → Type 0 = λ l. Takes g.B.Body.framing d.frame l c.take.new.self c.in_ok-taken.taken in
    next_is g.B.Body.framing g.B.Body.IsWell c.give.result d.frame d.rest c.take.new.self c.take-2.new.self c.give.new.self c.args.self.now c.in_ok-taken.taken c.self.view_is
    (subst takes c.as_slice.ensures c.in_ok-taken.ensures) c.take-2.ensures c.give.ensures
