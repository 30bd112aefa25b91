use Rattle.std.proofs.Common.{◌∙◌, ◌==◌, ℕ, List, length, sym, ap}
use Rattle.items.proofs.FramesRead.{ends_cut, ends_cut_behind}
use Rattle.items.proofs.frames.Frames.end.Goals as goal

pub returns-then-not-is_empty : goal.returns-then-not-is_empty
returns-then-not-is_empty g c =
    ends_cut g.B.Body.framing g.B.Body.IsWell c.self.inside.frame c.self.inside.rest c.args.self.now c.self.view_is c.requires (sym c.is_empty.ensures ∙ c.if-not-is_empty.true)

pub returns-then-not-is_empty-2 : goal.returns-then-not-is_empty-2
returns-then-not-is_empty-2 g c =
    ends_cut_behind g.B.Body.framing g.B.Body.IsWell c.self.inside.frame c.self.inside.rest c.args.self.now c.self.view_is c.requires
    (ap (λ (l : List ℕ). length l == 0) (sym c.as_slice.ensures) ∙ sym c.is_empty-2.ensures ∙ c.if-not-is_empty-2.true)
