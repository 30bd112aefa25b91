use Rattle.std.proofs.Common.{◌∙◌, ◌==◌, ℕ, List, length, ap}
use Rattle.items.proofs.FrameTaken.{something}
use Rattle.items.proofs.frame.Frame.is_empty.Goals as goal

pub returns-in_default : goal.returns-in_default
returns-in_default g c = something g.B.Body.come c.self.inside.begun c.in_default.not-Length ∙ ap (λ (l : List ℕ). length l == 0) c.self.view_is
