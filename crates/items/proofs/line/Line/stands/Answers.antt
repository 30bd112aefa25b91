use Rattle.std.proofs.Common.{subst}
use Rattle.items.specs.Text.{IsWithout}
use Rattle.items.proofs.LineTaken.{line_without}
use Rattle.items.proofs.line.Line.stands.Goals as goal

pub returns : goal.returns
returns g c =
    let l = c.self.inside in
    subst (IsWithout 10) c.self.view_is (line_without g.B.Body.lining.limit g.B.Body.text l.begun l.length l.returned c.self.invariant.begun_well)
