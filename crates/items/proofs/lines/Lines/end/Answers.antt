use Rattle.items.proofs.LinesRead.{ends_by}
use Rattle.items.proofs.lines.Lines.end.Goals as goal

pub returns : goal.returns
returns g c =
    let d = c.self.inside in
    let taken = rw c.in-None.is at c.in_ok-take_item.ensures in
    ends_by g.B.Body.lining g.B.Body.IsWell c.last.result d.line d.rest c.take_item.new.line c.args.self.now c.self.view_is taken.1 taken.2 c.last.ensures
