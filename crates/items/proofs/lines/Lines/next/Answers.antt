use Rattle.items.proofs.LinesRead.{next_is}
use Rattle.items.proofs.lines.Lines.next.Goals as goal

pub returns : goal.returns
returns g c =
    next_is g.B.Body.lining g.B.Body.IsWell c.take_item.result c.self.inside.line c.self.inside.rest c.take_item.new.line c.take_item.new.rest c.args.self.now c.self.view_is c.take_item.ensures
