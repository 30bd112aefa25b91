use Rattle.items.proofs.LineTaken.{return_again_ok}
use Rattle.items.proofs.line.Line.take_return.Goals as goal

pub returns : goal.returns
returns g c =
    let l = c.self.inside in
    return_again_ok g.B.Body.lining c.push_all.result g.B.Body.lining.limit g.B.Body.text l.begun c.push_all.new.begun l.length c.push_all.new.len l.returned c.args.self.now c.as_slice.result.now c.self.view_is c.if-not-self.false
    c.as_slice.ensures c.self.invariant.begun_well c.push_all.ensures.begun c.push_all.ensures.ok
