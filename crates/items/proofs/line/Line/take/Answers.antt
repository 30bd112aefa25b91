use Rattle.items.proofs.LineTaken.{takes_on}
use Rattle.items.proofs.Texts.{tail_is}
use Rattle.items.proofs.line.Line.take.Goals as goal

pub piece-preserved : goal.piece-preserved
piece-preserved g c =
    let piece = c.args.piece.now in
    let before = c.piece.invariant in
    let next = takes_on g.B.Body.lining c.args.self.now piece c.piece.self _ c.take_some.new.self c.piece.taken c.in_ok-taken.field-0 before.within (tail_is piece c.piece.taken before.within) before.goes_on c.in_ok-taken.ensures in
    record { within = next.0; goes_on = next.1 }
