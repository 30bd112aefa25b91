use Rattle.items.proofs.Texts.{tail_is}
use Rattle.items.proofs.FramesRead.{fed, fed_straight, none_left, as_added}
use Rattle.items.proofs.frames.Frames.feed.Goals as goal

pub returns-in_ok-taken : goal.returns-in_ok-taken
returns-in_ok-taken g c =
    let d = c.self.inside in
    let taken = c.in_ok-taken.taken in
    let takes = c.in_ok-taken.ensures in
    fed_straight g.B.Body.framing c.add.result d.frame d.rest c.take.new.self c.add.new.self c.args.self.now c.args.piece.now taken c.self.view_is
    (none_left c.as_slice.result.now d.rest c.is_empty.result c.as_slice.ensures c.is_empty.ensures c.if-is_empty.true) takes
    (as_added c.add.result c.add.new.self d.rest _ _ (tail_is c.args.piece.now taken takes.within) c.add.ensures)

pub returns-else-is_empty : goal.returns-else-is_empty
returns-else-is_empty g c =
    fed g.B.Body.framing c.add-else-is_empty.result c.self.inside.frame c.self.inside.rest c.add-else-is_empty.new.self c.args.self.now c.args.piece.now c.self.view_is c.add-else-is_empty.ensures
