use Rattle.items.proofs.Texts.{tail_is}
use Rattle.script_text.proofs.TakenLemmas.{takes_more, takes_none, takes_all}
use Rattle.script_text.proofs.fields.Fields.take.Goals as goal

pub piece-preserved : goal.piece-preserved
piece-preserved c =
    let piece = c.args.piece.now in
    let before = c.piece.invariant in
    let took = rw c.in-Some.is at c.in_ok-count.ensures in
    let next = takes_more c.args.self.now piece c.piece.self _ c.take_part.new.self c.piece.taken c.in-Some.count before.within (tail_is piece c.piece.taken before.within) before.takes took in
    record { within = next.0; takes = next.1 }

pub returns-in-None : goal.returns-in-None
returns-in-None c =
    let piece = c.args.piece.now in
    let before = c.piece.invariant in
    takes_none c.args.self.now piece c.piece.self _ c.piece.taken (tail_is piece c.piece.taken before.within) before.takes (rw c.in-None.is at c.in_ok-count.ensures)

pub returns : goal.returns
returns c = takes_all c.args.self.now c.args.piece.now c.piece.self c.piece.taken c.requires c.piece-test.false c.piece.invariant.takes
