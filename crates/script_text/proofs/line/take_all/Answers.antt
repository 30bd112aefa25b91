use Rattle.script_text.specs.Begun.{begun_text}
use Rattle.items.proofs.Texts.{tail_is}
use Rattle.script_text.proofs.TakenLemmas.{takes_more, takes_none, takes_all}
use Rattle.script_text.proofs.line.take_all.Goals as goal

pub piece-preserved : goal.piece-preserved
piece-preserved c =
    let piece = c.args.piece.now in
    let before = c.piece.invariant in
    let took = rw c.in-Some.is at c.in_ok-count.ensures.takes in
    let next = takes_more (begun_text c.args.begun.now) piece (begun_text c.piece.begun) _ (begun_text c.take_part.new.begun) c.piece.taken c.in-Some.count before.within (tail_is piece c.piece.taken before.within) before.takes took in
    record { begun = c.take_part.ensures.begun; within = next.0; takes = next.1 }

pub returns-in-None-clause-takes : goal.returns-in-None-clause-takes
returns-in-None-clause-takes c =
    let piece = c.args.piece.now in
    let before = c.piece.invariant in
    takes_none (begun_text c.args.begun.now) piece (begun_text c.piece.begun) _ c.piece.taken (tail_is piece c.piece.taken before.within) before.takes (rw c.in-None.is at c.in_ok-count.ensures.takes)

pub returns-clause-takes : goal.returns-clause-takes
returns-clause-takes c = takes_all (begun_text c.args.begun.now) c.args.piece.now (begun_text c.piece.begun) c.piece.taken c.requires.some c.piece-test.false c.piece.invariant.takes
