use Rattle.std.proofs.Common.{◌<◌, ◌∙◌, length, arith}
use Rattle.std.proofs.lemmas.Bool.Decides.{nat_tests}
use Rattle.items.specs.BegunFrame.{begun_bytes}
use Rattle.items.proofs.FrameTaken.{length_on, length_whole, counted_on, asked_on, wrong_on}
use Rattle.items.proofs.begun_frame.take_part.Goals as goal

pub returns-then-not-is_full-clause-ok : goal.returns-then-not-is_full-clause-ok
returns-then-not-is_full-clause-ok g c =
    let part = c.fill-count in
    let begun = rw c.in-Length.is at c.requires.begun in
    let short : length part.new.part.items < 4 = grind (arith, nat_tests, c.is_full.ensures.value, c.is_full.ensures.fits, c.if-not-is_full.true) in
    rw c.in-Length.is (length_on g.B.Body.framing g.B.Body.come _ part.new.part c.args.piece.now part.result (omega (arith, part.ensures.count, begun, c.requires.some)) (omega (arith, part.ensures.count)) short part.ensures.part)

pub returns-else-not-is_full-clause-ok : goal.returns-else-not-is_full-clause-ok
returns-else-not-is_full-clause-ok g c =
    let part = c.fill-count in
    let begun = rw c.in-Length.is at c.requires.begun in
    rw c.in-Length.is (length_whole g.B.Body.framing g.B.Body.come _ c.args.piece.now c.counted-in-Length.result part.result c.short_number-in-Length.result (omega (arith, part.ensures.count, begun, c.requires.some)) (omega (arith, part.ensures.count))
    c.counted-in-Length.ensures.begun c.counted-in-Length.ensures.bytes (c.short_number-in-Length.ensures ∙ c.as_slice.ensures.value ∙ part.ensures.part))

pub returns-in-Counted-clause-ok : goal.returns-in-Counted-clause-ok
returns-in-Counted-clause-ok g c =
    rw c.in-Counted.is record {
      some = omega arith;
      within = omega arith;
      begun_well = c.asked.ensures.begun;
      goes_on = counted_on g.B.Body.framing _ c.args.piece.now (begun_bytes g.B.Body.come c.asked.result) c.requires.some c.asked.ensures.bytes;
    }

pub returns-in-Ok-clause-ok : goal.returns-in-Ok-clause-ok
returns-in-Ok-clause-ok g c =
    let begun = rw c.in-Asked.is at c.requires.begun in
    rw c.in-Asked.is (asked_on g.B.Body.framing g.B.Body.come _ c.args.piece.now c.take.new.self c.in-Ok.count begun c.in-Ok.ensures)

pub returns-in-Wrong-clause-ok : goal.returns-in-Wrong-clause-ok
returns-in-Wrong-clause-ok g c =
    let wrong = rw c.in-Wrong.is at c.requires.begun in
    let d = c.drop_bytes.ensures in
    rw c.in-Wrong.is (wrong_on g.B.Body.framing g.met.B.Body.is_framing g.B.Body.come _ c.args.piece.now c.drop_bytes.new.frame c.drop_bytes.result wrong d.some d.within d.same d.left)
