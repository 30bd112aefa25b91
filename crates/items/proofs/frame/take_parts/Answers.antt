use Rattle.std.proofs.Common.{ℕ, List, ◌++◌, take, subst, length-drop, arith}
use Rattle.items.specs.BegunFrame.{begun_bytes, GoesOnAs}
use Rattle.items.proofs.Texts.{tail_is}
use Rattle.items.proofs.FrameTaken.{goes_on_more}
use Rattle.items.proofs.frame.take_parts.Goals as goal

pub parts-preserved : goal.parts-preserved
parts-preserved g c =
    let piece = c.args.piece.now in
    let part = c.in_ok-taken.ensures.ok in
    let count = c.in_ok-taken.field-0 in
    let next = begun_bytes g.B.Body.come c.take_part.new.begun in
    let there = length-drop c.parts.taken piece in
    let within = part.within in
    let goes : List ℕ → Type 0 = λ l. GoesOnAs g.B.Body.framing (begun_bytes g.B.Body.come c.parts.begun ++ take count l) next in
    record {
      within = omega (arith, c.parts.invariant.within);
      well = part.begun_well;
      goes_on = goes_on_more g.B.Body.framing (begun_bytes g.B.Body.come c.args.begun.now) piece (begun_bytes g.B.Body.come c.parts.begun) next c.parts.taken count c.parts.invariant.goes_on
          (subst goes (tail_is piece c.parts.taken c.parts.invariant.within) part.goes_on);
    }
