use Rattle.std.proofs.Common.{◌≡◌, ◌∙◌, ◌==◌, ◌<◌, ℕ, [], not, true, false, sym, ap, arith}
use Rattle.std.proofs.lemmas.Bool.Decides.{nat_tests}
use Rattle.request_form.specs.Stream.{Stream}
use Rattle.frame_wire.specs.Fed.{Fed, heard_by, fed_by}
use Rattle.frame_wire.specs.declared.spoken.Spoken.{Spoken}
use Rattle.frame_wire.proofs.SpokenLemmas.{opening_is, opening_fits}
use Rattle.frame_wire.proofs.dialect.FrameDialectDialect.end.Goals as goal

some_count : (n : ℕ) → 0 < n → not (n == 0) ≡ true
some_count n h = let test : (n == 0) ≡ false = grind (arith, nat_tests, h) in ap not test

pub returns-then-count-gt0 : goal.returns-then-count-gt0
returns-then-count-gt0 c =
    let d = c.self.inside in
    let count = c.in-Opening.count in
    ap (λ (f : Fed). (heard_by f []).cut) (sym c.self.view_is)
    ∙ ap (λ (s : Spoken). (heard_by (fed_by s) []).cut) c.in-Opening.is
    ∙ ap (λ (s : Stream). s.cut) (opening_is count (opening_fits d.spoken count c.in-Opening.is c.self.invariant))
    ∙ some_count count c.if-count-gt0.true
