use Rattle.items.specs.BegunLine.{begun_text}
use Rattle.items.proofs.LineTaken.{pushes_on}
use Rattle.items.proofs.Texts.{tail_is}
use Rattle.items.proofs.begun_line.push_all.Goals as goal

pub run-preserved : goal.run-preserved
run-preserved g c =
    let run = c.args.run.now in
    let before = c.run.invariant in
    let next = pushes_on g.B.Body.lining (begun_text g.B.Body.text c.args.begun.now) run (begun_text g.B.Body.text c.run.begun) _ (begun_text g.B.Body.text c.push.new.begun) c.run.taken c.in_ok-taken.field-0 before.within
    (tail_is run c.run.taken before.within) before.says c.in_ok-taken.ensures.ok in
    record { within = next.0; well = c.in_ok-taken.ensures.begun; says = next.1; ends = λ _ out. next.2 out }
