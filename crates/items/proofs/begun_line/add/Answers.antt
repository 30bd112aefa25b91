use Rattle.std.proofs.Common.{◌≡◌, ◌≢◌, length, slice_index, arith}
use Rattle.std.proofs.lemmas.List.{length-take-le}
use Rattle.items.proofs.Texts.{took}
use Rattle.items.proofs.begun_line.add.Goals as goal
use Rattle.items.proofs.begun_line.add.Goals.{else-len-eq0-via-then-len-eq0+else-run-eq35, else-len-eq0-via-else-len-eq0}

pub returns-in-Some : goal.returns-in-Some
returns-in-Some g c =
    let text = g.B.Body.text c.args.body.now in
    let run = c.args.run.now in
    let next : length text ≡ 0 → slice_index run 0 ≢ 35 = elim c.else-len-eq0.branch [
      | else-len-eq0-via-then-len-eq0+else-run-eq35 w ↦ λ _. w.if-run-eq35.false
      | else-len-eq0-via-else-len-eq0 w ↦ λ none. absurd (w.if-len-eq0.false (omega (arith, c.requires.counts)))
    ] in
    let t = rw c.in-Some.is at c.in_ok-take.ensures in
    let room = c.limit.ensures in
    let front = length-take-le c.min.result run (omega (arith, c.min.ensures)) in
    let within = t.within in (
      t.is_text,
      omega (arith, t.longer, c.requires.counts),
      omega (arith, c.min.ensures),
      took g.B.Body.lining text run (g.B.Body.text c.take.new.self) c.in-Some.count c.min.result c.requires.text next (omega (arith, c.min.ensures)) t,
    )
