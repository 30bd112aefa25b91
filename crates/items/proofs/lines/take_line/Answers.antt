use Rattle.std.proofs.Common.{◌≡◌, ◌<◌, ℕ, List, length, ap, subst, arith}
use Rattle.items.specs.BegunLine.{TakesFront}
use Rattle.items.proofs.LinesRead.{line_ends}
use Rattle.items.proofs.lines.take_line.Goals as goal

pub returns-clause-taken : goal.returns-clause-taken
returns-clause-taken g c =
    let count = c.in_ok-count.count in
    let takes : List ℕ → Type 0 = λ l. TakesFront g.B.Body.lining c.args.line.now l c.take.new.self count in
    let t = subst takes c.as_slice.ensures c.in_ok-count.ensures in
    let within = t.within in
    let all : length c.as_slice-2.result.now ≡ length c.args.rest.now = ap (λ (l : List ℕ). length l) c.as_slice-2.ensures in
    let other = c.if-count-as_slice.false in
    let less : count < length c.args.rest.now = omega arith in
    line_ends g.B.Body.lining c.args.line.now c.args.rest.now c.take.new.self c.take-2.new.self count t less c.take-2.ensures
