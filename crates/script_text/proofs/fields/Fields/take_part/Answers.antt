use Rattle.std.proofs.Common.{◌≡◌, arith}
use Rattle.script_text.proofs.TakenLemmas.{byte_stops}
use Rattle.script_text.proofs.fields.Fields.take_part.Goals as goal

pub returns : goal.returns
returns c =
    let none : c.in_ok-count.count ≡ 0 = omega (arith, c.if-count-gt0.false) in
    byte_stops c.args.self.now c.args.piece.now c.take_run.new.self c.add.new.self c.in_ok-count.count c.requires none c.in_ok-count.ensures.takes (rw c.if-branch.false at c.in_ok-add.ensures.adds)
