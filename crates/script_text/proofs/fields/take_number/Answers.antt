use Rattle.std.proofs.Common.{arith}
use Rattle.script_text.proofs.RunLemmas.{digits_come, number_closes, number_stays}
use Rattle.script_text.proofs.fields.take_number.Goals as goal

pub returns-in-Some : goal.returns-in-Some
returns-in-Some c =
    let d = c.count_digits-number in
    let come = digits_come c.args.operation c.args.numbers.now.items c.args.piece.now c.args.number d.result.number d.result.count c.requires (grind arith) d.ensures.within d.ensures.digits in
    number_closes c.args.operation c.args.numbers.now.items c.args.piece.now c.end_number.new.numbers.items c.args.number d.result.number c.in-Some.part d.result.count come c.if-count-piece.true c.if-piece-count-eq32.true c.in-Some.ensures

pub returns-in_default : goal.returns-in_default
returns-in_default c =
    let d = c.count_digits-number in
    let come = digits_come c.args.operation c.args.numbers.now.items c.args.piece.now c.args.number d.result.number d.result.count c.requires (grind arith) d.ensures.within d.ensures.digits in
    number_stays c.args.operation c.args.numbers.now.items c.args.piece.now c.end_number.new.numbers.items c.args.number d.result.number d.result.count come (rw c.in_default.is at c.end_number.ensures)

pub returns-else-count-piece : goal.returns-else-count-piece
returns-else-count-piece c =
    let d = c.count_digits-number in
    digits_come c.args.operation c.args.numbers.now.items c.args.piece.now c.args.number d.result.number d.result.count c.requires (grind arith) d.ensures.within d.ensures.digits
