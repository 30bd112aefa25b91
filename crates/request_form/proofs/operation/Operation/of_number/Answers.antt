use Rattle.request_form.proofs.Rows.{too_early}
use Rattle.request_form.proofs.operation.Operation.of_number.Goals as goal

pub returns-else-is_in : goal.returns-else-is_in
returns-else-is_in c = λ o h. too_early o c.in_ok-operation.operation c.args.number c.args.version c.in_ok-operation.ensures (rw c.if-is_in.false at c.is_in.ensures) h
