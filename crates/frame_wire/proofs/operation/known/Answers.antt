use Rattle.std.proofs.Common.{◌∙◌, Option, None, ℕ, sym, ap}
use Rattle.request_form.specs.declared.operation.Operation.{Operation}
use Rattle.request_form.proofs.Rows.{number_is, number_found}
use Rattle.frame_wire.specs.Requests.{fits, request_in}
use Rattle.frame_wire.proofs.RequestLemmas.{misfit}
use Rattle.frame_wire.proofs.operation.known.Goals as goal

pub returns-in_err-operation : goal.returns-in_err-operation
returns-in_err-operation c =
    rw c.from_residual.ensures (λ bytes _. ap (λ (o : Option Operation). request_in o bytes) (number_is None c.args.number c.args.version c.in_err-operation.ensures))

pub returns-else-fits : goal.returns-else-fits
returns-else-fits c = λ bytes h.
    ap (λ (o : Option Operation). request_in o bytes) (number_found c.in_ok-operation.operation c.args.number c.args.version c.in_ok-operation.ensures)
    ∙ misfit c.in_ok-operation.operation bytes (ap (λ (k : ℕ). fits c.in_ok-operation.operation k) h ∙ sym c.fits.ensures ∙ c.if-fits.false)
