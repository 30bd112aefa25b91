use Rattle.std.proofs.Common.{ap}
use Rattle.frame_wire.specs.Frames.{heard_as}
use Rattle.frame_wire.proofs.fields.FieldsBody.begin.Goals as goal

pub returns-in_err-operation : goal.returns-in_err-operation
returns-in_err-operation c = rw c.from_residual.ensures (λ xs h. ap heard_as (c.in_err-operation.ensures xs h))
