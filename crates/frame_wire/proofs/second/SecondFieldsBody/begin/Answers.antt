use Rattle.std.proofs.Common.{ap}
use Rattle.frame_wire.specs.Frames.{heard_as}
use Rattle.frame_wire.proofs.PairLemmas.{second_is}
use Rattle.frame_wire.proofs.second.SecondFieldsBody.begin.Goals as goal

pub returns-in_err-operation : goal.returns-in_err-operation
returns-in_err-operation c = rw c.from_residual.ensures (λ xs h. ap heard_as (c.in_err-operation.ensures xs h))

pub of-requires-else-is_in-clause-second : goal.of-requires-else-is_in-clause-second
of-requires-else-is_in-clause-second c = second_is c.in_ok-operation.operation c.in_ok-operation.ensures.0.1 (rw c.if-is_in.false at c.is_in.ensures)
