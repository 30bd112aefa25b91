use Rattle.std.proofs.Common.{◌≤◌}
use Rattle.workload_law.proofs.Standing.{Found}
use Rattle.workload_law.proofs.pieces.stands_in_order.Given as goal

abbrev pub invariant-loop-k : goal.invariant-loop-k
invariant-loop-k l = record { few : l.next ≤ l.ops; found : Found l.worker l.bytes l.k l.next }
