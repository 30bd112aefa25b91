use Rattle.std.proofs.Common.{◌≡◌, ◌≤◌}
use Rattle.workload_law.specs.Pieces.{in_order_of}
use Rattle.workload_law.proofs.pieces.in_order.Given as goal

abbrev pub invariant-loop-before : goal.invariant-loop-before
invariant-loop-before l = record { few : l.count ≤ l.before; counted : l.count ≡ in_order_of l.before l.ops l.bytes }
