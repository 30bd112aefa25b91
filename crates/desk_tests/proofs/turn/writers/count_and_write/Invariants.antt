use Rattle.std.proofs.Common.{◌≡◌}
use Rattle.desk_tests.proofs.turn.writers.count_and_write.Given as goal

abbrev pub invariant-loop-before : goal.invariant-loop-before
invariant-loop-before g l = l.pass.lock ≡ l.turn
