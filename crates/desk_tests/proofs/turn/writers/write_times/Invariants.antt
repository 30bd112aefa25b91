use Rattle.std.proofs.Common.{◌≡◌}
use Rattle.desk_tests.proofs.turn.writers.write_times.Given as goal

abbrev pub invariant-loop : goal.invariant-loop
invariant-loop g l = l.pass.lock ≡ l.turn
