use Rattle.std.proofs.Common.{◌≡◌}
use Rattle.desk_tests.proofs.turn.writers.make_and_take_back.Given as goal

abbrev pub invariant-loop : goal.invariant-loop
invariant-loop l = l.owner.lock ≡ l.turn
