use Rattle.std.proofs.Common.{◌≡◌}
use Rattle.turn_lock.specs.Told.{Stays}
use Rattle.turn_lock.proofs.steps.enter.Given as goal

abbrev pub invariant-loop : goal.invariant-loop
invariant-loop g l = Stays l.initial.seat l.seat × (l.seat.me ≡ l.initial.seat.me)
