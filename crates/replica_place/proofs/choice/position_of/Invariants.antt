use Rattle.std.proofs.Common.{ℕ, ◌≡◌, ◌<◌, false, get_or}
use Rattle.replica_place.specs.Order.{comes_before}
use Rattle.replica_place.proofs.choice.position_of.Given as goal

abbrev pub invariant-loop-position : goal.invariant-loop-position
invariant-loop-position l = (k : ℕ) → k < l.position → comes_before l.loads l.provider (get_or l.kept k 0) ≡ false
