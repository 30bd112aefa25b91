use Rattle.std.proofs.Common.{◌≡◌, min, take, length}
use Rattle.replica_place.specs.Order.{ordered}
use Rattle.replica_place.proofs.choice.choose.Given as goal

abbrev pub invariant-loop-before : goal.invariant-loop-before
invariant-loop-before l =
    (length l.providers ≡ 8) × (take (min l.before l.room) l.providers ≡ take l.room (ordered l.loads l.before))
