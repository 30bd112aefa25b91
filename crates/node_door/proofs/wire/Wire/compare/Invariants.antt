use Rattle.std.proofs.Common.{◌≡◌, ◌-◌, ◌≤◌, length}
use Rattle.node_door.specs.Link.{ComparesSoFar}
use Rattle.node_door.proofs.wire.Wire.compare.Given as goal

abbrev pub invariant-pieces : goal.invariant-pieces
invariant-pieces g l = record {
  long : length l.room ≡ length l.fn.room;
  within : l.at ≤ l.count;
  so_far : ComparesSoFar l.count l.want l.at l.same l.fn.self l.self;
}

abbrev pub decreases-pieces : goal.decreases-pieces
decreases-pieces g l = l.count - l.at
