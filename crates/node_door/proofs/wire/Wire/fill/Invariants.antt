use Rattle.std.proofs.Common.{◌≡◌, ◌-◌, ◌≤◌, [], length, take}
use Rattle.node_door.specs.Link.{Passed}
use Rattle.node_door.proofs.wire.Wire.fill.Given as goal

abbrev pub invariant-pieces : goal.invariant-pieces
invariant-pieces g l = record {
  long : length l.buf ≡ length l.fn.buf;
  within : l.at ≤ length l.buf;
  passed : Passed [] (take l.at l.buf) l.fn.self l.self;
}

abbrev pub decreases-pieces : goal.decreases-pieces
decreases-pieces g l = length l.buf - l.at
