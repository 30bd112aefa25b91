use Rattle.std.proofs.Common.{◌≤◌, ◌-◌, ◌++◌, length, take}
use Rattle.items.specs.BegunLine.{GoesOnAs}
use Rattle.items.proofs.line.Line.take.Given as goal

abbrev pub invariant-piece : goal.invariant-piece
invariant-piece g l = record {
  within : l.taken ≤ length l.piece;
  goes_on : GoesOnAs g.B.Body.lining (l.fn.self ++ take l.taken l.piece) l.self;
}

abbrev pub decreases-piece : goal.decreases-piece
decreases-piece g l = length l.piece - l.taken
