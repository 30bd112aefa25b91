use Rattle.std.proofs.Common.{length, ◌-◌, ◌≤◌, ◌++◌, take}
use Rattle.items.specs.BegunFrame.{begun_bytes, IsBegun, GoesOnAs}
use Rattle.items.proofs.frame.take_parts.Given as goal

abbrev pub invariant-parts : goal.invariant-parts
invariant-parts g l = record {
  within : l.taken ≤ length l.piece;
  well : IsBegun g.B.Body.framing.limit g.B.Body.come l.begun;
  goes_on : GoesOnAs g.B.Body.framing (begun_bytes g.B.Body.come l.fn.begun ++ take l.taken l.piece) (begun_bytes g.B.Body.come l.begun);
}

abbrev pub decreases-parts : goal.decreases-parts
decreases-parts g l = length l.piece - l.taken
