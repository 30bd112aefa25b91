use Rattle.std.proofs.Common.{◌≡◌, ℕ, List, ◌++◌, length}
use Rattle.items.specs.Lines.{lined}
use Rattle.items.proofs.lines.take_item.Given as goal

abbrev pub invariant-lines : goal.invariant-lines
invariant-lines g l = record {
  same : (more : List ℕ) → lined g.B.Body.lining (l.fn.line ++ (l.fn.rest ++ more)) ≡ lined g.B.Body.lining (l.line ++ (l.rest ++ more));
}

abbrev pub decreases-lines : goal.decreases-lines
decreases-lines g l = length l.rest
