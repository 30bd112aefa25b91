use Rattle.std.proofs.Common.{◌≡◌, length}
use Rattle.tree_tests.proofs.lists.numbers.Given as goal

abbrev pub invariant-loop-number : goal.invariant-loop-number
invariant-loop-number g l = length l.list ≡ l.number
