use Rattle.std.proofs.Common.{◌≡◌, ◌+◌, ◌-◌, ◌≤◌, take, drop}
use Rattle.publisher.specs.Windows.{opens_from}
use Rattle.tree_tests.proofs.blob.open_between.Given as goal

abbrev pub invariant-loop-i : goal.invariant-loop-i
invariant-loop-i g l = record {
  order : l.from ≤ l.i;
  list : l.list ≡ opens_from (l.from + 1) (take (l.i - l.from) (drop l.from l.touches));
}
