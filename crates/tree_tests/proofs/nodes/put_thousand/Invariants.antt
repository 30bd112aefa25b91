use Rattle.std.specs.Prelude.{All}
use Rattle.tree_tests.specs.TwoNodes.{AreTwoIn}
use Rattle.tree_tests.proofs.nodes.put_thousand.Given as goal

abbrev pub invariant-loop-i : goal.invariant-loop-i
invariant-loop-i g l = All (λ row. AreTwoIn l.house row) l.rows.items
