use Rattle.std.proofs.Common.{◌≡◌, ℕ, length}
use Rattle.range_log.specs.Rows.{levels_of}
use Rattle.tree_weaver.proofs.planning.node_count.Given as goal

abbrev pub invariant-loop-level : goal.invariant-loop-level
invariant-loop-level l = (p : ℕ) → l.count ≡ length (levels_of p l.fn.touch l.level)
