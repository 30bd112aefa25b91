use Rattle.std.proofs.Common.{◌≡◌, ◌++◌}
use Rattle.range_log.specs.Rows.{levels_of}
use Rattle.range_log.proofs.keys.row_keys.Given as goal

abbrev pub invariant-loop-level : goal.invariant-loop-level
invariant-loop-level l = l.keys.items ++ levels_of l.fn.p l.touch l.level ≡ levels_of l.fn.p l.touch l.initial.level
