use Rattle.blob_core.proofs.Rowing.{ThereUpTo}
use Rattle.blob_core.proofs.nodes.are_there.Given as goal

abbrev pub invariant-loop-range : goal.invariant-loop-range
invariant-loop-range l = ThereUpTo l.nodes l.blob l.version l.keys l.range-index
