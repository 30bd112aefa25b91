use Rattle.std.proofs.Common.{◌-◌}
use Rattle.node_store.proofs.Ranges.{Climbed}
use Rattle.node_store.proofs.index.level_at.Given as goal

abbrev pub invariant-loop-first : goal.invariant-loop-first
invariant-loop-first l = Climbed l.touch l.height l.level l.first l.last l.count

abbrev pub decreases-loop-first : goal.decreases-loop-first
decreases-loop-first l = l.height - l.level
