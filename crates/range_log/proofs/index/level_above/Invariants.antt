use Rattle.std.proofs.Common.{◌-◌}
use Rattle.range_log.proofs.Positions.{Reached}
use Rattle.range_log.proofs.index.level_above.Given as goal

abbrev pub invariant-loop-first : goal.invariant-loop-first
invariant-loop-first l = Reached l.fn.p l.touch l.height l.size l.level l.width l.first l.last l.count

abbrev pub decreases-loop-first : goal.decreases-loop-first
decreases-loop-first l = l.height - l.level
