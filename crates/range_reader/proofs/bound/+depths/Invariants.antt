use Rattle.range_reader.proofs.bound.+depths.Given as goal

abbrev pub decreases-depths : goal.decreases-depths
decreases-depths g l = l.range.size
