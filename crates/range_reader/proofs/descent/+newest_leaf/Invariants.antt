use Rattle.range_reader.proofs.descent.+newest_leaf.Given as goal

abbrev pub decreases-newest_leaf : goal.decreases-newest_leaf
decreases-newest_leaf g l = l.range.size
