use Rattle.std.proofs.Common.{◌≡◌, drop}
use Rattle.range_reader.specs.Ranges.{first_end_past}
use Rattle.range_reader.proofs.ranges.first_past.Given as goal

-- none of those before ends past the size
abbrev pub invariant-loop-range : goal.invariant-loop-range
invariant-loop-range l = first_end_past l.size (drop l.range-index l.ranges) ≡ first_end_past l.size l.ranges
