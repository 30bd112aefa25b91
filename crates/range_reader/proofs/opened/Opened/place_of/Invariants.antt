use Rattle.std.proofs.Common.{◌≡◌, ◌≤◌, ◌+◌, ◌-◌, length, drop}
use Rattle.range_reader.specs.Opened.{place_of}
use Rattle.range_reader.proofs.opened.Opened.place_of.Given as goal

abbrev pub invariant-loop-at : goal.invariant-loop-at
invariant-loop-at l = (l.at ≤ length l.self) × (place_of l.blob l.self ≡ l.at + place_of l.blob (drop l.at l.self))

abbrev pub decreases-loop-at : goal.decreases-loop-at
decreases-loop-at l = length l.self - l.at
