use Rattle.std.proofs.Common.{◌≡◌, ◌≤◌, ◌+◌, ◌-◌, length, drop}
use Rattle.read_board.specs.Refreshes.{place}
use Rattle.read_board.proofs.chart.place_of.Given as goal

abbrev pub invariant-loop-at : goal.invariant-loop-at
invariant-loop-at l = (l.at ≤ length l.on) × (place l.blob l.on ≡ l.at + place l.blob (drop l.at l.on))

abbrev pub decreases-loop-at : goal.decreases-loop-at
decreases-loop-at l = length l.on - l.at
