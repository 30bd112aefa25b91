use Rattle.std.proofs.Common.{◌≡◌, take}
use Rattle.read_board.proofs.chart.copy.Given as goal

abbrev pub invariant-loop-r : goal.invariant-loop-r
invariant-loop-r l = l.all.items ≡ take l.r-index l.on
