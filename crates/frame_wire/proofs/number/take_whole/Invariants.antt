use Rattle.std.proofs.Common.{◌≡◌, ◌≤◌, ◌+◌, ◌-◌, ◌*◌, ◌++◌, length, take}
use Rattle.frame_wire.specs.Said.{fields}
use Rattle.frame_wire.proofs.number.take_whole.Given as goal

abbrev pub invariant-numbers : goal.invariant-numbers
invariant-numbers l =
    (l.taken ≤ length l.piece)
    × (length l.numbers.items ≤ l.most)
    × (fields l.numbers.items ≡ fields l.initial.numbers.items ++ take l.taken l.piece)
    × (8 * length l.numbers.items ≡ 8 * length l.initial.numbers.items + l.taken)

abbrev pub decreases-numbers : goal.decreases-numbers
decreases-numbers l = length l.piece - l.taken
