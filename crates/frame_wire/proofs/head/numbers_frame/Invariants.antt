use Rattle.std.proofs.Common.{◌≡◌, ◌+◌, ◌*◌, ◌∷◌, length, take}
use Rattle.frame_wire.specs.Said.{fields}
use Rattle.items.specs.BegunFrame.{frame_part}
use Rattle.frame_wire.proofs.head.numbers_frame.Given as goal

abbrev pub invariant-loop-number : goal.invariant-loop-number
invariant-loop-number l =
    (l.frame.items ≡ frame_part (1 + 8 * length l.numbers) (l.operation ∷ fields (take l.number-index l.numbers))) × (length l.frame.items ≡ 5 + 8 * l.number-index)
