-- the bytes before the place that was reached are appended
use Rattle.std.proofs.Common.{◌≡◌, ◌++◌, length, ◌-◌, ◌≤◌, take}
use Rattle.std.specs.Io.KnownBytes.{Appends}
use Rattle.ports.proofs.writer.write_front.Given as goal

abbrev pub invariant-writes : goal.invariant-writes
invariant-writes g l = (l.done ≤ length l.bytes) × Appends (g.W.Write.contents l.initial.writer.stream) (g.W.Write.contents l.writer.stream) (take l.done l.bytes)
    × (l.writer.written ≡ l.initial.writer.written ++ take l.done l.bytes) × (l.writer.given ≡ l.initial.writer.given)

abbrev pub decreases-writes : goal.decreases-writes
decreases-writes g l = length l.bytes - l.done
