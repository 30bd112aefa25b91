-- an interrupted write appended nothing
use Rattle.std.proofs.Common.{◌≡◌}
use Rattle.std.specs.Io.KnownBytes.{Keeps}
use Rattle.ports.proofs.writer.write_some.Given as goal

abbrev pub invariant-loop : goal.invariant-loop
invariant-loop g l = Keeps (g.W.Write.contents l.initial.writer.stream) (g.W.Write.contents l.writer.stream)
    × (l.writer.written ≡ l.initial.writer.written) × (l.writer.given ≡ l.initial.writer.given)
