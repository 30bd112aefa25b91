-- an interrupted read took nothing, and the piece keeps its length
use Rattle.std.proofs.Common.{◌≡◌, length}
use Rattle.std.specs.Io.KnownBytes.{Keeps}
use Rattle.ports.proofs.reader.read_piece.Given as goal

abbrev pub invariant-loop : goal.invariant-loop
invariant-loop g l = (length l.piece ≡ length l.initial.piece) × Keeps (g.R.Read.remaining l.initial.reader.stream) (g.R.Read.remaining l.reader.stream)
    × (l.reader.given ≡ l.initial.reader.given) × (l.reader.written ≡ l.initial.reader.written)
