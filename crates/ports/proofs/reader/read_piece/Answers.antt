use Rattle.ports.proofs.Known.{Consumes-nothing}
use Rattle.ports.proofs.reader.read_piece.Goals as goal

pub returns-in-Ok-eq0-clause-left : goal.returns-in-Ok-eq0-clause-left
returns-in-Ok-eq0-clause-left g c = Consumes-nothing _ (g.R.Read.remaining c.loop.reader.stream) _ c.read_once.new.piece c.in-Ok-eq0.field-0 c.in-Ok-eq0.field-0-test c.loop.invariant.1 c.in-Ok-eq0.ensures.bytes.0
