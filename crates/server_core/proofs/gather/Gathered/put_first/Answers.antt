use Rattle.server_core.proofs.Writing.{Writes-first}
use Rattle.server_core.proofs.gather.Gathered.put_first.Goals as goal

pub returns-then-text-lt-MOST-clause-put : goal.returns-then-text-lt-MOST-clause-put
returns-then-text-lt-MOST-clause-put g c = rw c.requires at c.hold.ensures.put (g.I.Ends.written c.args.io.now)

pub returns-in-Failed-clause-put : goal.returns-in-Failed-clause-put
returns-in-Failed-clause-put g c = Writes-first c.args.text.now c.in-Failed.field-0 _ _ c.in-Failed.ensures.part c.in-Failed.ensures.written
