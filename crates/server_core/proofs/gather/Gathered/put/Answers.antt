use Rattle.server_core.proofs.Writing.{Writes-part, put_after}
use Rattle.server_core.proofs.gather.Gathered.put.Goals as goal

pub returns-then-text-len-clause-put : goal.returns-then-text-len-clause-put
returns-then-text-len-clause-put g c = c.hold.ensures.put (g.I.Ends.written c.args.io.now)

pub returns-in-Failed-clause-put : goal.returns-in-Failed-clause-put
returns-in-Failed-clause-put g c = Writes-part c.args.self.now.bytes.items c.args.text.now c.in-Failed.field-0 _ _ c.in-Failed.ensures.part c.in-Failed.ensures.written

pub returns-in-Whole-clause-put : goal.returns-in-Whole-clause-put
returns-in-Whole-clause-put g c = put_after c.args.self.now.bytes.items c.args.text.now _ _ _ _ c.put_first.result c.in-Whole.ensures.written c.put_first.ensures.put
