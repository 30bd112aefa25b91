use Rattle.node_door.proofs.Passing.{exchanges_unsent, exchanges_heard}
use Rattle.node_door.proofs.wire.Wire.exchange.Goals as goal

pub returns-then-not-send-clause-exchanges : goal.returns-then-not-send-clause-exchanges
returns-then-not-send-clause-exchanges g c = exchanges_unsent _ c.args.want.now _ _ c.send.result c.if-not-send.true c.send.ensures

pub returns-clause-exchanges : goal.returns-clause-exchanges
returns-clause-exchanges g c = exchanges_heard _ c.args.want.now _ _ _ c.send.result c.read_reply.result c.if-not-send.false c.send.ensures c.read_reply.ensures.hears
