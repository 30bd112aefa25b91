use Rattle.node_door.proofs.Replies.{head_is}
use Rattle.node_door.proofs.wire.head_of.Goals as goal

pub returns : goal.returns
returns c = head_is c.short_number.result c.args.head.now c.requires c.short_number.ensures
