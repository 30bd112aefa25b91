use Rattle.std.proofs.Common.{refl}
use Rattle.frame_wire.proofs.reply.content_head.Goals as goal

pub returns : goal.returns
returns c = c.front.ensures c.args.bytes.now refl
