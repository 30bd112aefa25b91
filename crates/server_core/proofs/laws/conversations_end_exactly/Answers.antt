use Rattle.std.proofs.Common.{length}
use Rattle.server_core.proofs.Exact.{exactly}
use Rattle.server_core.proofs.laws.conversations_end_exactly.Goals as goal

pub returns : goal.returns
returns g c = λ old reads before after limit new end held.
    exactly g.C.Conversation.talk.is_last (reads held.taken) (length held.taken) limit held.items held.rest after.left before.ends after.ends end held.ended held.closing
