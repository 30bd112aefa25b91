use Rattle.blob_server.proofs.Rule.{puts}
use Rattle.blob_server.proofs.queue.PeerQueue.put.Goals as goal

pub push_as-requires-clause-rule : goal.push_as-requires-clause-rule
push_as-requires-clause-rule g c = (puts _ _ _ _ (rw c.loop.invariant.view c.requires.parts), λ items views kept at. tt)
