use Rattle.blob_server.proofs.Rule.{forks}
use Rattle.blob_server.proofs.queue.PeerQueue.cut.Goals as goal

pub another-requires-clause-rule : goal.another-requires-clause-rule
another-requires-clause-rule g c = forks _ _ c.requires.parts
