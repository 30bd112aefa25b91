use Rattle.blob_server.proofs.Rule.{merges}
use Rattle.blob_server.proofs.queue.PeerQueue.absorb.Goals as goal

pub absorb-requires-clause-rule : goal.absorb-requires-clause-rule
absorb-requires-clause-rule g c = merges _ _ _ _ c.requires.parts
