use Rattle.blob_server.proofs.Accounting.{put_one, served_one}
use Rattle.blob_server.proofs.queue.PeerQueue.hand_over.Goals as goal

pub returns-in-None-clause-served : goal.returns-in-None-clause-served
returns-in-None-clause-served g c = put_one _ _ _ _ c.in-None.ensures.rule

pub returns-in-Some-clause-served : goal.returns-in-Some-clause-served
returns-in-Some-clause-served g c =
    let rule = c.in-Some.ensures.rule in
    served_one _ _ _ _ c.in-Some.peer rule.1 c.serve_one.ensures.served
