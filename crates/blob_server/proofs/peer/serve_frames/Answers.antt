use Rattle.blob_server.proofs.Frames.{served_none, served_new}
use Rattle.blob_server.proofs.peer.serve_frames.Goals as goal

pub returns-in_default-clause-served : goal.returns-in_default-clause-served
returns-in_default-clause-served g c = served_none _ _

pub returns-clause-served : goal.returns-clause-served
returns-clause-served g c = served_new _ _ _ _ c.serve_stream.result c.in-Ok.dialect c.in-Ok.ensures c.serve_stream.ensures.served
