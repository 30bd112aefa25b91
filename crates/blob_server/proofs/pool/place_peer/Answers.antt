use Rattle.std.proofs.Common.{refl}
use Rattle.blob_server.proofs.Accounting.{served_one}
use Rattle.blob_server.proofs.pool.place_peer.Goals as goal

pub returns-then-alone-clause-served : goal.returns-then-alone-clause-served
returns-then-alone-clause-served g c = served_one _ _ _ _ c.args.peer refl c.serve_one.ensures.served
