use Rattle.blob_server.proofs.Frames.{converses}
use Rattle.blob_server.proofs.peer.serve_new.Goals as goal

pub returns-clause-converses : goal.returns-clause-converses
returns-clause-converses g c =
    let p = g.P.Ends in
    let new = c.into_peer-peer in
    let e = c.serve_peer.ensures in
    converses g.D.Door.faults p.given p.left p.written p.ends p.read_faults p.write_faults c.args.session.now c.serve_peer.new.session c.args.peer new.result c.serve_peer.new.peer c.serve_peer.result
    new.ensures.peer new.ensures.fresh c.requires e.served e.read_faults e.write_faults e.ends
