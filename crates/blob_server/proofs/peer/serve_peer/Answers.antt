use Rattle.std.proofs.Common.{sum_by}
use Rattle.client_session.specs.HangUp.{counts_of}
use Rattle.client_session.specs.Sessions.{session_of}
use Rattle.blob_server.proofs.Frames.{seen_still}
use Rattle.blob_server.proofs.peer.serve_peer.Goals as goal

pub returns-clause-served : goal.returns-clause-served
returns-clause-served g c = record {
  mid = session_of c.serve_frames-end.new.session;
  faults = sum_by g.D.Door.faults c.serve_frames-end.new.session.doors;
  served = c.serve_frames-end.ensures.served;
  counts = counts_of c.hang_up.result;
  hung_up = c.hang_up.ensures.hung_up;
  rose = c.hang_up.ensures.faults;
}

pub returns-clause-saw : goal.returns-clause-saw
returns-clause-saw g c =
    seen_still c.runs_make_own_events.ensures c.hang_ups_hold.ensures _ _ _ _ c.serve_frames-end.result (counts_of c.hang_up.result) (session_of c.hang_up.new.self) c.serve_frames-end.ensures.served c.hang_up.ensures.hung_up
