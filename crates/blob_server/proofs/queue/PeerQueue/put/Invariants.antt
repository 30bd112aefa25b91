use Rattle.std.proofs.Common.{◌≡◌}
use Rattle.crossbeam_queue.specs.Passes.{view, IsSamePass, IsPassOf}
use Rattle.blob_server.proofs.queue.PeerQueue.put.Given as goal

-- it is the same peer, and the pass has put none
abbrev pub invariant-loop : goal.invariant-loop
invariant-loop g l = record {
  peer : l.peer ≡ l.fn.peer;
  of_queue : IsPassOf l.self.line l.pass;
  pass : IsSamePass l.fn.pass l.pass;
  view : view l.pass ≡ view l.fn.pass;
}
