use Rattle.std.proofs.Common.{◌≡◌, true}
use Rattle.crossbeam_queue.specs.Passes.{view, IsSamePass, IsPassOf}
use Rattle.blob_server.specs.Serving.{IsBeginningOf, WasServed, Accounts}
use Rattle.blob_server.proofs.Taking.{Taken}
use Rattle.blob_server.proofs.pool.take_peers.Given as goal

-- each peer that came so far was placed
abbrev pub invariant-loop-taken : goal.invariant-loop-taken
invariant-loop-taken g l =
    let li = g.Li.Listener in
    let s = g.S.PeerServer in
    record {
      listens : li.listens l.net ≡ true;
      here : li.listens_at l.net ≡ li.listens_at l.fn.net;
      took : Taken l.taken (record { handed = li.handed l.fn.net; is_done = li.is_done l.fn.net; faults = li.faults l.fn.net })
          (record { handed = li.handed l.net; is_done = li.is_done l.net; faults = li.faults l.net });
      ready : s.is_ready l.service;
      home : s.home l.service ≡ s.home l.fn.service;
      of_queue : IsPassOf l.queue.line l.pass;
      pass : IsSamePass l.fn.pass l.pass;
      served : Accounts (WasServed s.home s.saw s.gives (s.home l.fn.service)) (IsBeginningOf (s.saw l.service)) l.taken (view l.fn.pass) (view l.pass);
    }
