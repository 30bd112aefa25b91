use Rattle.std.proofs.Common.{◌≡◌}
use Rattle.crossbeam_queue.specs.Passes.{view, IsSamePass, IsPassOf}
use Rattle.blob_server.specs.Serving.{IsBeginningOf, WasServed, Accounts}
use Rattle.blob_server.proofs.queue.PeerQueue.finish.Given as goal

-- what was taken so far was served
abbrev pub invariant-loop : goal.invariant-loop
invariant-loop g l =
    let s = g.S.PeerServer in
    record {
      ready : s.is_ready l.service;
      home : s.home l.service ≡ s.home l.fn.service;
      saw : IsBeginningOf (s.saw l.fn.service) (s.saw l.service);
      of_queue : IsPassOf l.self.line l.pass;
      pass : IsSamePass l.fn.pass l.pass;
      served : Accounts (WasServed s.home s.saw s.gives (s.home l.fn.service)) (IsBeginningOf (s.saw l.service)) 0 (view l.fn.pass) (view l.pass);
    }
