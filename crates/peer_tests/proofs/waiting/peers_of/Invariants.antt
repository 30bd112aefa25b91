use Rattle.std.proofs.Common.{◌≡◌, true}
use Rattle.peer_tests.proofs.waiting.peers_of.Given as goal

abbrev pub invariant-loop : goal.invariant-loop
invariant-loop g l = g.L.Listener.listens l.ports ≡ true
