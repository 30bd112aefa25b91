use Rattle.std.proofs.Common.{◌≡◌, true}
use Rattle.outside_tests.proofs.listener.echo_all.Given as goal

abbrev pub invariant-loop : goal.invariant-loop
invariant-loop g l = g.L.Listener.listens l.listener ≡ true
