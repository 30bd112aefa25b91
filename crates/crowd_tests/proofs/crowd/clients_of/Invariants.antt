use Rattle.client_session.specs.Sessions.{IsOwnerOf}
use Rattle.crowd_tests.proofs.crowd.clients_of.Given as goal

abbrev pub invariant-loop-number : goal.invariant-loop-number
invariant-loop-number g l = IsOwnerOf l.shared l.owner
