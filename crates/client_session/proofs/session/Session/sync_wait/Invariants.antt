use Rattle.client_session.specs.Waiting.{Waits}
use Rattle.client_session.proofs.session.Session.sync_wait.Given as goal

abbrev pub invariant-loop : goal.invariant-loop
invariant-loop g l = Waits l.fn.self l.self
