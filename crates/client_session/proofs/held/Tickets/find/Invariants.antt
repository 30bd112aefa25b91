use Rattle.client_session.proofs.Finding.{NoneBefore}
use Rattle.client_session.proofs.held.Tickets.find.Given as goal

abbrev pub invariant-loop-index : goal.invariant-loop-index
invariant-loop-index l = NoneBefore l.open-items l.number l.index
