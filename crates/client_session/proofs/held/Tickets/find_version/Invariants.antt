use Rattle.client_session.proofs.Finding.{NoVersionBefore}
use Rattle.client_session.proofs.held.Tickets.find_version.Given as goal

abbrev pub invariant-loop-index : goal.invariant-loop-index
invariant-loop-index l = NoVersionBefore l.open-items l.blob l.version l.index
