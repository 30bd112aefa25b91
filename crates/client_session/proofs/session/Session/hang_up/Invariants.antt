use Rattle.std.proofs.Common.{length}
use Rattle.client_session.specs.HangUp.{GivingUp, counts_of}
use Rattle.client_session.proofs.session.Session.hang_up.Given as goal

abbrev pub invariant-tickets : goal.invariant-tickets
invariant-tickets g l = GivingUp g.D.Door.faults l.fn.self l.self (counts_of l.counts)

abbrev pub decreases-tickets : goal.decreases-tickets
decreases-tickets g l = length l.self.held
