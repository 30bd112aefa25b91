use Rattle.client_session.proofs.Memory.{desk_memory}
use Rattle.client_session.proofs.Standing.{session_after}
use Rattle.client_session.proofs.session.Session.ticket_for.Goals as goal
use Rattle.client_session.proofs.session.Session.ticket_for.Goals.{in-Ok, in-Err}

pub invariant_of-self : goal.invariant_of-self
invariant_of-self g c =
    let i = c.self.inside in
    session_after g.D.Door.is_true i.shared.now i.pass c.fresh_ticket.new.pass i.doors i.room i.held i.next c.self.invariant c.fresh_ticket.ensures.pass c.fresh_ticket.ensures.went

pub returns-clause-memory : goal.returns-clause-memory
returns-clause-memory g c =
    elim c.match-fresh_ticket.branch [
      | in-Ok w ↦ rw w.result-is tt
      | in-Err w ↦ rw (w.result-is, w.fault_of.ensures.is) (desk_memory w.in-Err.fault _ w.in-Err.ensures.looked.memory)
    ]
