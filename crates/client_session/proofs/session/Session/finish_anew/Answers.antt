use Rattle.client_session.proofs.Standing.{session_equipped}
use Rattle.client_session.proofs.session.Session.finish_anew.Goals as goal

pub invariant_of-self : goal.invariant_of-self
invariant_of-self g c =
    let i = c.self.inside in
    let w = c.finish_fresh.ensures in
    session_equipped g.D.Door.is_true i.shared.now i.pass c.finish_fresh.new.pass i.held i.next i.doors c.finish_fresh.new.doors i.room c.finish_fresh.new.room c.self.invariant w.pass w.went w.ready
