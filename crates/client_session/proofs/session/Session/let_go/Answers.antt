use Rattle.std.proofs.Common.{refl, sym, subst, List}
use Rattle.client_session.specs.Tickets.{OpenUpdate, WithoutVersion}
use Rattle.client_session.specs.SessionInvariant.{IsSession}
use Rattle.client_session.proofs.Holding.{holding_remove}
use Rattle.client_session.proofs.session.Session.let_go.Goals as goal

pub invariant_of-self : goal.invariant_of-self
invariant_of-self g c =
    let i = c.self.inside in
    let inv = c.self.invariant in
    subst (λ (os : List OpenUpdate). IsSession g.D.Door.is_true i.shared.now i.pass os i.next i.doors i.room i.opened) (sym c.remove.ensures)
    (record {
      pass_is = inv.pass_is;
      holding = holding_remove i.shared.now.fixed i.pass.seen i.held i.next c.in-Some.index c.in-Some.ensures.within inv.holding;
      housed = inv.housed;
      served = inv.served;
      true_doors = inv.true_doors;
      marks = inv.marks;
      kept = inv.kept;
    })

pub returns-clause-others_stay : goal.returns-clause-others_stay
returns-clause-others_stay g c =
    rw (← c.self.view_is) (WithoutVersion.one c.in-Some.index c.in-Some.ensures c.remove.ensures)

pub returns-in_default-clause-others_stay : goal.returns-in_default-clause-others_stay
returns-in_default-clause-others_stay g c = rw (← c.self.view_is) (WithoutVersion.none c.in_default.ensures refl)
