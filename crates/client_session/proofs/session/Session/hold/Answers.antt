use Rattle.std.proofs.Common.{◌≡◌, refl, sym, ◌∙◌, ap, subst, ◌+◌, ◌≤◌, List, [], ◌∷◌, ◌++◌, length}
use Rattle.std.specs.Prelude.{option_map}
use Rattle.std.specs.Arc.{arc_value}
use Rattle.client_session.specs.Tickets.{OpenUpdate}
use Rattle.client_session.specs.SessionInvariant.{IsOpen, IsSession}
use Rattle.client_session.specs.Sessions.{SessionState}
use Rattle.client_session.proofs.Holding.{holding_push}
use Rattle.client_session.proofs.session.Session.hold.Goals as goal

pub invariant_of-self : goal.invariant_of-self
invariant_of-self g c =
    let i = c.self.inside in
    let s = c.self.invariant in
    let o : OpenUpdate = record { number = i.next; ticket = c.args.ticket; row = option_map (λ r. arc_value r) c.args.row } in
    let open_ : IsOpen i.shared.now.fixed i.pass.seen o =
    subst (λ (v : SessionState g.row.D.Denot). IsOpen v.store.fixed v.log (record { number = v.next; ticket = c.args.ticket; row = option_map (λ r. arc_value r) c.args.row })) (sym c.self.view_is) c.requires.open_
    in
    let drawn : i.next ≤ length i.pass.seen = subst (λ (v : SessionState g.row.D.Denot). v.next ≤ length v.log) (sym c.self.view_is) c.requires.drawn in
    let held : c.add.new.self ≡ i.held ++ o ∷ [] = c.add.ensures ∙ ap (λ (x : OpenUpdate). i.held ++ x ∷ []) c.new.ensures in
    subst (λ (h : List OpenUpdate). IsSession g.D.Door.is_true i.shared.now i.pass h (i.next + 1) i.doors i.room i.opened) (sym held)
    (record {
      pass_is = s.pass_is;
      holding = holding_push i.shared.now.fixed i.pass.seen i.held i.next o refl open_ drawn s.holding;
      housed = s.housed;
      served = s.served;
      true_doors = s.true_doors;
      marks = s.marks;
      kept = s.kept;
    })
