-- A finish by a session that holds tickets: which of them it gives up.
use Rattle.std.proofs.Common.{◌≡◌, refl, sym, ◌∙◌, ap, subst, ℕ, Bool, true, false, if◌then◌else◌, List, Option, Some, Result}
use Rattle.std.specs.Prelude.{remove}
use Rattle.blob_model.specs.History.{AllOther}
use Rattle.request_form.specs.Session.{Session, HeldTicket, ticket_at, without_ticket, without_version}
use Rattle.request_form.specs.Answers.{AfterGap, RepairTurn, FinishAnswer}
use Rattle.request_form.specs.declared.form.Fault.{Fault}
use Rattle.version_manager.specs.Log.{events}
use Rattle.client_session.specs.Tickets.{OpenUpdate, ticket_of, tickets_of, IsHeldAt}
use Rattle.client_session.specs.Results.{finish_reply, repair_reply}
use Rattle.client_session.specs.Sessions.{SessionState, session_of}
use Rattle.client_session.specs.SessionInvariant.{IsOpen}
use Rattle.client_session.specs.Finishing.{bare, Finishing, settles}
use Rattle.client_session.proofs.Lifted.{then_holds, repair_lifts, report_lifts}
use Rattle.client_session.proofs.UpdateAnswers.{only_already_of}

module _ {D : Type 0} (s m : SessionState D) (rest : m ≡ record s { log = m.log; doors = m.doors; turns = m.turns }) (said : Result ℕ Fault) where
  -- the session after the finish, with these tickets
  with_tickets : List HeldTicket → Session
  with_tickets ts = then_holds (session_of s) (events m.log) ts

  unchanged : session_of m ≡ with_tickets (tickets_of s.held)
  unfolding with_tickets
  unchanged = ap session_of rest

  changed : (s' : SessionState D) → s' ≡ record m { held = s'.held } → session_of s' ≡ with_tickets (tickets_of s'.held)
  unfolding with_tickets
  changed s' is = ap session_of is ∙ ap (λ (x : SessionState D). session_of (record x { held = s'.held })) rest

  by_settled : (left : List HeldTicket) (x : Bool) → settles said ≡ x → with_tickets (if settles said then left else tickets_of s.held) ≡ with_tickets (if x then left else tickets_of s.held)
  by_settled left x is = ap (λ (b : Bool). with_tickets (if b then left else tickets_of s.held)) is

  -- ---- any update
  module _ (blob version : ℕ) (a : Finishing s.store.fixed s.caller s.log blob version said m.log) where
    lifted : AfterGap AllOther (session_of s) (RepairTurn (session_of s) blob version) (repair_reply said) (with_tickets (if settles said then without_version (tickets_of s.held) blob version else tickets_of s.held))
    unfolding with_tickets
    lifted = repair_lifts (session_of s) (bare s.store.fixed s.caller m.log) blob version said a

    pub repair_settled : (s' : SessionState D) → settles said ≡ true → s' ≡ record m { held = s'.held } → tickets_of s'.held ≡ without_version (tickets_of m.held) blob version
        → AfterGap AllOther (session_of s) (RepairTurn (session_of s) blob version) (repair_reply said) (session_of s')
    repair_settled s' is same left =
        let tickets : tickets_of s'.held ≡ without_version (tickets_of s.held) blob version = left ∙ ap (λ (x : SessionState D). without_version (tickets_of x.held) blob version) rest in
        subst (λ (y : Session). AfterGap AllOther (session_of s) (RepairTurn (session_of s) blob version) (repair_reply said) y)
        (by_settled (without_version (tickets_of s.held) blob version) true is ∙ sym (changed s' same ∙ ap with_tickets tickets)) lifted

    pub repair_open : settles said ≡ false → AfterGap AllOther (session_of s) (RepairTurn (session_of s) blob version) (repair_reply said) (session_of m)
    repair_open is =
        subst (λ (y : Session). AfterGap AllOther (session_of s) (RepairTurn (session_of s) blob version) (repair_reply said) y) (by_settled (without_version (tickets_of s.held) blob version) false is ∙ sym unchanged) lifted

  -- ---- the update of a ticket
  module _ (number index : ℕ) (h : IsHeldAt s.held number index) (open_ : IsOpen s.store.fixed s.log h.update)
      (a : Finishing s.store.fixed s.caller s.log h.update.ticket.blob h.update.ticket.version said m.log) where
    reported : FinishAnswer AllOther (session_of s) h.update.number (Some (ticket_of h.update)) (finish_reply said) (with_tickets (if settles said then without_ticket (tickets_of s.held) h.update.number else tickets_of s.held))
    unfolding with_tickets
    reported =
        report_lifts (session_of s) (bare s.store.fixed s.caller m.log) (ticket_of h.update) said
        (only_already_of s.store.fixed s.caller s.log (session_of s) h.update.ticket.blob h.update.ticket.version refl refl open_.some open_.ticket.numbered) a

    as_finish : (y : Session) → FinishAnswer AllOther (session_of s) h.update.number (Some (ticket_of h.update)) (finish_reply said) y
        → FinishAnswer AllOther (session_of s) number (ticket_at (tickets_of s.held) number) (finish_reply said) y
    as_finish y x = subst (λ (o : Option HeldTicket). FinishAnswer AllOther (session_of s) number o (finish_reply said) y) (sym h.held) x

    pub finish_settled : (s' : SessionState D) → settles said ≡ true → s' ≡ record m { held = remove m.held index }
        → FinishAnswer AllOther (session_of s) number (ticket_at (tickets_of s.held) number) (finish_reply said) (session_of s')
    finish_settled s' is same =
        let removed : s'.held ≡ remove s.held index = ap (λ (x : SessionState D). x.held) same ∙ ap (λ (x : SessionState D). remove x.held index) rest in
        let left : without_ticket (tickets_of s.held) h.update.number ≡ tickets_of s'.held =
        ap (λ (k : ℕ). without_ticket (tickets_of s.held) k) h.number_is ∙ (h.left ∙ sym (ap tickets_of removed)) in
        let rebuilt : s' ≡ record m { held = s'.held } = same ∙ ap (λ (os : List OpenUpdate). record m { held = os }) (sym (ap (λ (x : SessionState D). x.held) same)) in
        subst (λ (y : Session). FinishAnswer AllOther (session_of s) number (ticket_at (tickets_of s.held) number) (finish_reply said) y) (sym (changed s' rebuilt))
        (as_finish (with_tickets (tickets_of s'.held))
        (subst (λ (y : Session). FinishAnswer AllOther (session_of s) h.update.number (Some (ticket_of h.update)) (finish_reply said) y)
        (by_settled (without_ticket (tickets_of s.held) h.update.number) true is ∙ ap with_tickets left) reported))

    pub finish_open : settles said ≡ false → FinishAnswer AllOther (session_of s) number (ticket_at (tickets_of s.held) number) (finish_reply said) (session_of m)
    finish_open is =
        subst (λ (y : Session). FinishAnswer AllOther (session_of s) number (ticket_at (tickets_of s.held) number) (finish_reply said) y) (sym unchanged)
        (as_finish (with_tickets (tickets_of s.held))
        (subst (λ (y : Session). FinishAnswer AllOther (session_of s) h.update.number (Some (ticket_of h.update)) (finish_reply said) y) (by_settled (without_ticket (tickets_of s.held) h.update.number) false is) reported))
