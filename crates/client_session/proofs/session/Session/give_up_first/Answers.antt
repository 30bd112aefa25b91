use Rattle.std.proofs.Common.{◌≡◌, sym, ◌∙◌, ap, subst, ℕ, List, ◌∷◌, true}
use Rattle.std.specs.Prelude.{remove}
use Rattle.blob_model.specs.History.{AllOther}
use Rattle.request_form.specs.Session.{Session, HeldTicket, ticket_at, drops, without_ticket}
use Rattle.request_form.specs.Answers.{FinishAnswer}
use Rattle.range_reader.specs.Opened.{all_kept}
use Rattle.client_session.specs.SessionInvariant.{IsSession}
use Rattle.client_session.specs.HangUp.{tells_hindered}
use Rattle.client_session.specs.Results.{finish_reply}
use Rattle.client_session.specs.Sessions.{longest, SessionState, session_at, session_of}
use Rattle.client_session.specs.Tickets.{OpenUpdate, tickets_of}
use Rattle.client_session.proofs.Holding.{tickets_of-remove, holding_remove}
use Rattle.client_session.proofs.HangingUp.{some_held, first_number, fewer_held, some_left, one_gone, one_dropped, same_tickets, dropped_left}
use Rattle.client_session.proofs.session.Session.give_up_first.Goals as goal

abbrev with_those : Session → List HeldTicket → Session
with_those s hs = record { fixed = s.fixed; caller = s.caller; seen = s.seen; tickets = hs; next = s.next; limit = s.limit }

left_first : {D : Type 0} (s : SessionState D) (t : HeldTicket) (ts : List HeldTicket) → (session_of s).tickets ≡ t ∷ ts → without_ticket (session_of s).tickets t.number ≡ ts
left_first s t ts is = dropped_left (session_of s) t ts is

pub returns-then-not-is_hindered-clause-given_up : goal.returns-then-not-is_hindered-clause-given_up
returns-then-not-is_hindered-clause-given_up g c = λ t ts is.
    let v = c.args.self.now in
    let r = c.finish-finished.result in
    let mid = c.finish-finished.new.self in
    let held0 : c.self.inside.held ≡ v.held = ap (λ (s : SessionState g.row.D.Denot). s.held) c.self.view_is in
    let number : c.number-number.result ≡ t.number = c.number-number.ensures ∙ first_number c.self.inside.held c.at.result.now t ts c.at.ensures (ap tickets_of held0 ∙ is) in
    let answer : FinishAnswer AllOther (session_of v) t.number (ticket_at (session_of v).tickets t.number) (finish_reply r) (session_of mid) =
    subst (λ (n : ℕ). FinishAnswer AllOther (session_of v) n (ticket_at (session_of v).tickets n) (finish_reply r) (session_of mid)) number c.finish-finished.ensures.answers
    in
    one_gone (session_of v) t ts is (finish_reply r) (session_of mid) answer (sym c.is_hindered.ensures ∙ c.if-not-is_hindered.true)

pub returns-then-not-is_hindered-clause-fewer : goal.returns-then-not-is_hindered-clause-fewer
returns-then-not-is_hindered-clause-fewer g c =
    let v = c.args.self.now in
    let r = c.finish-finished.result in
    let mid = c.finish-finished.new.self in
    let held0 : c.self.inside.held ≡ v.held = ap (λ (s : SessionState g.row.D.Denot). s.held) c.self.view_is in
    let first = some_held v.held c.requires.some in
    let t : HeldTicket = first.0 in
    let ts : List HeldTicket = first.1.0 in
    let is : tickets_of v.held ≡ t ∷ ts = first.1.1 in
    let number : c.number-number.result ≡ t.number = c.number-number.ensures ∙ first_number c.self.inside.held c.at.result.now t ts c.at.ensures (ap tickets_of held0 ∙ is) in
    let answer : FinishAnswer AllOther (session_of v) t.number (ticket_at (session_of v).tickets t.number) (finish_reply r) (session_of mid) =
    subst (λ (n : ℕ). FinishAnswer AllOther (session_of v) n (ticket_at (session_of v).tickets n) (finish_reply r) (session_of mid)) number c.finish-finished.ensures.answers
    in
    fewer_held v.held mid.held t ts is (one_gone (session_of v) t ts is (finish_reply r) (session_of mid) answer (sym c.is_hindered.ensures ∙ c.if-not-is_hindered.true)).left

pub invariant_of-self : goal.invariant_of-self
invariant_of-self g c =
    let v = c.args.self.now in
    let r = c.finish-finished.result in
    let mid = c.finish-finished.new.self in
    let held0 : c.self.inside.held ≡ v.held = ap (λ (s : SessionState g.row.D.Denot). s.held) c.self.view_is in
    let first = some_held v.held c.requires.some in
    let t : HeldTicket = first.0 in
    let ts : List HeldTicket = first.1.0 in
    let is : tickets_of v.held ≡ t ∷ ts = first.1.1 in
    let number : c.number-number.result ≡ t.number = c.number-number.ensures ∙ first_number c.self.inside.held c.at.result.now t ts c.at.ensures (ap tickets_of held0 ∙ is) in
    let answer : FinishAnswer AllOther (session_of v) t.number (ticket_at (session_of v).tickets t.number) (finish_reply r) (session_of mid) =
    subst (λ (n : ℕ). FinishAnswer AllOther (session_of v) n (ticket_at (session_of v).tickets n) (finish_reply r) (session_of mid)) number c.finish-finished.ensures.answers
    in
    let told : tells_hindered (finish_reply r) ≡ true = sym c.is_hindered.ensures ∙ c.if-not-is_hindered.false in
    let still : (session_of mid).tickets ≡ t ∷ ts = same_tickets (session_of v) t ts is (finish_reply r) (session_of mid) answer told in
    let i = c.self-2.inside in
    let held2 : i.held ≡ mid.held = ap (λ (s : SessionState g.row.D.Denot). s.held) c.self-2.view_is in
    let kept : tickets_of i.held ≡ t ∷ ts = ap tickets_of held2 ∙ still in
    let s = c.self-2.invariant in
    subst (λ (os : List OpenUpdate). IsSession g.D.Door.is_true i.shared.now i.pass os i.next i.doors i.room i.opened) (sym c.remove.ensures)
    (record {
      pass_is = s.pass_is;
      holding = holding_remove i.shared.now.fixed i.pass.seen i.held i.next 0 (some_left i.held t ts kept) s.holding;
      housed = s.housed;
      served = s.served;
      true_doors = s.true_doors;
      marks = s.marks;
      kept = s.kept;
    })

pub returns-clause-given_up : goal.returns-clause-given_up
returns-clause-given_up g c = λ t ts is.
    let v = c.args.self.now in
    let r = c.finish-finished.result in
    let mid = c.finish-finished.new.self in
    let held0 : c.self.inside.held ≡ v.held = ap (λ (s : SessionState g.row.D.Denot). s.held) c.self.view_is in
    let number : c.number-number.result ≡ t.number = c.number-number.ensures ∙ first_number c.self.inside.held c.at.result.now t ts c.at.ensures (ap tickets_of held0 ∙ is) in
    let answer : FinishAnswer AllOther (session_of v) t.number (ticket_at (session_of v).tickets t.number) (finish_reply r) (session_of mid) =
    subst (λ (n : ℕ). FinishAnswer AllOther (session_of v) n (ticket_at (session_of v).tickets n) (finish_reply r) (session_of mid)) number c.finish-finished.ensures.answers
    in
    let told : tells_hindered (finish_reply r) ≡ true = sym c.is_hindered.ensures ∙ c.if-not-is_hindered.false in
    let still : (session_of mid).tickets ≡ t ∷ ts = same_tickets (session_of v) t ts is (finish_reply r) (session_of mid) answer told in
    let i = c.self-2.inside in
    let held2 : i.held ≡ mid.held = ap (λ (s : SessionState g.row.D.Denot). s.held) c.self-2.view_is in
    let kept : tickets_of i.held ≡ t ∷ ts = ap tickets_of held2 ∙ still in
    let left : tickets_of c.remove.new.self ≡ ts = ap tickets_of c.remove.ensures ∙ (tickets_of-remove i.held 0 ∙ ap (λ (hs : List HeldTicket). remove hs 0) kept) in
    let s' : Session = session_at i.shared.now.fixed i.pass.caller i.pass.seen c.remove.new.self i.next (longest i.limit) in
    let by_mid : session_of (record { store = i.shared.now; caller = i.pass.caller; log = i.pass.seen; held = i.held; next = i.next; doors = i.doors; limit = longest i.limit; looks_first = i.looks_first; turns = i.pass.turns; opened = all_kept i.opened }) ≡ session_of mid = ap (λ (s : SessionState g.row.D.Denot). session_of s) c.self-2.view_is in
    let gone : without_ticket (session_of mid).tickets t.number ≡ ts = left_first mid t ts still in
    let dropped : s' ≡ drops (session_of mid) t.number =
    ap (λ (hs : List HeldTicket). with_those (session_of (record { store = i.shared.now; caller = i.pass.caller; log = i.pass.seen; held = i.held; next = i.next; doors = i.doors; limit = longest i.limit; looks_first = i.looks_first; turns = i.pass.turns; opened = all_kept i.opened })) hs) (left ∙ sym gone)
    ∙ ap (λ (s : Session). with_those s (without_ticket (session_of mid).tickets t.number)) by_mid
    in
    one_dropped (session_of v) t ts is (finish_reply r) (session_of mid) answer told s' dropped

pub returns-clause-fewer : goal.returns-clause-fewer
returns-clause-fewer g c =
    let v = c.args.self.now in
    let r = c.finish-finished.result in
    let mid = c.finish-finished.new.self in
    let held0 : c.self.inside.held ≡ v.held = ap (λ (s : SessionState g.row.D.Denot). s.held) c.self.view_is in
    let first = some_held v.held c.requires.some in
    let t : HeldTicket = first.0 in
    let ts : List HeldTicket = first.1.0 in
    let is : tickets_of v.held ≡ t ∷ ts = first.1.1 in
    let number : c.number-number.result ≡ t.number = c.number-number.ensures ∙ first_number c.self.inside.held c.at.result.now t ts c.at.ensures (ap tickets_of held0 ∙ is) in
    let answer : FinishAnswer AllOther (session_of v) t.number (ticket_at (session_of v).tickets t.number) (finish_reply r) (session_of mid) =
    subst (λ (n : ℕ). FinishAnswer AllOther (session_of v) n (ticket_at (session_of v).tickets n) (finish_reply r) (session_of mid)) number c.finish-finished.ensures.answers
    in
    let told : tells_hindered (finish_reply r) ≡ true = sym c.is_hindered.ensures ∙ c.if-not-is_hindered.false in
    let still : (session_of mid).tickets ≡ t ∷ ts = same_tickets (session_of v) t ts is (finish_reply r) (session_of mid) answer told in
    let i = c.self-2.inside in
    let held2 : i.held ≡ mid.held = ap (λ (s : SessionState g.row.D.Denot). s.held) c.self-2.view_is in
    let kept : tickets_of i.held ≡ t ∷ ts = ap tickets_of held2 ∙ still in
    let left : tickets_of c.remove.new.self ≡ ts = ap tickets_of c.remove.ensures ∙ (tickets_of-remove i.held 0 ∙ ap (λ (hs : List HeldTicket). remove hs 0) kept) in
    fewer_held v.held c.remove.new.self t ts is left

pub remove-requires : goal.remove-requires
remove-requires g c =
    let v = c.args.self.now in
    let r = c.finish-finished.result in
    let mid = c.finish-finished.new.self in
    let held0 : c.self.inside.held ≡ v.held = ap (λ (s : SessionState g.row.D.Denot). s.held) c.self.view_is in
    let first = some_held v.held c.requires.some in
    let t : HeldTicket = first.0 in
    let ts : List HeldTicket = first.1.0 in
    let is : tickets_of v.held ≡ t ∷ ts = first.1.1 in
    let number : c.number-number.result ≡ t.number = c.number-number.ensures ∙ first_number c.self.inside.held c.at.result.now t ts c.at.ensures (ap tickets_of held0 ∙ is) in
    let answer : FinishAnswer AllOther (session_of v) t.number (ticket_at (session_of v).tickets t.number) (finish_reply r) (session_of mid) =
    subst (λ (n : ℕ). FinishAnswer AllOther (session_of v) n (ticket_at (session_of v).tickets n) (finish_reply r) (session_of mid)) number c.finish-finished.ensures.answers
    in
    let told : tells_hindered (finish_reply r) ≡ true = sym c.is_hindered.ensures ∙ c.if-not-is_hindered.false in
    let still : (session_of mid).tickets ≡ t ∷ ts = same_tickets (session_of v) t ts is (finish_reply r) (session_of mid) answer told in
    let i = c.self-2.inside in
    let held2 : i.held ≡ mid.held = ap (λ (s : SessionState g.row.D.Denot). s.held) c.self-2.view_is in
    let kept : tickets_of i.held ≡ t ∷ ts = ap tickets_of held2 ∙ still in
    some_left i.held t ts kept
