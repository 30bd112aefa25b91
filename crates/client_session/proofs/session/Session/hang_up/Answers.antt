use Rattle.std.proofs.Common.{◌≡◌, refl, sym, ap, subst, ◌<◌, ◌≤◌, List, ◌∷◌, length, arith}
use Rattle.blob_model.specs.History.{AllOther, store_of}
use Rattle.version_manager.specs.Log.{events}
use Rattle.request_form.specs.Session.{Session, HeldTicket}
use Rattle.request_form.specs.HangUp.{AllNumbered, HungUp, GivenUpCounts, begins_anew}
use Rattle.client_session.specs.Results.{finish_reply}
use Rattle.client_session.specs.Sessions.{SessionState, session_of}
use Rattle.client_session.specs.Tickets.{tickets_of}
use Rattle.client_session.specs.HangUp.{GivingUp, finished_seen, counts_of}
use Rattle.client_session.proofs.HangingUp.{some_held, giving_start, giving_more, hung_up, all_numbered, finished_then}
use Rattle.client_session.proofs.session.Session.hang_up.Goals as goal

pub tickets-init : goal.tickets-init
tickets-init g c =
    giving_start g.D.Door.faults c.args.self.now

pub with_one-counts-requires : goal.with_one-counts-requires
with_one-counts-requires g c =
    let b = c.tickets.self in
    let some : 0 < length b.held = subst (λ (s : SessionState g.row.D.Denot). 0 < length s.held)
    c.self-in-tickets.view_is (let n = c.count.ensures.count in let t = c.tickets-test.true in omega arith) in
    let held : length c.self.inside.held ≡ length (c.args.self.now).held = ap (λ (s : SessionState g.row.D.Denot). length s.held) c.self.view_is in
    let most = c.count-most.ensures.few in
    let count = c.count-most.ensures.count in
    omega (arith, c.tickets.invariant.each_once)

pub tickets-preserved : goal.tickets-preserved
tickets-preserved g c =
    let b = c.tickets.self in
    let some : 0 < length b.held = subst (λ (s : SessionState g.row.D.Denot). 0 < length s.held)
    c.self-in-tickets.view_is (let n = c.count.ensures.count in let t = c.tickets-test.true in omega arith) in
    let first = some_held b.held some in
    let t : HeldTicket = first.0 in
    let ts : List HeldTicket = first.1.0 in
    let is : tickets_of b.held ≡ t ∷ ts = first.1.1 in
    let x = c.give_up_first-finished.ensures in
    let d = c.give_up_first-finished.new.self in
    let reply = finish_reply c.give_up_first-finished.result in
    subst (λ (n : GivenUpCounts). GivingUp g.D.Door.faults c.args.self.now d n) (sym c.with_one-counts.ensures)
    (giving_more g.D.Door.faults c.giving_up_goes_on.ensures c.args.self.now b d (counts_of c.tickets.counts) reply t ts c.tickets.invariant is (x.given_up t ts is) x.fewer x.faults x.goes_on x.turns)

pub returns-clause-hung_up : goal.returns-clause-hung_up
returns-clause-hung_up g c =
    let b = c.tickets.self in
    let none : length b.held ≤ 0 = subst (λ (s : SessionState g.row.D.Denot). length s.held ≤ 0)
    c.self-in-tickets.view_is (let n = c.count.ensures.count in let t = c.tickets-test.false in omega arith) in
    hung_up g.D.Door.faults c.args.self.now b (counts_of c.tickets.counts) _ c.tickets.invariant none (ap (λ (s : SessionState g.row.D.Denot). begins_anew (session_of s)) c.self-2.view_is)

pub returns-clause-finished : goal.returns-clause-finished
returns-clause-finished g c =
    let v = c.args.self.now in
    let b = c.tickets.self in
    let i = c.self.inside in
    let none : length b.held ≤ 0 = subst (λ (s : SessionState g.row.D.Denot). length s.held ≤ 0)
    c.self-in-tickets.view_is (let n = c.count.ensures.count in let t = c.tickets-test.false in omega arith) in
    let s' : Session = begins_anew (session_of b) in
    let counts : GivenUpCounts = counts_of c.tickets.counts in
    let h : HungUp AllOther (session_of v) counts s' = hung_up g.D.Door.faults v b counts s' c.tickets.invariant none refl in
    let numbered : AllNumbered (store_of (session_of v).fixed.limits (session_of v).seen) (session_of v).tickets =
    subst (λ (s : SessionState g.row.D.Denot). AllNumbered (store_of s.store.fixed.limits (events s.log)) (tickets_of s.held)) c.self.view_is
    (all_numbered c.logs_are_grown.ensures.count c.extents_hold.ensures.count i.shared.now.fixed i.pass.seen i.held c.self.invariant.holding.open_)
    in
    let few : counts.finished ≤ finished_seen s' (session_of v).tickets = finished_then c.hung_up_are_finished.ensures (session_of v) counts s' h numbered in
    subst (λ (s : SessionState g.row.D.Denot). counts.finished ≤ finished_seen (begins_anew (session_of s)) (session_of v).tickets) (sym c.self-2.view_is) few

pub tickets-smaller : goal.tickets-smaller
tickets-smaller g c = omega (arith, c.give_up_first-finished.ensures.fewer)

pub returns-clause-counts : goal.returns-clause-counts
returns-clause-counts g c =
    let b = c.tickets.self in
    let none : length b.held ≤ 0 = subst (λ (s : SessionState g.row.D.Denot). length s.held ≤ 0)
    c.self-in-tickets.view_is (let n = c.count.ensures.count in let t = c.tickets-test.false in omega arith) in
    omega (arith, c.tickets.invariant.each_once, none)
