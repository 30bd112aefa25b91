use Rattle.std.proofs.Common.{◌≡◌, sym, ◌∙◌, ap, subst, ℕ, ◌+◌, length, arith}
use Rattle.std.specs.Prelude.{sum_by}
use Rattle.std.specs.Arc.{arc_value}
use Rattle.border_hints.specs.Numbered.{NumberedUpdate}
use Rattle.request_form.specs.Session.{Session}
use Rattle.request_form.specs.declared.form.Reply.TheVariants as Replies
use Rattle.request_form.specs.declared.form.Fault.TheVariants as Faults
use Rattle.client_session.specs.Tickets.{HasRow, HasNoRow}
use Rattle.client_session.specs.Sessions.{SessionState, session_of}
use Rattle.client_session.proofs.UpdateAnswers.{held_more, start_done, start_not_done, start_kept, start_held, start_rose, start_row, start_alone, next_is, put_last}
use Rattle.client_session.specs.TurnCounts.{numbering_turns}
use Rattle.client_session.proofs.Untouched.{none_more, one_more}
use Rattle.client_session.proofs.session.Session.start.Goals as goal

pub returns-in_default-clause-answers : goal.returns-in_default-clause-answers
returns-in_default-clause-answers g c =
    let s = c.args.self.now in
    let mid = c.number.new.self in
    let n = c.in-Ok.ensures.numbered in
    let t : NumberedUpdate = c.in-Ok.ticket in
    let s' : Session = session_of c.hold-ticket.new.self in
    rw (c.hold-ticket.ensures.number ∙ next_is s mid c.args.blob c.args.place c.args.bytes.now t n)
    (start_done (session_of s) c.args.blob c.args.place c.args.bytes.now (Replies.Refused (Faults.NoMemoryTicket s.next)) s' n.taken
    (start_kept s mid c.args.blob c.args.place c.args.bytes.now t n s' (held_more mid c.hold-ticket.new.self t _ c.hold-ticket.ensures.held)))

pub returns-clause-woven : goal.returns-clause-woven
returns-clause-woven g c = λ none.
    let mid = c.number.new.self in
    let n = c.in-Ok.ensures.numbered in
    let new = c.hold-ticket-2.new.self in
    subst (λ (k : ℕ). HasRow new.held k) (sym c.hold-ticket-2.ensures.number)
    (start_row (λ x. arc_value x) c.in-Ok-woven.row mid new c.in-Ok.ticket c.args.blob c.version-version.result n.blob_is c.version-version.ensures.version n.ticket c.hold-ticket-2.ensures.held
    c.in-Ok-woven.ensures.wherever none)

pub returns-in-Err-clause-answers : goal.returns-in-Err-clause-answers
returns-in-Err-clause-answers g c = start_not_done (session_of c.args.self.now) c.args.blob c.args.place c.args.bytes.now c.in-Err.fault _ c.in-Err.ensures.refused

pub returns-clause-answers : goal.returns-clause-answers
returns-clause-answers g c =
    let s = c.args.self.now in
    let mid = c.number.new.self in
    let n = c.in-Ok.ensures.numbered in
    let t : NumberedUpdate = c.in-Ok.ticket in
    let s' : Session = session_of c.hold-ticket-2.new.self in
    rw (c.hold-ticket-2.ensures.number ∙ next_is s mid c.args.blob c.args.place c.args.bytes.now t n, c.version-version.ensures.version, c.at-at.ensures, c.size-size.ensures)
    (start_done (session_of s) c.args.blob c.args.place c.args.bytes.now _ s' n.taken
    (start_held s mid c.args.blob c.args.place c.args.bytes.now t n s' (held_more mid c.hold-ticket-2.new.self t _ c.hold-ticket-2.ensures.held)))

pub returns-clause-faults : goal.returns-clause-faults
returns-clause-faults g c =
    let f = g.D.Door.faults in
    let s = c.args.self.now in
    let mid = c.number.new.self in
    rw (ap (λ (x : SessionState g.row.D.Denot). x.doors) c.hold-ticket-2.ensures.held)
    (start_rose c.args.place c.hold-ticket-2.result c.version-version.result c.at-at.result c.size-size.result (sum_by f s.doors) (sum_by f mid.doors) c.in-Ok.ensures.never_falls)

pub hold-ticket-requires-clause-open_ : goal.hold-ticket-requires-clause-open_
hold-ticket-requires-clause-open_ g c =
    let n = c.in-Ok.ensures.numbered in
    record { some = n.unfinished.some; ticket = n.ticket.ticket; row = tt }

pub returns-in_default-clause-goes_on : goal.returns-in_default-clause-goes_on
returns-in_default-clause-goes_on g c =
    let w = c.in-Ok.ensures.goes_on in
    rw c.hold-ticket.ensures.held (record { store = w.store; caller = w.caller; begins = w.begins })

pub returns-clause-goes_on : goal.returns-clause-goes_on
returns-clause-goes_on g c =
    let w = c.in-Ok.ensures.goes_on in
    rw c.hold-ticket-2.ensures.held (record { store = w.store; caller = w.caller; begins = w.begins })

pub returns-clause-alone : goal.returns-clause-alone
returns-clause-alone g c = λ folds.
    let mid = c.number.new.self in
    let n = c.in-Ok.ensures.numbered in
    let new = c.hold-ticket-2.new.self in
    subst (λ (k : ℕ). HasNoRow new.held k) (sym c.hold-ticket-2.ensures.number)
    (start_alone (λ x. arc_value x) c.in-Ok-woven.row mid new c.in-Ok.ticket c.args.blob c.version-version.result n.blob_is c.version-version.ensures.version n.ticket c.hold-ticket-2.ensures.held
    c.in-Ok-woven.ensures.none_anew folds)

pub returns-in-Err-clause-held_stay : goal.returns-in-Err-clause-held_stay
returns-in-Err-clause-held_stay g c = none_more c.args.self.now.held c.number.new.self.held (ap (λ (x : SessionState g.row.D.Denot). x.held) c.in-Err.ensures.rest)

pub returns-in_default-clause-held_stay : goal.returns-in_default-clause-held_stay
returns-in_default-clause-held_stay g c =
    one_more c.args.self.now.held c.number.new.self.held c.hold-ticket.new.self.held _ (ap (λ (x : SessionState g.row.D.Denot). x.held) c.in-Ok.ensures.rest)
    (ap (λ (x : SessionState g.row.D.Denot). x.held) c.hold-ticket.ensures.held)

pub returns-clause-held_stay : goal.returns-clause-held_stay
returns-clause-held_stay g c =
    one_more c.args.self.now.held c.number.new.self.held c.hold-ticket-2.new.self.held _ (ap (λ (x : SessionState g.row.D.Denot). x.held) c.in-Ok.ensures.rest)
    (ap (λ (x : SessionState g.row.D.Denot). x.held) c.hold-ticket-2.ensures.held)

pub returns-in_default-clause-untouched : goal.returns-in_default-clause-untouched
returns-in_default-clause-untouched g c = λ r.
    let s = c.args.self.now in
    let same : c.hold-ticket.new.self.turns ≡ c.number.new.self.turns = ap (λ (x : SessionState g.row.D.Denot). x.turns) c.hold-ticket.ensures.held in
    let numbered : c.number.new.self.turns ≡ s.turns + numbering_turns s.looks_first s.store.fixed.page_size (length c.args.bytes.now) = c.in-Ok.ensures.turns in
    absurd (omega (arith, r.early, same, numbered))

pub returns-clause-put : goal.returns-clause-put
returns-clause-put g c =
    let s = c.args.self.now in
    let mid = c.number.new.self in
    let new = c.hold-ticket-2.new.self in
    put_last g.D.Door.called g.D.Door.faults s mid new c.hold-ticket-2.result c.in-Ok.ticket _ c.hold-ticket-2.ensures.number c.hold-ticket-2.ensures.held c.in-Ok.ensures.put
