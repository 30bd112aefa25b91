use Rattle.std.proofs.Common.{◌≡◌, false, refl, sym, ◌∙◌, ap, subst, ℕ, ◌+◌, ◌<◌, List, length, Option, Some, None, arith}
use Rattle.std.proofs.lemmas.List.{length-map}
use Rattle.blob_model.specs.History.{AllOther}
use Rattle.blob_model.specs.declared.call.Event.{Event}
use Rattle.page_store.specs.Stored.{Cut}
use Rattle.page_fan.specs.Put.{ArePut}
use Rattle.turn_lock.specs.Shown.{PassView}
use Rattle.turn_lock.proofs.Histories.{begins_both}
use Rattle.version_manager.specs.declared.journal.DeskFixed.{DeskFixed}
use Rattle.request_form.specs.Session.{Session}
use Rattle.request_form.specs.Answers.{AfterGap, UnnumberedTurn, Unless, update_fault}
use Rattle.request_form.specs.declared.form.Fault.{Fault}
use Rattle.request_form.specs.declared.form.Reply.{Reply}
use Rattle.request_form.specs.declared.form.Reply.TheVariants as Replies
use Rattle.client_session.specs.Tickets.{ticket_of}
use Rattle.range_reader.specs.Opened.{all_kept}
use Rattle.client_session.specs.Sessions.{longest, session_at}
use Rattle.client_session.specs.Finishing.{bare}
use Rattle.client_session.specs.Numbering.{LookedAhead, NotNumberedFor, Numbering}
use Rattle.client_session.specs.Updates.{WasNumbered}
use Rattle.client_session.proofs.Lifted.{unnumbered_lifts}
use Rattle.client_session.proofs.Losses.{calm_lost}
use Rattle.client_session.proofs.RangeAnswers.{rose_none}
use Rattle.client_session.proofs.Numbered.{not_numbered_both, both_others, both_outcome, both_seen, both_longer}
use Rattle.client_session.proofs.Standing.{session_after, session_doors}
use Rattle.client_session.specs.TurnCounts.{look_turns}
use Rattle.client_session.proofs.session.Session.number.Goals as goal

-- what the session refuses, it says
said_first : (o : Option Fault) (fault : Fault) (s : Session) (Answer : Type 0) → Some fault ≡ o → Unless o s (Replies.Refused fault) s Answer
said_first None fault s Answer e = cc
said_first (Some x) fault s Answer e =
    let same : fault ≡ x = cc in
    (ap (λ (y : Fault). Replies.Refused y) same, refl)

not_said : (o : Option Fault) (s : Session) (reply : Reply) (s' : Session) (Answer : Type 0) → None ≡ o → Answer → Unless o s reply s' Answer
not_said None s reply s' Answer e a = a
not_said (Some x) s reply s' Answer e a = cc

pub returns-in-Some-clause-refused : goal.returns-in-Some-clause-refused
returns-in-Some-clause-refused g c =
    let i = c.self.inside in
    let s : Session = session_at i.shared.now.fixed i.pass.caller i.pass.seen i.held i.next (longest i.limit) in
    let tickets : length s.tickets ≡ c.count.result = length-map i.held ticket_of ∙ sym c.count.ensures.count in
    rw (← c.self.view_is) (said_first (update_fault s c.args.bytes.now) c.in-Some.fault s _ (sym c.in-Some.is ∙ c.fault_of_update.ensures.fault s (sym c.bytes.ensures.is) tickets))

pub invariant_of-self : goal.invariant_of-self
invariant_of-self g c =
    let i = c.self.inside in
    let w = c.prepare.ensures in
    let new = c.prepare.new.pass in
    session_doors g.D.Door.is_true i.shared.now new i.held i.next i.doors c.prepare.new.doors i.room i.room w.count (w.truth_stays c.self.invariant.true_doors) refl
    (session_after g.D.Door.is_true i.shared.now i.pass new i.doors i.room i.held i.next c.self.invariant w.pass w.went)

pub invariant_of-self-in-Ok-number_stored : goal.invariant_of-self-in-Ok-number_stored
invariant_of-self-in-Ok-number_stored g c =
    let i = c.self.inside in
    let w = c.prepare.ensures in
    let mid = c.prepare.new.pass in
    let new = c.number_stored.new.pass in
    session_doors g.D.Door.is_true i.shared.now new i.held i.next i.doors c.prepare.new.doors i.room i.room w.count (w.truth_stays c.self.invariant.true_doors) refl
    (session_after g.D.Door.is_true i.shared.now mid new i.doors i.room i.held i.next
    (session_after g.D.Door.is_true i.shared.now i.pass mid i.doors i.room i.held i.next c.self.invariant w.pass w.went) c.number_stored.ensures.pass c.number_stored.ensures.went)

pub invariant_of-self-in-Err-number_stored : goal.invariant_of-self-in-Err-number_stored
invariant_of-self-in-Err-number_stored g c =
    let i = c.self.inside in
    let w = c.prepare.ensures in
    let mid = c.prepare.new.pass in
    let new = c.number_stored.new.pass in
    session_doors g.D.Door.is_true i.shared.now new i.held i.next i.doors c.prepare.new.doors i.room i.room w.count (w.truth_stays c.self.invariant.true_doors) refl
    (session_after g.D.Door.is_true i.shared.now mid new i.doors i.room i.held i.next
    (session_after g.D.Door.is_true i.shared.now i.pass mid i.doors i.room i.held i.next c.self.invariant w.pass w.went) c.number_stored.ensures.pass c.number_stored.ensures.went)

pub returns-in-Ok-number_stored-clause-goes_on : goal.returns-in-Ok-number_stored-clause-goes_on
returns-in-Ok-number_stored-clause-goes_on g c =
    let i = c.self.inside in
    let mid = c.prepare.new.pass in
    let new = c.number_stored.new.pass in
    rw (← c.self.view_is) (record {
      store = refl;
      caller = ap (λ (p : PassView Event DeskFixed). p.caller) c.number_stored.ensures.pass ∙ ap (λ (p : PassView Event DeskFixed). p.caller) c.prepare.ensures.pass;
      begins = begins_both i.pass.seen mid.seen new.seen c.prepare.ensures.went.begins c.number_stored.ensures.went.begins;
    })

pub returns-in-Err-number_stored-clause-goes_on : goal.returns-in-Err-number_stored-clause-goes_on
returns-in-Err-number_stored-clause-goes_on g c =
    let i = c.self.inside in
    let mid = c.prepare.new.pass in
    let new = c.number_stored.new.pass in
    rw (← c.self.view_is) (record {
      store = refl;
      caller = ap (λ (p : PassView Event DeskFixed). p.caller) c.number_stored.ensures.pass ∙ ap (λ (p : PassView Event DeskFixed). p.caller) c.prepare.ensures.pass;
      begins = begins_both i.pass.seen mid.seen new.seen c.prepare.ensures.went.begins c.number_stored.ensures.went.begins;
    })

pub returns-in-Err-number_stored-clause-refused : goal.returns-in-Err-number_stored-clause-refused
returns-in-Err-number_stored-clause-refused g c =
    let i = c.self.inside in
    let by : ℕ = i.pass.caller in
    let fixed : DeskFixed = i.shared.now.fixed in
    let mid = c.prepare.new.pass in
    let new = c.number_stored.new.pass in
    let bytes : List ℕ = c.args.bytes.now in
    let fault : Fault = c.in-Err-number_stored.fault in
    let s : Session = session_at fixed by i.pass.seen i.held i.next (longest i.limit) in
    let s' : Session = session_at fixed by new.seen i.held i.next (longest i.limit) in
    let tickets : length s.tickets ≡ c.count.result = length-map i.held ticket_of ∙ sym c.count.ensures.count in
    let none : None ≡ update_fault s bytes = sym c.in_default.is ∙ c.fault_of_update.ensures.fault s (sym c.bytes.ensures.is) tickets in
    let same1 : mid.caller ≡ by = ap (λ (p : PassView Event DeskFixed). p.caller) c.prepare.ensures.pass in
    let same2 : new.caller ≡ by = ap (λ (p : PassView Event DeskFixed). p.caller) c.number_stored.ensures.pass ∙ same1 in
    let a : NotNumberedFor (bare fixed by mid.seen) c.args.blob c.args.place bytes fault (bare fixed by new.seen) =
    subst (λ (k : ℕ). NotNumberedFor (bare fixed k mid.seen) c.args.blob c.args.place bytes fault (bare fixed k new.seen)) same1
    (subst (λ (b : List ℕ). NotNumberedFor (bare fixed mid.caller mid.seen) c.args.blob c.args.place b fault (bare fixed mid.caller new.seen)) c.in-Ok.ensures.bytes c.in-Err-number_stored.ensures.refused)
    in
    let both : NotNumberedFor (bare fixed by i.pass.seen) c.args.blob c.args.place bytes fault (bare fixed by new.seen) =
    not_numbered_both fixed by i.pass.seen mid.seen new.seen i.looks_first c.args.blob c.args.place bytes c.in-Ok.ensures.looked fault c.in-Err-number_stored.ensures.calm a in
    let answer : AfterGap AllOther s (UnnumberedTurn s c.args.blob c.args.place bytes) (Replies.Refused fault) s' =
    unnumbered_lifts s (bare fixed by new.seen) c.args.blob c.args.place bytes (Replies.Refused fault) both in
    rw (← c.self.view_is, same2) (not_said (update_fault s bytes) s (Replies.Refused fault) s' _ none answer)

pub returns-in-Ok-number_stored-clause-numbered : goal.returns-in-Ok-number_stored-clause-numbered
returns-in-Ok-number_stored-clause-numbered g c =
    let i = c.self.inside in
    let by : ℕ = i.pass.caller in
    let fixed : DeskFixed = i.shared.now.fixed in
    let mid = c.prepare.new.pass in
    let new = c.number_stored.new.pass in
    let bytes : List ℕ = c.args.bytes.now in
    let limit : ℕ = longest i.limit in
    let t = c.in-Ok-number_stored.ticket in
    let s : Session = session_at fixed by i.pass.seen i.held i.next limit in
    let tickets : length s.tickets ≡ c.count.result = length-map i.held ticket_of ∙ sym c.count.ensures.count in
    let none : update_fault s bytes ≡ None = sym (c.fault_of_update.ensures.fault s (sym c.bytes.ensures.is) tickets) ∙ c.in_default.is in
    let same1 : mid.caller ≡ by = ap (λ (p : PassView Event DeskFixed). p.caller) c.prepare.ensures.pass in
    let same2 : new.caller ≡ by = ap (λ (p : PassView Event DeskFixed). p.caller) c.number_stored.ensures.pass ∙ same1 in
    let look : LookedAhead fixed by i.pass.seen i.looks_first c.args.blob c.args.place bytes None mid.seen = c.in-Ok.ensures.looked in
    let n : Numbering fixed by mid.seen c.args.blob c.args.place bytes t new.seen =
    subst (λ (k : ℕ). Numbering fixed k mid.seen c.args.blob c.args.place bytes t new.seen) same1
    (subst (λ (b : List ℕ). Numbering fixed mid.caller mid.seen c.args.blob c.args.place b t new.seen) c.in-Ok.ensures.bytes c.in-Ok-number_stored.ensures.numbered)
    in
    let few : length i.held < 64 = let a = c.count.ensures.count in let b = c.count.ensures.few in let d = c.in_default.ensures.room in omega arith in
    let made : WasNumbered (record { store = i.shared.now; caller = by; log = i.pass.seen; held = i.held; next = i.next; doors = i.doors; limit = limit; looks_first = i.looks_first; turns = i.pass.turns; opened = all_kept i.opened }) c.args.blob c.args.place bytes t
    (record { store = i.shared.now; caller = by; log = new.seen; held = i.held; next = i.next; doors = c.prepare.new.doors; limit = limit; looks_first = false; turns = new.turns; opened = all_kept i.opened }) =
    record {
      others = _;
      is_gap = both_others fixed by i.pass.seen mid.seen new.seen i.looks_first c.args.blob c.args.place bytes look t n;
      taken = none;
      outcome = both_outcome fixed by i.pass.seen mid.seen new.seen i.looks_first c.args.blob c.args.place bytes look t n i.held i.next limit;
      seen = both_seen fixed by i.pass.seen mid.seen new.seen i.looks_first c.args.blob c.args.place bytes look t n i.held i.next limit;
      blob_is = n.blob_is;
      ticket = n.ticket;
      unfinished = n.unfinished;
      room = few;
      drawn = both_longer fixed by i.pass.seen mid.seen new.seen i.looks_first c.args.blob c.args.place bytes look t n i.next c.self.invariant.holding.drawn;
    }
    in
    rw (← c.self.view_is, same2) made

pub returns-in-Some-clause-first_lost : goal.returns-in-Some-clause-first_lost
returns-in-Some-clause-first_lost g c = calm_lost c.in-Some.fault _ c.in-Some.ensures.calm

pub returns-in-Err-number_stored-clause-first_lost : goal.returns-in-Err-number_stored-clause-first_lost
returns-in-Err-number_stored-clause-first_lost g c = calm_lost c.in-Err-number_stored.fault _ c.in-Err-number_stored.ensures.calm

pub returns-in-Err-clause-refused : goal.returns-in-Err-clause-refused
returns-in-Err-clause-refused g c =
    let i = c.self.inside in
    let by : ℕ = i.pass.caller in
    let fixed : DeskFixed = i.shared.now.fixed in
    let mid = c.prepare.new.pass in
    let bytes : List ℕ = c.args.bytes.now in
    let fault : Fault = c.in-Err.fault in
    let s : Session = session_at fixed by i.pass.seen i.held i.next (longest i.limit) in
    let s' : Session = session_at fixed by mid.seen i.held i.next (longest i.limit) in
    let tickets : length s.tickets ≡ c.count.result = length-map i.held ticket_of ∙ sym c.count.ensures.count in
    let none : None ≡ update_fault s bytes = sym c.in_default.is ∙ c.fault_of_update.ensures.fault s (sym c.bytes.ensures.is) tickets in
    let same : mid.caller ≡ by = ap (λ (p : PassView Event DeskFixed). p.caller) c.prepare.ensures.pass in
    let answer : AfterGap AllOther s (UnnumberedTurn s c.args.blob c.args.place bytes) (Replies.Refused fault) s' =
    unnumbered_lifts s (bare fixed by mid.seen) c.args.blob c.args.place bytes (Replies.Refused fault) c.in-Err.ensures.refused in
    rw (← c.self.view_is, same) (not_said (update_fault s bytes) s (Replies.Refused fault) s' _ none answer)

pub returns-in-Ok-number_stored-clause-rest : goal.returns-in-Ok-number_stored-clause-rest
returns-in-Ok-number_stored-clause-rest g c =
    let same : c.number_stored.new.pass.caller ≡ c.self.inside.pass.caller =
    ap (λ (p : PassView Event DeskFixed). p.caller) c.number_stored.ensures.pass ∙ ap (λ (p : PassView Event DeskFixed). p.caller) c.prepare.ensures.pass in
    rw (← c.self.view_is, same) refl

pub returns-in-Err-number_stored-clause-rest : goal.returns-in-Err-number_stored-clause-rest
returns-in-Err-number_stored-clause-rest g c =
    let same : c.number_stored.new.pass.caller ≡ c.self.inside.pass.caller =
    ap (λ (p : PassView Event DeskFixed). p.caller) c.number_stored.ensures.pass ∙ ap (λ (p : PassView Event DeskFixed). p.caller) c.prepare.ensures.pass in
    rw (← c.self.view_is, same) refl

pub returns-in-Err-clause-rest : goal.returns-in-Err-clause-rest
returns-in-Err-clause-rest g c =
    let same : c.prepare.new.pass.caller ≡ c.self.inside.pass.caller = ap (λ (p : PassView Event DeskFixed). p.caller) c.prepare.ensures.pass in
    rw (← c.self.view_is, same) refl

pub returns-in-Err-clause-goes_on : goal.returns-in-Err-clause-goes_on
returns-in-Err-clause-goes_on g c =
    rw (← c.self.view_is) (record {
      store = refl;
      caller = ap (λ (p : PassView Event DeskFixed). p.caller) c.prepare.ensures.pass;
      begins = c.prepare.ensures.went.begins;
    })

pub returns-in-Err-number_stored-clause-risen : goal.returns-in-Err-number_stored-clause-risen
returns-in-Err-number_stored-clause-risen g c = rw (← c.self.view_is) (rose_none _ _ _ c.in-Err-number_stored.ensures.calm c.prepare.ensures.never_falls)

pub prepare-requires-clause-few : goal.prepare-requires-clause-few
prepare-requires-clause-few g c = λ κs within. omega (arith, c.in_default.ensures.few, c.bytes.ensures.most)

pub returns-in-Some-clause-lost_behind : goal.returns-in-Some-clause-lost_behind
returns-in-Some-clause-lost_behind g c = calm_lost c.in-Some.fault _ c.in-Some.ensures.calm

pub returns-in-Err-number_stored-clause-lost_behind : goal.returns-in-Err-number_stored-clause-lost_behind
returns-in-Err-number_stored-clause-lost_behind g c = calm_lost c.in-Err-number_stored.fault _ c.in-Err-number_stored.ensures.calm

pub returns-in-Err-clause-lost_behind : goal.returns-in-Err-clause-lost_behind
returns-in-Err-clause-lost_behind g c = λ page is. rw (← c.self.view_is) (record { turns = c.prepare.ensures.turns; unseen = c.prepare.ensures.unseen })

pub returns-in-Some-clause-looks : goal.returns-in-Some-clause-looks
returns-in-Some-clause-looks g c = sym (c.in-Some.ensures.untried _)

pub returns-in-Err-clause-untouched : goal.returns-in-Err-clause-untouched
returns-in-Err-clause-untouched g c = rw (← c.self.view_is) (λ r. c.in-Err.ensures.untouched r.plain)

pub returns-in-Err-number_stored-clause-untouched : goal.returns-in-Err-number_stored-clause-untouched
returns-in-Err-number_stored-clause-untouched g c =
    let i = c.self.inside in
    let looked : c.prepare.new.pass.turns ≡ i.pass.turns + look_turns i.looks_first i.shared.now.fixed.page_size (length c.args.bytes.now) = c.prepare.ensures.turns in
    let numbered : c.number_stored.new.pass.turns ≡ c.prepare.new.pass.turns + 1 = c.number_stored.ensures.one_turn in
    rw (← c.self.view_is) (λ r. absurd (omega (arith, r.early, looked, numbered)))

pub returns-in-Ok-number_stored-clause-put : goal.returns-in-Ok-number_stored-clause-put
returns-in-Ok-number_stored-clause-put g c =
    let i = c.self.inside in
    let P : Cut → Type 0 =
    λ pages. ArePut g.D.Door.called g.D.Door.faults i.shared.now.providers i.shared.now.replicas i.doors c.prepare.new.doors pages.pages in
    rw (← c.self.view_is) (subst P (sym c.in-Ok-number_stored.ensures.pages) c.in-Ok.ensures.put)
