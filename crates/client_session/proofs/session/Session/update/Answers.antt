use Rattle.std.proofs.Common.{◌≡◌, false, sym, ◌∙◌, ap, subst, ℕ, ◌+◌, List, [], ◌++◌, length, None, append-nil, arith}
use Rattle.blob_model.specs.History.{store_of}
use Rattle.blob_model.specs.declared.call.Event.{Event}
use Rattle.version_manager.specs.Log.{events}
use Rattle.version_manager.specs.declared.journal.DeskFixed.{DeskFixed}
use Rattle.request_form.specs.Answers.{folds_in}
use Rattle.client_session.specs.TurnCounts.{UpTo, FoldTurns, numbering_turns}
use Rattle.client_session.proofs.TurnCounts.{finish_by_folds, none_done, not_done_turns}
use Rattle.std.specs.Prelude.{sum_by}
use Rattle.border_hints.specs.Numbered.{NumberedUpdate}
use Rattle.client_session.specs.Tickets.{OpenUpdate, AllHeldStill}
use Rattle.client_session.specs.SessionInvariant.{IsOpen}
use Rattle.client_session.specs.Sessions.{SessionState, StoreState, Continues, session_of}
use Rattle.client_session.specs.Updates.{update_reply}
use Rattle.client_session.specs.Results.{updated_reply}
use Rattle.client_session.proofs.Standing.{open_stays, longer_log}
use Rattle.client_session.proofs.UpdateAnswers.{update_done, update_not_done, update_finished, update_rose, kept, kept_lost, rose_both}
use Rattle.client_session.proofs.Losses.{calm_result, lost_since}
use Rattle.client_session.proofs.Waiting.{goes_both}
use Rattle.std.specs.Prelude.{map}
use Rattle.client_session.specs.Losses.{LostAnew}
use Rattle.client_session.proofs.Untouched.{none_more, lost_as, too_late}
use Rattle.client_session.proofs.session.Session.update.Goals as goal

pub keep-requires-clause-open_ : goal.keep-requires-clause-open_
keep-requires-clause-open_ g c =
    let mid = c.number.new.self in
    let m = c.finish_by.new.self in
    let n = c.in-Ok.ensures.numbered in
    let o : OpenUpdate = record { number = m.next; ticket = c.in-Ok.ticket; row = None } in
    subst (λ (st : StoreState). IsOpen st.fixed m.log o) (sym c.in-Err-finish_by.ensures.goes_on.store)
    (open_stays mid.store.fixed mid.log m.log o c.in-Err-finish_by.ensures.goes_on.begins (record { some = n.unfinished.some; ticket = n.ticket.ticket; row = tt }))

pub returns-in-Ok-finish_by-clause-answers : goal.returns-in-Ok-finish_by-clause-answers
returns-in-Ok-finish_by-clause-answers g c =
    let s = c.args.self.now in
    let mid = c.number.new.self in
    let m = c.finish_by.new.self in
    let n = c.in-Ok.ensures.numbered in
    let t : NumberedUpdate = c.in-Ok.ticket in
    rw (c.version.ensures.version, c.at.ensures, c.size.ensures)
    (update_done (session_of s) c.args.blob c.args.place c.args.bytes.now (update_reply c.args.place t.version t.at t.size) (session_of m) n.taken
    (update_finished s mid c.args.blob c.args.place c.args.bytes.now t n m c.in-Ok-finish_by.ensures.rest c.in-Ok-finish_by._published c.in-Ok-finish_by.ensures.finishing))

pub returns-in-Err-finish_by-clause-answers : goal.returns-in-Err-finish_by-clause-answers
returns-in-Err-finish_by-clause-answers g c =
    let s = c.args.self.now in
    let mid = c.number.new.self in
    let m = c.finish_by.new.self in
    let s' = c.keep.new.self in
    let n = c.in-Ok.ensures.numbered in
    let t : NumberedUpdate = c.in-Ok.ticket in
    let k = kept s mid c.args.blob c.args.place c.args.bytes.now t n m c.in-Err-finish_by.ensures.rest c.keep.result s' 0 0 c.in-Err-finish_by.fault c.in-Err-finish_by.ensures.finishing c.keep.ensures.kept in
    update_done (session_of s) c.args.blob c.args.place c.args.bytes.now (updated_reply c.args.place c.keep.result) (session_of s') n.taken k.answer

pub returns-in-Err-finish_by-clause-faults : goal.returns-in-Err-finish_by-clause-faults
returns-in-Err-finish_by-clause-faults g c =
    let s = c.args.self.now in
    let mid = c.number.new.self in
    let m = c.finish_by.new.self in
    let s' = c.keep.new.self in
    let n = c.in-Ok.ensures.numbered in
    let t : NumberedUpdate = c.in-Ok.ticket in
    let k =
    kept s mid c.args.blob c.args.place c.args.bytes.now t n m c.in-Err-finish_by.ensures.rest c.keep.result s' (sum_by g.D.Door.faults s.doors) (sum_by g.D.Door.faults s'.doors) c.in-Err-finish_by.fault
    c.in-Err-finish_by.ensures.finishing c.keep.ensures.kept
    in
    let doors : s'.doors ≡ m.doors = ap (λ (x : SessionState g.row.D.Denot). x.doors) k.same in
    k.faults (rw doors (rose_both _ (sum_by g.D.Door.faults s.doors) (sum_by g.D.Door.faults mid.doors) (sum_by g.D.Door.faults m.doors) c.in-Ok.ensures.never_falls c.in-Err-finish_by.ensures.faults))

pub returns-in-Err-finish_by-clause-goes_on : goal.returns-in-Err-finish_by-clause-goes_on
returns-in-Err-finish_by-clause-goes_on g c =
    let s = c.args.self.now in
    let mid = c.number.new.self in
    let m = c.finish_by.new.self in
    let s' = c.keep.new.self in
    let n = c.in-Ok.ensures.numbered in
    let t : NumberedUpdate = c.in-Ok.ticket in
    let k = kept s mid c.args.blob c.args.place c.args.bytes.now t n m c.in-Err-finish_by.ensures.rest c.keep.result s' 0 0 c.in-Err-finish_by.fault c.in-Err-finish_by.ensures.finishing c.keep.ensures.kept in
    let last : Continues m s' =
    record {
      store = ap (λ (x : SessionState g.row.D.Denot). x.store) k.same;
      caller = ap (λ (x : SessionState g.row.D.Denot). x.caller) k.same;
      begins = ([], ap (λ (x : SessionState g.row.D.Denot). x.log) k.same ∙ sym (append-nil m.log));
    }
    in
    goes_both s m s' (goes_both s mid m c.in-Ok.ensures.goes_on c.in-Err-finish_by.ensures.goes_on) last

pub returns-in-Err-finish_by-clause-first_lost : goal.returns-in-Err-finish_by-clause-first_lost
returns-in-Err-finish_by-clause-first_lost g c = calm_result c.keep.result _ c.keep.ensures.calm

pub returns-in-Err-clause-answers : goal.returns-in-Err-clause-answers
returns-in-Err-clause-answers g c = update_not_done (session_of c.args.self.now) c.args.blob c.args.place c.args.bytes.now c.in-Err.fault _ c.in-Err.ensures.refused

pub returns-in-Ok-finish_by-clause-faults : goal.returns-in-Ok-finish_by-clause-faults
returns-in-Ok-finish_by-clause-faults g c =
    let f = g.D.Door.faults in
    let s = c.args.self.now in
    let m = c.finish_by.new.self in
    update_rose (session_of m) c.args.blob c.args.place c.version.result c.at.result c.size.result (sum_by f s.doors) (sum_by f m.doors)
    (omega (arith, c.in-Ok.ensures.never_falls, c.in-Ok-finish_by.ensures.faults.later))

pub returns-in-Ok-finish_by-clause-goes_on : goal.returns-in-Ok-finish_by-clause-goes_on
returns-in-Ok-finish_by-clause-goes_on g c = goes_both c.args.self.now c.number.new.self c.finish_by.new.self c.in-Ok.ensures.goes_on c.in-Ok-finish_by.ensures.goes_on

pub keep-requires-clause-room : goal.keep-requires-clause-room
keep-requires-clause-room g c = rw (ap (λ (x : SessionState g.row.D.Denot). x.held) c.in-Err-finish_by.ensures.rest) c.in-Ok.ensures.numbered.room

pub keep-requires-clause-drawn : goal.keep-requires-clause-drawn
keep-requires-clause-drawn g c =
    let e = c.in-Err-finish_by.ensures in
    let longer = longer_log c.number.new.self.log c.finish_by.new.self.log e.goes_on.begins in
    omega (arith, c.in-Ok.ensures.numbered.drawn, ap (λ (x : SessionState g.row.D.Denot). x.next) e.rest, longer)

pub returns-in-Ok-finish_by-clause-done_turns : goal.returns-in-Ok-finish_by-clause-done_turns
returns-in-Ok-finish_by-clause-done_turns g c =
    let s = c.args.self.now in
    let mid = c.number.new.self in
    let m = c.finish_by.new.self in
    let n = c.in-Ok.ensures.numbered in
    let t : NumberedUpdate = c.in-Ok.ticket in
    let e = c.in-Ok-finish_by.ensures in
    let f : DeskFixed = mid.store.fixed in
    let v : ℕ = c.version.result in
    let o : OpenUpdate = record { number = m.next; ticket = t; row = None } in
    let open_ : IsOpen f m.log o = open_stays f mid.log m.log o e.goes_on.begins (record { some = n.unfinished.some; ticket = n.ticket.ticket; row = tt }) in
    let there : folds_in f.page_size (store_of f.limits (events m.log)) t.blob t.version ≡ folds_in m.store.fixed.page_size (store_of m.store.fixed.limits (events m.log ++ [])) c.args.blob v =
    ap (λ (b : ℕ). folds_in f.page_size (store_of f.limits (events m.log)) b t.version) n.blob_is
    ∙ (ap (λ (k : ℕ). folds_in f.page_size (store_of f.limits (events m.log)) c.args.blob k) (sym c.version.ensures.version)
    ∙ (ap (λ (l : List Event). folds_in f.page_size (store_of f.limits l) c.args.blob v) (sym (append-nil (events m.log)))
    ∙ ap (λ (st : StoreState). folds_in st.fixed.page_size (store_of st.fixed.limits (events m.log ++ [])) c.args.blob v) (sym e.goes_on.store)))
    in
    let before : ℕ = s.turns + numbering_turns s.looks_first s.store.fixed.page_size (length c.args.bytes.now) in
    let numbered : mid.turns ≡ before = c.in-Ok.ensures.turns in
    subst (λ (l : List ℕ). FoldTurns l before m.turns) there
    (subst (λ (b : ℕ). FoldTurns (folds_in f.page_size (store_of f.limits (events m.log)) t.blob t.version) b m.turns) numbered
    (finish_by_folds f m.log t mid.turns m.turns open_.some open_.ticket e.finish_turns))

pub returns-in-Err-finish_by-clause-done_turns : goal.returns-in-Err-finish_by-clause-done_turns
returns-in-Err-finish_by-clause-done_turns g c = none_done c.keep.result _ _ _ _ c.keep.ensures.not_done

pub returns-in-Err-finish_by-clause-turns : goal.returns-in-Err-finish_by-clause-turns
returns-in-Err-finish_by-clause-turns g c =
    let s = c.args.self.now in
    let mid = c.number.new.self in
    let m = c.finish_by.new.self in
    let s' = c.keep.new.self in
    let n = c.in-Ok.ensures.numbered in
    let t : NumberedUpdate = c.in-Ok.ticket in
    let k = kept s mid c.args.blob c.args.place c.args.bytes.now t n m c.in-Err-finish_by.ensures.rest c.keep.result s' 0 0 c.in-Err-finish_by.fault c.in-Err-finish_by.ensures.finishing c.keep.ensures.kept in
    let turns : s'.turns ≡ m.turns = ap (λ (x : SessionState g.row.D.Denot). x.turns) k.same in
    let numbered : mid.turns ≡ s.turns + numbering_turns s.looks_first s.store.fixed.page_size (length c.args.bytes.now) = c.in-Ok.ensures.turns in
    not_done_turns c.keep.result _ s.turns mid.turns s'.turns c.keep.ensures.not_done numbered (subst (λ (after : ℕ). UpTo 2 mid.turns after) (sym turns) c.in-Err-finish_by.ensures.turns)

pub returns-in-Err-finish_by-clause-lost_behind : goal.returns-in-Err-finish_by-clause-lost_behind
returns-in-Err-finish_by-clause-lost_behind g c = calm_result c.keep.result _ c.keep.ensures.calm

pub returns-in-Ok-finish_by-clause-looks : goal.returns-in-Ok-finish_by-clause-looks
returns-in-Ok-finish_by-clause-looks g c = ap (λ (x : SessionState g.row.D.Denot). x.looks_first) c.in-Ok-finish_by.ensures.rest ∙ c.in-Ok.ensures.looks

pub returns-in-Err-finish_by-clause-looks : goal.returns-in-Err-finish_by-clause-looks
returns-in-Err-finish_by-clause-looks g c =
    let s = c.args.self.now in
    let mid = c.number.new.self in
    let m = c.finish_by.new.self in
    let s' = c.keep.new.self in
    let n = c.in-Ok.ensures.numbered in
    let t : NumberedUpdate = c.in-Ok.ticket in
    let k = kept s mid c.args.blob c.args.place c.args.bytes.now t n m c.in-Err-finish_by.ensures.rest c.keep.result s' 0 0 c.in-Err-finish_by.fault c.in-Err-finish_by.ensures.finishing c.keep.ensures.kept in
    let stays : m.looks_first ≡ false = ap (λ (x : SessionState g.row.D.Denot). x.looks_first) c.in-Err-finish_by.ensures.rest ∙ c.in-Ok.ensures.looks in
    ap (λ (x : SessionState g.row.D.Denot). x.looks_first) k.same ∙ (stays ∙ sym (k.taken s.looks_first))

pub returns-in-Err-clause-held_stay : goal.returns-in-Err-clause-held_stay
returns-in-Err-clause-held_stay g c = none_more c.args.self.now.held c.number.new.self.held (ap (λ (x : SessionState g.row.D.Denot). x.held) c.in-Err.ensures.rest)

pub returns-in-Ok-finish_by-clause-held_stay : goal.returns-in-Ok-finish_by-clause-held_stay
returns-in-Ok-finish_by-clause-held_stay g c =
    none_more c.args.self.now.held c.finish_by.new.self.held
    (ap (λ (x : SessionState g.row.D.Denot). x.held) c.in-Ok-finish_by.ensures.rest ∙ ap (λ (x : SessionState g.row.D.Denot). x.held) c.in-Ok.ensures.rest)

pub returns-in-Err-finish_by-clause-held_stay : goal.returns-in-Err-finish_by-clause-held_stay
returns-in-Err-finish_by-clause-held_stay g c =
    let s = c.args.self.now in
    let mid = c.number.new.self in
    let m = c.finish_by.new.self in
    let s' = c.keep.new.self in
    let n = c.in-Ok.ensures.numbered in
    let t : NumberedUpdate = c.in-Ok.ticket in
    let k = kept s mid c.args.blob c.args.place c.args.bytes.now t n m c.in-Err-finish_by.ensures.rest c.keep.result s' 0 0 c.in-Err-finish_by.fault c.in-Err-finish_by.ensures.finishing c.keep.ensures.kept in
    subst (λ (os : List OpenUpdate). AllHeldStill os s'.held)
    (ap (λ (x : SessionState g.row.D.Denot). x.held) c.in-Err-finish_by.ensures.rest ∙ ap (λ (x : SessionState g.row.D.Denot). x.held) c.in-Ok.ensures.rest) k.stay

pub returns-in-Err-finish_by-clause-untouched : goal.returns-in-Err-finish_by-clause-untouched
returns-in-Err-finish_by-clause-untouched g c =
    let s = c.args.self.now in
    let mid = c.number.new.self in
    let m = c.finish_by.new.self in
    let s' = c.keep.new.self in
    let n = c.in-Ok.ensures.numbered in
    let t : NumberedUpdate = c.in-Ok.ticket in
    let k = kept s mid c.args.blob c.args.place c.args.bytes.now t n m c.in-Err-finish_by.ensures.rest c.keep.result s' 0 0 c.in-Err-finish_by.fault c.in-Err-finish_by.ensures.finishing c.keep.ensures.kept in
    let turns : s'.turns ≡ m.turns = ap (λ (x : SessionState g.row.D.Denot). x.turns) k.same in
    let numbered : mid.turns ≡ s.turns + numbering_turns s.looks_first s.store.fixed.page_size (length c.args.bytes.now) = c.in-Ok.ensures.turns in
    too_late c.keep.result (numbering_turns s.looks_first s.store.fixed.page_size (length c.args.bytes.now)) s.turns s'.turns _ (omega (arith, turns, numbered, c.in-Err-finish_by.ensures.turns.least))

pub returns-in-Err-finish_by-clause-held_lost : goal.returns-in-Err-finish_by-clause-held_lost
returns-in-Err-finish_by-clause-held_lost g c =
    let s = c.args.self.now in
    let mid = c.number.new.self in
    let m = c.finish_by.new.self in
    let s' = c.keep.new.self in
    let n = c.in-Ok.ensures.numbered in
    let t : NumberedUpdate = c.in-Ok.ticket in
    let k = kept s mid c.args.blob c.args.place c.args.bytes.now t n m c.in-Err-finish_by.ensures.rest c.keep.result s' 0 0 c.in-Err-finish_by.fault c.in-Err-finish_by.ensures.finishing c.keep.ensures.kept in
    let f = g.D.Door.faults in
    let log : m.log ≡ s'.log = sym (ap (λ (x : SessionState g.row.D.Denot). x.log) k.same) in
    let doors : map f m.doors ≡ map f s'.doors = sym (ap (λ (x : SessionState g.row.D.Denot). map f x.doors) k.same) in
    lost_as c.keep.result _ (λ version page. (version ≡ t.version) × LostAnew mid.store m.log t.blob t.version (map f mid.doors) (map f m.doors) page) _
    (λ version page at. lost_since mid.store s.store m.log s'.log t.blob c.args.blob t.version version (map f s.doors) (map f mid.doors) (map f m.doors) (map f s'.doors) page
    c.in-Ok.ensures.goes_on.store log n.blob_is (sym at.0) doors c.in-Ok.ensures.none_fell at.1)
    (kept_lost s mid c.args.blob c.args.place c.args.bytes.now t n m c.in-Err-finish_by.ensures.rest c.keep.result s' c.in-Err-finish_by.fault
    (LostAnew mid.store m.log t.blob t.version (map f mid.doors) (map f m.doors)) c.in-Err-finish_by.ensures.failed c.in-Err-finish_by.ensures.finishing c.keep.ensures.kept)
