-- An update of a session, from its first try to its end, and what is left of it.
use Rattle.std.proofs.Common.{◌≡◌, ℕ, ◌+◌, ◌==◌, nat_lt, true, false, List, [], ◌∷◌, ◌++◌, length, refl, sym, ap, subst, ◌∙◌, append-nil, arith, ◌-◌, ◌&&◌, ◌||◌, Bool, append_assoc, ◌⊎◌, inl, inr}
use Rattle.std.proofs.lemmas.Bool.Decides.{nat_tests}
use Rattle.std.specs.Prelude.{Option, None, Result, Ok, Err, Some}
use Rattle.std.proofs.lemmas.Bool.{eq-eqb}
use Rattle.blob_model.specs.Answer.{answer}
use Rattle.blob_model.specs.History.{store_of, events_by, AllOther, finishes}
use Rattle.blob_model.specs.declared.call.Call.{Call}
use Rattle.blob_model.specs.declared.call.Call.TheVariants as Calls
use Rattle.blob_model.specs.declared.call.Event.{Event}
use Rattle.blob_model.specs.declared.call.Event.TheVariants as Events
use Rattle.blob_model.specs.declared.call.Outcome.TheVariants as Outcomes
use Rattle.blob_model.specs.declared.call.Place.{Place}
use Rattle.blob_model.specs.declared.call.Place.TheVariants.{WriteAt, Append}
use Rattle.faults.specs.Counts.{RoseBy}
use Rattle.request_form.specs.Session.{Fixed, Session, HeldTicket, sees, outcome_at}
use Rattle.request_form.specs.Answers.{Unless, LookAnswer, WholeAnswer, Answers, update_fault, update_faults, max_tickets, UnnumberedTurn, WholeTurn, FinishTurn, UpdateAnswer, FinishAnswer, max_update}
use Rattle.request_form.specs.declared.form.Request.TheVariants as Requests
use Rattle.request_form.specs.declared.form.Reply.{Reply}
use Rattle.request_form.specs.declared.form.Reply.TheVariants as Replies
use Rattle.request_form.specs.declared.form.Fault.{Fault}
use Rattle.request_form.specs.declared.form.Fault.TheVariants as Faults
use Rattle.client_session.specs.declared.done.Updated.{Updated as Told}
use Rattle.client_session.specs.declared.done.Updated.TheVariants as WholeUpdates
use Rattle.client_session.specs.Results.{updated_reply, finish_reply}
use Rattle.client_session.specs.Updates.{update_reply, start_reply}
use Rattle.workload_law.specs.Ends.{Leaves, Holds, StopsAt, UpdateHindered, UpdateEnds, UpdatesEnd, LeavesAdd, StopsLater, HoldsLater, LooksLeaveNone, ticket_of, IsOutside, IsPageOf, still_held, FinishEnds, FinishesEnd, HoldsStay, HoldsItsOwn, ReportsLeave, HindrancesStay}
use Rattle.workload_run.specs.Updates.{update_events, is_full, told_faults, IsOneUpdate, IsReady, IsUpdated, IsHeldBack, IsHindered, UpdateTried, HasWaited, awaited_by, IsStopped, FinishTold, FinishedFor, StandsAt, StandsAfter, HasHungUp, HungUpFor}
use Rattle.workload_run.specs.Left.{IsSettled, SettledTry, PageSince, IsLeft, left_by}
use Rattle.blob_model.specs.Laws.{FinishedByEvents, OldVersionsStay}
use Rattle.request_form.specs.Turns.{Tickets, Turn, with_tickets, and_made}
use Rattle.workload_law.proofs.CallEnds.{own_before, folded_page, its_ticket, found_at, found_done}
use Rattle.workload_law.proofs.Later.{outside_as}
use Rattle.workload_law.proofs.OwnEvents.{gap_has_none}
use Rattle.request_form.specs.HangUp.{GivenUp, GivesUp, GivenUpCounts, HungUp}
use Rattle.workload_law.specs.Numbered.{IsNumberedBy}
use Rattle.workload_law.specs.Sessions.{FinishesItsOwn}
use Rattle.workload_run.specs.declared.updating.Stopped.{Stopped}

-- ---- one try

-- the session itself doesn't refuse the update
pub update_fits : (s : Session) (bytes : List ℕ) → IsOneUpdate bytes → IsReady s → update_fault s bytes ≡ None
update_fits s bytes one ready =
    let some = one.some in
    let few = one.few in
    let limit = ready.limit in
    let zero : (length bytes == 0) ≡ false = grind (arith, nat_tests) in
    let long : nat_lt s.limit (length bytes) ≡ false = grind (arith, nat_tests) in
    let held : (length s.tickets == max_tickets) ≡ false = rw ready.none_held refl in
    rw (zero, long, held) refl

module _ (ends : UpdatesEnd) (s : Session) (blob : ℕ) (place : Place) (bytes : List ℕ) (told : Result Told Fault) (s' : Session) (fits : update_fault s bytes ≡ None) where
  pub once_append : place ≡ Append → Answers AllOther s (Requests.Append blob bytes) (updated_reply Append told) s'
      → UpdateEnds s blob place bytes (updated_reply place told) s'
  once_append is answers =
      let reply = updated_reply Append told in
      let answer = subst (λ (f : Option Fault). Unless f s reply s' (WholeAnswer AllOther s blob Append bytes reply s')) fits answers in
      subst (λ (p : Place). UpdateEnds s blob p bytes (updated_reply p told) s') (sym is)
      (ends s blob Append bytes reply s' answer)

  pub once_write : (offset : ℕ) → place ≡ WriteAt offset → Answers AllOther s (Requests.Write blob offset bytes) (updated_reply (WriteAt offset) told) s'
      → UpdateEnds s blob place bytes (updated_reply place told) s'
  once_write offset is answers =
      let reply = updated_reply (WriteAt offset) told in
      let answer = subst (λ (f : Option Fault). Unless f s reply s' (WholeAnswer AllOther s blob (WriteAt offset) bytes reply s')) fits answers in
      subst (λ (p : Place). UpdateEnds s blob p bytes (updated_reply p told) s') (sym is)
      (ends s blob (WriteAt offset) bytes reply s' answer)

-- ---- counts

-- one time after another, each with its count
pub rose_sum : (n m a b d : ℕ) → RoseBy n a b → RoseBy m b d → RoseBy (n + m) a d
rose_sum n m a b d x y = record { later = omega (arith, x.later, y.later); by = λ less. omega (arith, x.by (omega (arith, y.later, less)), y.by less) }

pub rose_both : (n m a b d : ℕ) → RoseBy n a b → RoseBy m b d → RoseBy m a d
rose_both n m a b d x y = record { later = omega (arith, x.later, y.later); by = λ less. omega (arith, x.later, y.by less) }

-- fewer
pub rose_less : (n m a b : ℕ) → RoseBy (n + m) a b → RoseBy n a b
rose_less n m a b x = record { later = x.later; by = λ less. omega (arith, x.by less) }

pub rose_none : (n a b : ℕ) → RoseBy n a b → RoseBy 0 a b
rose_none n a b x = record { later = x.later; by = λ less. omega (arith, x.later) }

-- what is told counts no more than the reply
pub rose_told : (place : Place) (told : Result Told Fault) (s : Session) (blob a b : ℕ) → RoseBy (update_faults s blob (updated_reply place told)) a b → RoseBy (told_faults told) a b
rose_told place (Ok (WholeUpdates.Done done)) s blob a b x = rose_none (update_faults s blob (updated_reply place (Ok (WholeUpdates.Done done)))) a b x
rose_told place (Ok (WholeUpdates.Held started)) s blob a b x = rose_none (update_faults s blob (updated_reply place (Ok (WholeUpdates.Held started)))) a b x
rose_told place (Err fault) s blob a b x = x

-- ---- waiting

pub leaves_same : (s : Session) → Leaves s [] s
leaves_same s = record {
  more = [];
  seen = sym (append-nil s.seen);
  mine = sym (append-nil (events_by s.caller s.seen));
  caller = refl;
  fixed = refl;
  finishes = λ was. was;
  limit = λ was. was;
}

pub waited_look : LooksLeaveNone → (s s' : Session) (call : Call) (reply : Reply) → LookAnswer AllOther s call reply s' → HasWaited s s'
waited_look looks s s' call reply look = let left = looks s call reply s' look in record { leaves = left.0; tickets = left.1 }

pub waited_start : (s : Session) → HasWaited s s
waited_start s = record { leaves = leaves_same s; tickets = refl }

pub waited_both : LeavesAdd → (s mid s' : Session) → HasWaited s mid → HasWaited mid s' → HasWaited s s'
waited_both adds s mid s' a b = record { leaves = adds s mid s' [] [] a.leaves b.leaves; tickets = b.tickets ∙ a.tickets }

pub ready_then : (s s' : Session) → IsReady s → HasWaited s s' → IsReady s'
ready_then s s' ready waited = record { none_held = waited.tickets ∙ ready.none_held; limit = waited.leaves.limit ready.limit }

-- ---- the end of a try

pub no_reply : (place : Place) (version at size : ℕ) (fault : Fault) → Replies.Refused fault ≡ update_reply place version at size → ⊥
no_reply Append version at size fault e = let no : Replies.Refused fault ≡ Replies.Appended version at size = e in cc
no_reply (WriteAt offset) version at size fault e = let no : Replies.Refused fault ≡ Replies.Wrote version at size = e in cc

pub no_start : (place : Place) (ticket version at size : ℕ) (fault : Fault) → Replies.Refused fault ≡ start_reply place ticket version at size → ⊥
no_start Append ticket version at size fault e = let no : Replies.Refused fault ≡ Replies.AppendStarted ticket version at size = e in cc
no_start (WriteAt offset) ticket version at size fault e = let no : Replies.Refused fault ≡ Replies.WriteStarted ticket version at size = e in cc

done_or_started : (place : Place) (v a n ticket version at size : ℕ) → update_reply place v a n ≡ start_reply place ticket version at size → ⊥
done_or_started Append v a n ticket version at size e = let no : Replies.Appended v a n ≡ Replies.AppendStarted ticket version at size = e in cc
done_or_started (WriteAt offset) v a n ticket version at size e = let no : Replies.Wrote v a n ≡ Replies.WriteStarted ticket version at size = e in cc

-- the same start tells the same ticket and version
same_start : (place : Place) (number v a n ticket version at size : ℕ) → start_reply place number v a n ≡ start_reply place ticket version at size → (number ≡ ticket) × (v ≡ version)
same_start Append number v a n ticket version at size e = let same : Replies.AppendStarted number v a n ≡ Replies.AppendStarted ticket version at size = e in (cc, cc)
same_start (WriteAt offset) number v a n ticket version at size e = let same : Replies.WriteStarted number v a n ≡ Replies.WriteStarted ticket version at size = e in (cc, cc)

full_is : (fault : Fault) → is_full (Err fault) ≡ true → (limit : ℕ) × (fault ≡ Faults.TooManyOpen limit)
full_is (Faults.TooManyOpen limit) e = (limit, refl)
full_is fault e = let no : false ≡ true = e in cc

pub same_fault : (a b : Fault) → Replies.Refused a ≡ Replies.Refused b → a ≡ b
same_fault a b e = cc

module _ (s : Session) (blob : ℕ) (place : Place) (bytes : List ℕ) (s' : Session) where
  pub full_waited : (told : Result Told Fault) → UpdateEnds s blob place bytes (updated_reply place told) s' → is_full told ≡ true → HasWaited s s'
  full_waited (Ok (WholeUpdates.Done done)) ends full = absurd (let no : false ≡ true = full in cc)
  full_waited (Ok (WholeUpdates.Held started)) ends full = absurd (let no : false ≡ true = full in cc)
  full_waited (Err fault) (UpdateEnds.does version at size said l t) full = absurd (no_reply place version at size fault said)
  full_waited (Err fault) (UpdateEnds.held_back number version at size said some h) full = absurd (no_start place number version at size fault said)
  full_waited (Err fault) (UpdateEnds.full limit said l t) full = record { leaves = l; tickets = t }
  full_waited (Err fault) (UpdateEnds.hinders f said other hindered stops) full =
      let is = full_is fault full in
      absurd (other is.0 (sym (same_fault fault f said) ∙ is.1))

-- what is left of an update is so from before the session waited
pub settled_later : (s mid : Session) (blob : ℕ) (place : Place) (bytes : List ℕ) (s' : Session) → HasWaited s mid → IsSettled mid blob place bytes s' → IsSettled s blob place bytes s'
settled_later s mid blob place bytes s' waited (IsSettled.unnumbered e) =
    IsSettled.unnumbered (subst (λ (c : ℕ). events_by c s'.seen ≡ events_by c mid.seen) waited.leaves.caller e ∙ (waited.leaves.mine ∙ append-nil (events_by s.caller s.seen)))
settled_later s mid blob place bytes s' waited (IsSettled.finished before later version at size split own numbered done) =
    IsSettled.finished before later version at size
    (subst (λ (c : ℕ). s'.seen ≡ before ++ Events.Assign c blob place bytes ∷ later) waited.leaves.caller split)
    (subst (λ (c : ℕ). events_by c before ≡ events_by c mid.seen) waited.leaves.caller own ∙ (waited.leaves.mine ∙ append-nil (events_by s.caller s.seen)))
    (subst (λ (f : Fixed). (answer (store_of f.limits before) s.caller (Calls.Assign blob place bytes)).1 ≡ Outcomes.Assigned version at size) waited.leaves.fixed
    (subst (λ (c : ℕ). (answer (store_of mid.fixed.limits before) c (Calls.Assign blob place bytes)).1 ≡ Outcomes.Assigned version at size) waited.leaves.caller numbered))
    done

module _ (adds : LeavesAdd) (later : StopsLater) (held_later : HoldsLater) (s mid : Session) (blob : ℕ) (place : Place) (bytes : List ℕ) (s' : Session) (none : s.tickets ≡ [])
    (waited : HasWaited s mid) where
  tried_done : (version : ℕ) → Leaves mid (update_events mid.caller blob place bytes version) s' → s'.tickets ≡ mid.tickets → IsUpdated s blob place bytes s'
  tried_done version l t =
      let own : Leaves mid (update_events s.caller blob place bytes version) s' = subst (λ (c : ℕ). Leaves mid (update_events c blob place bytes version) s') waited.leaves.caller l in
      record { version = version; leaves = adds s mid s' [] (update_events s.caller blob place bytes version) waited.leaves own; none_held = t ∙ (waited.tickets ∙ none) }

  tried_hindered : (fault : Fault) → (ticket_of fault ≡ None → IsSettled mid blob place bytes s') → UpdateHindered mid.fixed.limits mid.fixed.page mid.caller blob place bytes mid.seen s'.seen fault → StopsAt mid blob place bytes (ticket_of fault) s'
      → IsHindered s blob place bytes fault (ticket_of fault) s'
  tried_hindered fault settled hindered stops = record {
    more = waited.leaves.more;
    of_others = ap (λ (h : List Event). events_by s.caller h) (sym waited.leaves.seen) ∙ (waited.leaves.mine ∙ append-nil (events_by s.caller s.seen));
    hindered =
        subst (λ (h : List Event). UpdateHindered s.fixed.limits s.fixed.page s.caller blob place bytes h s'.seen fault) waited.leaves.seen
        (subst (λ (f : Fixed). UpdateHindered f.limits f.page s.caller blob place bytes mid.seen s'.seen fault) waited.leaves.fixed
        (subst (λ (c : ℕ). UpdateHindered mid.fixed.limits mid.fixed.page c blob place bytes mid.seen s'.seen fault) waited.leaves.caller hindered));
    stops = later s mid s' blob place bytes (ticket_of fault) waited.leaves waited.tickets stops;
    settled = λ unheld. settled_later s mid blob place bytes s' waited (settled unheld);
  }

  pub tried : (told : Result Told Fault) → UpdateEnds mid blob place bytes (updated_reply place told) s' → is_full told ≡ false
      → SettledTry mid blob place bytes told s' → UpdateTried s blob place bytes told s'
  tried (Ok (WholeUpdates.Done done)) (UpdateEnds.does version at size said l t) full settled = tried_done version l t
  tried (Ok (WholeUpdates.Done done)) (UpdateEnds.held_back number version at size said some h) full settled = absurd (done_or_started place done.version done.at done.size number version at size said)
  tried (Ok (WholeUpdates.Done done)) (UpdateEnds.full limit said l t) full settled = absurd (no_reply place done.version done.at done.size (Faults.TooManyOpen limit) (sym said))
  tried (Ok (WholeUpdates.Done done)) (UpdateEnds.hinders f said other hindered stops) full settled = absurd (no_reply place done.version done.at done.size f (sym said))
  tried (Ok (WholeUpdates.Held started)) (UpdateEnds.does version at size said l t) full settled =
      absurd (done_or_started place version at size started.ticket started.version started.at started.size (sym said))
  tried (Ok (WholeUpdates.Held started)) (UpdateEnds.held_back number version at size said some h) full settled =
      let same = same_start place started.ticket started.version started.at started.size number version at size said in
      let held : Holds s blob place bytes number version s' = held_later s mid s' blob place bytes number version waited.leaves waited.tickets h in
      subst (λ (n : ℕ). IsHeldBack s blob place bytes n started.version s') (sym same.0)
      (subst (λ (v : ℕ). IsHeldBack s blob place bytes number v s') (sym same.1) (record { some = some; holds = held }))
  tried (Ok (WholeUpdates.Held started)) (UpdateEnds.full limit said l t) full settled =
      absurd (no_start place started.ticket started.version started.at started.size (Faults.TooManyOpen limit) (sym said))
  tried (Ok (WholeUpdates.Held started)) (UpdateEnds.hinders f said other hindered stops) full settled =
      absurd (no_start place started.ticket started.version started.at started.size f (sym said))
  tried (Err fault) (UpdateEnds.does version at size said l t) full settled = absurd (no_reply place version at size fault said)
  tried (Err fault) (UpdateEnds.held_back number version at size said some h) full settled = absurd (no_start place number version at size fault said)
  tried (Err fault) (UpdateEnds.full limit said l t) full settled =
      absurd (let no : true ≡ false = subst (λ (f : Fault). is_full (Err f) ≡ false) (same_fault fault (Faults.TooManyOpen limit) said) full in cc)
  tried (Err fault) (UpdateEnds.hinders f said other hindered stops) full settled =
      let same : fault ≡ f = same_fault fault f said in
      subst (λ (x : Fault). IsHindered s blob place bytes x (ticket_of x) s') (sym same)
      (tried_hindered f (subst (λ (x : Fault). ticket_of x ≡ None → IsSettled mid blob place bytes s') same settled) hindered stops)

-- ---- what events finish
first_or : (t u w : Bool) → (u ≡ true → w ≡ true) → (t || u) ≡ true → (t || w) ≡ true
first_or true u w go e = refl
first_or false u w go e = go e

last_or : (t u : Bool) → u ≡ true → (t || u) ≡ true
last_or true u e = refl
last_or false u e = e

-- as more events come, what was finished is
finishes_on : (blob version : ℕ) (es more : List Event) → finishes blob version es ≡ true → finishes blob version (es ++ more) ≡ true
finishes_on blob version [] more e = absurd (let no : false ≡ true = e in cc)
finishes_on blob version (Events.Finish caller other v ∷ es) more e =
    first_or ((other == blob) && (v == version)) (finishes blob version es) (finishes blob version (es ++ more)) (finishes_on blob version es more) e
finishes_on blob version (x ∷ es) more e = finishes_on blob version es more e

-- a finish that comes last
finishes_last : (caller blob version : ℕ) (es : List Event) → finishes blob version (es ++ Events.Finish caller blob version ∷ []) ≡ true
finishes_last caller blob version [] = rw (eq-eqb blob blob refl, eq-eqb version version refl) refl
finishes_last caller blob version (Events.Finish other b v ∷ es) =
    last_or ((b == blob) && (v == version)) (finishes blob version (es ++ Events.Finish caller blob version ∷ [])) (finishes_last caller blob version es)
finishes_last caller blob version (x ∷ es) = finishes_last caller blob version es

-- ---- a try
module _ (s : Session) (blob : ℕ) (place : Place) (bytes : List ℕ) (fault : Fault) (s' : Session) (unheld : ticket_of fault ≡ None) where
  no_ticket : (number : ℕ) → Replies.Refused fault ≡ Replies.Refused (Faults.NoMemoryTicket number) → ⊥
  no_ticket number said =
      let no : Some number ≡ None = subst (λ (f : Fault). ticket_of f ≡ None) (same_fault fault (Faults.NoMemoryTicket number) said) unheld in cc

  none_numbered : (others : List Event) → AllOther s.caller others → s' ≡ sees s others → IsSettled s blob place bytes s'
  none_numbered others gap is = IsSettled.unnumbered (ap (λ (x : Session). events_by s.caller x.seen) is ∙ gap_has_none s.caller s.seen others gap)

  in_one : (others : List Event) → AllOther s.caller others → (turn : Turn) → UnnumberedTurn s blob place bytes others turn
      → s' ≡ with_tickets turn.tickets (sees s (and_made others turn.made)) → IsSettled s blob place bytes s'
  in_one others gap _ (UnnumberedTurn.refused refusal refused) is = none_numbered others gap is
  in_one others gap _ UnnumberedTurn.out_of_memory is = none_numbered others gap is
  in_one others gap _ (UnnumberedTurn.not_stored page lt stored) is = none_numbered others gap is

  in_two : (others later : List Event) → AllOther s.caller others → (version at size : ℕ)
      → outcome_at s others (Calls.Assign blob place bytes) ≡ Outcomes.Assigned version at size → (turn : Turn)
      → WholeTurn s blob place version at size (others ++ Events.Assign s.caller blob place bytes ∷ later) later turn → Replies.Refused fault ≡ turn.said
      → s' ≡ with_tickets turn.tickets (sees s (others ++ Events.Assign s.caller blob place bytes ∷ and_made later turn.made)) → IsSettled s blob place bytes s'
  in_two others later gap version at size numbered _ (WholeTurn.finished none ready) said is = absurd (no_reply place version at size fault said)
  in_two others later gap version at size numbered _ (WholeTurn.found found) said is =
      IsSettled.finished (s.seen ++ others) later version at size
      (ap (λ (x : Session). x.seen) is ∙ sym (append_assoc s.seen others (Events.Assign s.caller blob place bytes ∷ later)))
      (gap_has_none s.caller s.seen others gap) numbered found
  in_two others later gap version at size numbered _ (WholeTurn.held_back none folds) said is = absurd (no_start place s.next version at size fault said)
  in_two others later gap version at size numbered _ WholeTurn.out_of_memory said is = absurd (no_ticket s.next said)

  try_settled : WholeAnswer AllOther s blob place bytes (Replies.Refused fault) s' → IsSettled s blob place bytes s'
  try_settled (UpdateAnswer.once a) = in_one a.others a.is_gap a.turn a.may a.seen
  try_settled (UpdateAnswer.twice a) = in_two a.others a.later a.is_gap a.version a.at a.size a.numbered a.turn a.may a.said a.seen

module _ (s : Session) (blob : ℕ) (place : Place) (bytes : List ℕ) (told : Result Told Fault) (s' : Session) (fits : update_fault s bytes ≡ None) where
  by_whole : (at : Place) (r : Result Told Fault) → WholeAnswer AllOther s blob at bytes (updated_reply at r) s' → SettledTry s blob at bytes r s'
  by_whole at (Ok done) answer = tt
  by_whole at (Err fault) answer = λ unheld. try_settled s blob at bytes fault s' unheld answer

  pub settled_append : place ≡ Append → Answers AllOther s (Requests.Append blob bytes) (updated_reply Append told) s' → SettledTry s blob place bytes told s'
  settled_append is answers =
      let reply = updated_reply Append told in
      let answer = subst (λ (f : Option Fault). Unless f s reply s' (WholeAnswer AllOther s blob Append bytes reply s')) fits answers in
      subst (λ (p : Place). SettledTry s blob p bytes told s') (sym is) (by_whole Append told answer)

  pub settled_write : (offset : ℕ) → place ≡ WriteAt offset → Answers AllOther s (Requests.Write blob offset bytes) (updated_reply (WriteAt offset) told) s'
      → SettledTry s blob place bytes told s'
  settled_write offset is answers =
      let reply = updated_reply (WriteAt offset) told in
      let answer = subst (λ (f : Option Fault). Unless f s reply s' (WholeAnswer AllOther s blob (WriteAt offset) bytes reply s')) fits answers in
      subst (λ (p : Place). SettledTry s blob p bytes told s') (sym is) (by_whole (WriteAt offset) told answer)

-- ---- a finish
no_finish : (published : ℕ) (fault : Fault) → Replies.Refused fault ≡ Replies.Finished published → ⊥
no_finish published fault e = cc

told_ok : (told : Result ℕ Fault) (published : ℕ) → finish_reply told ≡ Replies.Finished published → left_by told ≡ None
told_ok (Ok p) published said = refl
told_ok (Err fault) published said = absurd (no_finish published fault said)

told_err : (told : Result ℕ Fault) (fault : Fault) → finish_reply told ≡ Replies.Refused fault → told ≡ Err fault
told_err (Ok p) fault said = absurd (no_finish p fault (sym said))
told_err (Err f) fault said = ap (λ (x : Fault). Err x) (same_fault f fault said)

-- after a finish the ticket is given up only where nothing is left
gone_is : (number : ℕ) (fault : Fault) → still_held number fault ≡ None → left_by (Err fault) ≡ None
gone_is number (Faults.Already version) e = refl
gone_is number fault e = absurd (let no : Some number ≡ None = e in cc)

pub settled_gone : (s : Session) (blob : ℕ) (place : Place) (bytes : List ℕ) (number : ℕ) (fault : Fault) (s' : Session) → IsLeft s blob place bytes (left_by (Err fault)) s'
    → still_held number fault ≡ None → IsSettled s blob place bytes s'
settled_gone s blob place bytes number fault s' left gone = subst (λ (o : Option Fault). IsLeft s blob place bytes o s') (gone_is number fault gone) left

module _ (s mid : Session) (blob : ℕ) (place : Place) (bytes : List ℕ) (number version : ℕ) (h : Holds s blob place bytes number version mid) where
  abbrev its_numbering : Event
  its_numbering = Events.Assign s.caller blob place bytes

  since : (more : List Event) → mid.seen ++ more ≡ h.before ++ its_numbering ∷ (h.later ++ more)
  since more = ap (λ (x : List Event). x ++ more) h.split ∙ append_assoc h.before (its_numbering ∷ h.later) more

  module _ (by_events : FinishedByEvents) (stay : OldVersionsStay) (none : s.tickets ≡ []) (told : Result ℕ Fault) (s' : Session) where
    abbrev IsLeftBy : Option Fault → Type 0
    IsLeftBy left = IsLeft s blob place bytes left s'

    done : (more : List Event) → s'.seen ≡ mid.seen ++ more → finishes blob version (h.later ++ more) ≡ true → IsSettled s blob place bytes s'
    done more seen finished = IsSettled.finished h.before (h.later ++ more) version h.at h.size (seen ∙ since more) (own_before s mid blob place bytes number version h) h.numbered finished

    told_as : (fault : Fault) → finish_reply told ≡ Replies.Refused fault → IsLeftBy (left_by (Err fault)) → IsLeftBy (left_by told)
    told_as fault said left = subst (λ (r : Result ℕ Fault). IsLeftBy (left_by r)) (sym (told_err told fault said)) left

    by_turn : (others : List Event) (turn : Turn) → FinishTurn mid blob version (λ published. Replies.Finished published) (Tickets.drop number) Tickets.stay others turn
        → finish_reply told ≡ turn.said → s' ≡ with_tickets turn.tickets (sees mid (and_made others turn.made)) → awaited_by told ≡ None → IsLeftBy (left_by told)
    by_turn others _ (FinishTurn.finished published unfinished ready e) said is settled =
        let last : List Event = Events.Finish mid.caller blob version ∷ [] in
        let all : finishes blob version (h.later ++ (others ++ last)) ≡ true =
        ap (λ (l : List Event). finishes blob version l) (sym (append_assoc h.later others last)) ∙ finishes_last mid.caller blob version (h.later ++ others) in
        subst IsLeftBy (sym (told_ok told published said)) (done (others ++ last) (ap (λ (x : Session). x.seen) is) all)
    by_turn others _ (FinishTurn.found already) said is settled =
        told_as (Faults.Already version) said (done others (ap (λ (x : Session). x.seen) is) (found_done s mid blob place bytes number version h by_events others already))
    by_turn others _ (FinishTurn.waits held unfinished folds e) said is settled =
        absurd (let no : Some (version - 1) ≡ None = subst (λ (r : Result ℕ Fault). awaited_by r ≡ None) (told_err told (Faults.Pending (version - 1) held) said) settled in cc)
    by_turn others _ (FinishTurn.not_folded page unfinished fold ready) said is settled =
        told_as (Faults.PageFault page) said (IsOutside.lost page (folded_page s mid blob place bytes number version h stay s' others (ap (λ (x : Session). x.seen) is) page fold) refl)
    by_turn others _ FinishTurn.out_of_memory said is settled = told_as Faults.NoMemory said (IsOutside.starved refl)

    pub finish_left : Answers AllOther mid (Requests.Finish number) (finish_reply told) s' → awaited_by told ≡ None → IsLeftBy (left_by told)
    finish_left answers settled =
        let a : FinishAnswer AllOther mid number (Some (its_ticket s mid blob place bytes number version h)) (finish_reply told) s' =
        subst (λ (o : Option HeldTicket). FinishAnswer AllOther mid number o (finish_reply told) s') (found_at s mid blob place bytes number version h none) answers in
        by_turn a.others a.turn a.may a.said a.seen settled

-- ---- as more is seen
module _ (s : Session) (blob : ℕ) (place : Place) (bytes : List ℕ) (mid s' : Session) (later : List Event) (seen : s'.seen ≡ mid.seen ++ later)
    (same : events_by s.caller mid.seen ≡ events_by s.caller s.seen → events_by s.caller s'.seen ≡ events_by s.caller s.seen) where
  split_on : (before rest : List Event) → mid.seen ≡ before ++ Events.Assign s.caller blob place bytes ∷ rest → s'.seen ≡ before ++ Events.Assign s.caller blob place bytes ∷ (rest ++ later)
  split_on before rest split = seen ∙ (ap (λ (l : List Event). l ++ later) split ∙ append_assoc before (Events.Assign s.caller blob place bytes ∷ rest) later)

  page_on : (page : ℕ) → PageSince s blob place bytes mid page → PageSince s blob place bytes s' page
  page_on page (IsPageOf.of_bytes lt) = IsPageOf.of_bytes lt
  page_on page (IsPageOf.of_blob before rest version at size split own numbered within) =
      IsPageOf.of_blob before (rest ++ later) version at size (split_on before rest split) own numbered within

  settled_on : IsSettled s blob place bytes mid → IsSettled s blob place bytes s'
  settled_on (IsSettled.unnumbered e) = IsSettled.unnumbered (same e)
  settled_on (IsSettled.finished before rest version at size split own numbered done) =
      IsSettled.finished before (rest ++ later) version at size (split_on before rest split) own numbered (finishes_on blob version rest later done)

  pub left_on : (left : Option Fault) → IsLeft s blob place bytes left mid → IsLeft s blob place bytes left s'
  left_on None x = settled_on x
  left_on (Some fault) x = outside_as (PageSince s blob place bytes mid) (PageSince s blob place bytes s') page_on fault x

-- ---- one finish

awaited_is : (told : Result ℕ Fault) (version : ℕ) → awaited_by told ≡ Some version → (least : ℕ) × (told ≡ Err (Faults.Pending version least))
awaited_is (Ok published) version e = absurd (let no : None ≡ Some version = e in cc)
awaited_is (Err (Faults.Pending v least)) version e = (least, let same : v ≡ version = cc in ap (λ (n : ℕ). Err (Faults.Pending n least)) same)
awaited_is (Err fault) version e = absurd (let no : None ≡ Some version = e in cc)

-- a finish that waits isn't awaited for nothing
not_awaited : (fault : Fault) (version least : ℕ) → awaited_by (Err fault) ≡ None → fault ≡ Faults.Pending version least → ⊥
not_awaited fault version least e is = let no : Some version ≡ None = subst (λ (f : Fault). awaited_by (Err f) ≡ None) is e in cc

module _ (ends : FinishesEnd) (mid : Session) (blob number : ℕ) (told : Result ℕ Fault) (s' : Session) (answers : Answers AllOther mid (Requests.Finish number) (finish_reply told) s') where
  module _ (s : Session) (place : Place) (bytes : List ℕ) (version : ℕ) (none : s.tickets ≡ []) (holds : Holds s blob place bytes number version mid) where
    abbrev Ended : Reply → Type 0
    Ended reply = FinishEnds s blob place bytes number version reply s'

    ended : Ended (finish_reply told)
    ended = ends s mid blob place bytes number version (finish_reply told) s' none holds answers

    -- it waits, and is held still
    holds_on : (fault : Fault) (before least : ℕ) → fault ≡ Faults.Pending before least → Ended (Replies.Refused fault) → Holds s blob place bytes number version s'
    holds_on fault before least is (FinishEnds.does published said l t) = absurd (no_finish published fault said)
    holds_on fault before least is (FinishEnds.waits least' said h) = h
    holds_on fault before least is (FinishEnds.hinders f said other hindered stops) = absurd (other before least (sym (same_fault fault f said) ∙ is))

    finish_hinders : (fault : Fault) → UpdateHindered s.fixed.limits s.fixed.page s.caller blob place bytes s.seen s'.seen fault → StopsAt s blob place bytes (still_held number fault) s'
        → IsLeft s blob place bytes (left_by (Err fault)) s' → IsHindered s blob place bytes fault (still_held number fault) s'
    finish_hinders fault hindered stops left = record {
      more = [];
      of_others = ap (λ (h : List Event). events_by s.caller h) (append-nil s.seen);
      hindered = subst (λ (h : List Event). UpdateHindered s.fixed.limits s.fixed.page s.caller blob place bytes h s'.seen fault) (sym (append-nil s.seen)) hindered;
      stops = stops;
      settled = settled_gone s blob place bytes number fault s' left;
    }

    by_end : (r : Result ℕ Fault) → awaited_by r ≡ None → IsLeft s blob place bytes (left_by r) s' → Ended (finish_reply r) → FinishTold s blob place bytes number r s'
    by_end (Ok published) settled left (FinishEnds.does p said l t) = record { version = version; leaves = l; none_held = t ∙ none }
    by_end (Ok published) settled left (FinishEnds.waits least said h) = absurd (no_finish published (Faults.Pending (version - 1) least) (sym said))
    by_end (Ok published) settled left (FinishEnds.hinders f said other hindered stops) = absurd (no_finish published f (sym said))
    by_end (Err fault) settled left (FinishEnds.does p said l t) = absurd (no_finish p fault said)
    by_end (Err fault) settled left (FinishEnds.waits least said h) =
        absurd (not_awaited fault (version - 1) least settled (same_fault fault (Faults.Pending (version - 1) least) said))
    by_end (Err fault) settled left (FinishEnds.hinders f said other hindered stops) =
        let same : fault ≡ f = same_fault fault f said in
        subst (λ (x : Fault). IsHindered s blob place bytes x (still_held number x) s') (sym same)
        (finish_hinders f hindered stops (subst (λ (x : Fault). IsLeft s blob place bytes (left_by (Err x)) s') same left))

  pub finish_waits : (version : ℕ) → awaited_by told ≡ Some version → (s : Session) (place : Place) (bytes : List ℕ) (v : ℕ) → s.tickets ≡ [] → Holds s blob place bytes number v mid
      → Holds s blob place bytes number v s'
  finish_waits version awaits s place bytes v none holds =
      let is = awaited_is told version awaits in
      holds_on s place bytes v none holds (Faults.Pending version is.0) version is.0 refl
      (subst (λ (r : Result ℕ Fault). FinishEnds s blob place bytes number v (finish_reply r) s') is.1 (ended s place bytes v none holds))

  pub finish_told : FinishedByEvents → OldVersionsStay → awaited_by told ≡ None → FinishedFor blob number mid told s'
  finish_told by_events stay settled s place bytes version none holds =
      let left : IsLeft s blob place bytes (left_by told) s' = finish_left s mid blob place bytes number version holds by_events stay none told s' answers settled in
      (by_end s place bytes version none holds told settled left (ended s place bytes version none holds), left)

-- ---- one finish after another

-- what is held after a wait
pub holds_waited : HoldsStay → (blob number : ℕ) (mid s' : Session) → HasWaited mid s' → (s : Session) (place : Place) (bytes : List ℕ) (version : ℕ) → Holds s blob place bytes number version mid
    → Holds s blob place bytes number version s'
holds_waited stay blob number mid s' waited s place bytes version holds = stay s mid s' blob place bytes number version holds waited.leaves waited.tickets

-- ---- the last finish

some_or_none : (number n : ℕ) → Some number ≡ Some n → number ≡ n
some_or_none number n e = cc

never_none : (number : ℕ) → Some number ≡ None → ⊥
never_none number e = cc

stands_told : (s : Session) (blob : ℕ) (place : Place) (bytes : List ℕ) (number : ℕ) (told : Result ℕ Fault) (s' : Session)
    → FinishTold s blob place bytes number told s' → StandsAt s blob place bytes s'
stands_told s blob place bytes number (Ok published) s' done = StandsAt.finished done
stands_told s blob place bytes number (Err fault) s' hindered = StandsAt.hindered (still_held number fault) hindered.stops

module _ (blob number : ℕ) (mid : Session) (told : Result ℕ Fault) (s' : Session) (finished : FinishedFor blob number mid told s') where
  pub stands_finished : (s : Session) (place : Place) (bytes : List ℕ) → s.tickets ≡ [] → (ticket : Option ℕ) → ticket ≡ Some number → StopsAt s blob place bytes ticket mid
      → StandsAt s blob place bytes s' × IsLeft s blob place bytes (left_by told) s'
  stands_finished s place bytes none ticket is (StopsAt.unnumbered gone l t) = absurd (never_none number (sym is ∙ gone))
  stands_finished s place bytes none ticket is (StopsAt.numbered gone l t) = absurd (never_none number (sym is ∙ gone))
  stands_finished s place bytes none ticket is (StopsAt.held n version at holds) =
      let same : number ≡ n = some_or_none number n (sym is ∙ at) in
      let here : Holds s blob place bytes number version mid = subst (λ (k : ℕ). Holds s blob place bytes k version mid) (sym same) holds in
      let ends = finished s place bytes version none here in
      (stands_told s blob place bytes number told s' ends.0, ends.1)

pub stands_still : (blob : ℕ) (ticket : Option ℕ) (mid : Session) → ticket ≡ None → StandsAfter blob ticket mid None mid
stands_still blob ticket mid gone s place bytes none stops settled = (StandsAt.hindered ticket stops, settled gone)

-- ---- hanging up

leaves_as : (s : Session) (own : List Event) (a b : Session) → Leaves s own a → b.seen ≡ a.seen → b.caller ≡ a.caller → b.fixed ≡ a.fixed
    → (a.limit ≡ max_update → b.limit ≡ max_update) → Leaves s own b
leaves_as s own a b l seen caller fixed limit = record {
  more = l.more;
  seen = seen ∙ l.seen;
  mine = ap (λ (h : List Event). events_by s.caller h) seen ∙ l.mine;
  caller = caller ∙ l.caller;
  fixed = fixed ∙ l.fixed;
  finishes = λ was. subst (λ (h : List Event). FinishesItsOwn s.fixed.limits h s.caller) (sym seen) (l.finishes was);
  limit = λ was. limit (l.limit was);
}

-- the session's own finish, or nothing
abbrev Reports : Session → HeldTicket → Session → Type 0
Reports s ticket s' = Leaves s [] s' ⊎ Leaves s (Events.Finish s.caller ticket.blob ticket.version ∷ []) s'

reports_as : (s : Session) (ticket : HeldTicket) (a b : Session) → Reports s ticket a → b.seen ≡ a.seen → b.caller ≡ a.caller → b.fixed ≡ a.fixed
    → (a.limit ≡ max_update → b.limit ≡ max_update) → Reports s ticket b
reports_as s ticket a b (inl l) seen caller fixed limit = inl (leaves_as s [] a b l seen caller fixed limit)
reports_as s ticket a b (inr l) seen caller fixed limit = inr (leaves_as s (Events.Finish s.caller ticket.blob ticket.version ∷ []) a b l seen caller fixed limit)

given_up : ReportsLeave → (s : Session) (ticket : HeldTicket) (reply : Reply) (s' : Session) → IsNumberedBy s.fixed.limits s.seen s.caller ticket.blob ticket.version
    → GivenUp AllOther s ticket reply s' → Reports s ticket s'
given_up reports s ticket reply s' numbered a = reports s ticket (Tickets.drop ticket.number) reply s' numbered a

gives_none : (s : Session) (replies : List Reply) (s' : Session) → GivesUp AllOther s [] replies s' → s' ≡ s
gives_none s [] s' same = same
gives_none s (reply ∷ replies) s' never = absurd never

gives_one : ReportsLeave → (s : Session) (ticket : HeldTicket) (replies : List Reply) (s' : Session) → IsNumberedBy s.fixed.limits s.seen s.caller ticket.blob ticket.version
    → GivesUp AllOther s (ticket ∷ []) replies s' → Reports s ticket s'
gives_one reports s ticket [] s' numbered never = absurd never
gives_one reports s ticket (reply ∷ replies) s' numbered gives =
    let same : s' ≡ gives.0 = gives_none gives.0 replies s' gives.2 in
    subst (λ (x : Session). Reports s ticket x) (sym same) (given_up reports s ticket reply gives.0 numbered gives.1)

module _ (s : Session) (counts : GivenUpCounts) (s' : Session) (up : HungUp AllOther s counts s') where
  hung_none : s.tickets ≡ [] → Leaves s [] s'
  hung_none none =
      let same : up.mid ≡ s = gives_none s up.replies up.mid (subst (λ (l : List HeldTicket). GivesUp AllOther s l up.replies up.mid) none up.gives_up) in
      leaves_as s [] s s' (leaves_same s)
      (ap (λ (x : Session). x.seen) up.anew ∙ ap (λ (x : Session). x.seen) same)
      (ap (λ (x : Session). x.caller) up.anew ∙ ap (λ (x : Session). x.caller) same)
      (ap (λ (x : Session). x.fixed) up.anew ∙ ap (λ (x : Session). x.fixed) same)
      (λ was. ap (λ (x : Session). x.limit) up.anew)

  hung_one : ReportsLeave → (ticket : HeldTicket) → s.tickets ≡ ticket ∷ [] → IsNumberedBy s.fixed.limits s.seen s.caller ticket.blob ticket.version → Reports s ticket s'
  hung_one reports ticket one numbered =
      let gave : Reports s ticket up.mid = gives_one reports s ticket up.replies up.mid numbered (subst (λ (l : List HeldTicket). GivesUp AllOther s l up.replies up.mid) one up.gives_up) in
      reports_as s ticket up.mid s' gave (ap (λ (x : Session). x.seen) up.anew) (ap (λ (x : Session). x.caller) up.anew) (ap (λ (x : Session). x.fixed) up.anew)
      (λ was. ap (λ (x : Session). x.limit) up.anew)

module _ (adds : LeavesAdd) (own_held : HoldsItsOwn) (reports : ReportsLeave) (blob : ℕ) (mid : Session) (counts : GivenUpCounts) (s' : Session) (none_held : s'.tickets ≡ [])
    (up : HungUp AllOther mid counts s') where
  module _ (s : Session) (place : Place) (bytes : List ℕ) (none : s.tickets ≡ []) (last : Option Fault) (left : IsLeft s blob place bytes last mid) where
    abbrev this : Event
    this = Events.Assign s.caller blob place bytes

    -- it left this before it hung up, and this by it
    stopped_with : (version : ℕ) (own more rest : List Event) → (own ++ more) ++ rest ≡ update_events s.caller blob place bytes version → Leaves s own mid → Leaves mid more s'
        → (events_by s.caller mid.seen ≡ events_by s.caller s.seen → events_by s.caller s'.seen ≡ events_by s.caller s.seen) → HasHungUp s blob place bytes last s'
    stopped_with version own more rest split first second same = record {
      version = version;
      stopped = record { own = own ++ more; rest = rest; split = split; leaves = adds s mid s' own more first second; none_held = none_held };
      left = left_on s blob place bytes mid s' second.more second.seen same last left;
    }

    -- it held nothing
    same_own : (own : List Event) → Leaves s own mid → Leaves mid [] s' → events_by s.caller mid.seen ≡ events_by s.caller s.seen → events_by s.caller s'.seen ≡ events_by s.caller s.seen
    same_own own first second e =
        subst (λ (c : ℕ). events_by c s'.seen ≡ events_by c mid.seen ++ []) first.caller second.mine ∙ (append-nil (events_by s.caller mid.seen) ∙ e)

    stopped_free : (version : ℕ) (own rest : List Event) → (own ++ []) ++ rest ≡ update_events s.caller blob place bytes version → Leaves s own mid → mid.tickets ≡ []
        → HasHungUp s blob place bytes last s'
    stopped_free version own rest split first gone =
        let second : Leaves mid [] s' = hung_none mid counts s' up gone in
        stopped_with version own [] rest split first second (same_own own first second)

    -- a numbering is an event of its own
    one_more : (l : List Event) → l ++ this ∷ [] ≡ l → ⊥
    one_more [] e = let no : (this ∷ []) ≡ [] = e in cc
    one_more (x ∷ l) e = one_more l cc

    stopped_held : (ticket : HeldTicket) → ticket.blob ≡ blob → Leaves s (this ∷ []) mid → Reports mid ticket s' → HasHungUp s blob place bytes last s'
    stopped_held ticket is l (inl r) =
        stopped_with 0 (this ∷ []) [] (Events.Finish s.caller blob 0 ∷ []) refl l r (λ e. absurd (one_more (events_by s.caller s.seen) (sym l.mine ∙ e)))
    stopped_held ticket is l (inr r) =
        stopped_with ticket.version (this ∷ []) (Events.Finish s.caller blob ticket.version ∷ []) [] refl l
        (subst (λ (b : ℕ). Leaves mid (Events.Finish s.caller b ticket.version ∷ []) s') is (subst (λ (c : ℕ). Leaves mid (Events.Finish c ticket.blob ticket.version ∷ []) s') l.caller r))
        (λ e. absurd (one_more (events_by s.caller s.seen) (sym l.mine ∙ e)))

    stopped_at : (held : Option ℕ) → StopsAt s blob place bytes held mid → HasHungUp s blob place bytes last s'
    stopped_at held (StopsAt.unnumbered gone l t) = stopped_free 0 [] (update_events s.caller blob place bytes 0) refl l (t ∙ none)
    stopped_at held (StopsAt.numbered gone l t) = stopped_free 0 (this ∷ []) (Events.Finish s.caller blob 0 ∷ []) refl l (t ∙ none)
    stopped_at held (StopsAt.held number version at h) =
        let ticket : HeldTicket = record { number = number; blob = blob; version = version } in
        let one : mid.tickets ≡ ticket ∷ [] = h.tickets ∙ ap (λ (ts : List HeldTicket). ts ++ ticket ∷ []) none in
        stopped_held ticket refl h.leaves (hung_one mid counts s' up reports ticket one (own_held s blob place bytes number version mid h))

    pub hung_at : StandsAt s blob place bytes mid → HasHungUp s blob place bytes last s'
    hung_at (StandsAt.hindered ticket stops) = stopped_at ticket stops
    hung_at (StandsAt.finished done) = stopped_free done.version (update_events s.caller blob place bytes done.version) [] refl done.leaves done.none_held

-- a session that hung up as it stopped at an update
pub hung_up_for : LeavesAdd → HoldsItsOwn → ReportsLeave → (blob : ℕ) (held : Option ℕ) (last : Option Fault) (old mid : Session) (counts : GivenUpCounts) (s' : Session) → s'.tickets ≡ []
    → HungUp AllOther mid counts s' → StandsAfter blob held old last mid → HungUpFor blob held old last s'
hung_up_for adds own_held reports blob held last old mid counts s' none_held up stands s place bytes none stops settled =
    let stood = stands s place bytes none stops settled in
    hung_at adds own_held reports blob mid counts s' none_held up s place bytes none last stood.1 stood.0

-- what hindered the update stands once it hung up
pub stopped : HindrancesStay → (s : Session) (blob : ℕ) (place : Place) (bytes : List ℕ) (stop : Stopped) (held : Option ℕ) (mid s' : Session) (later : List Event) → s'.seen ≡ mid.seen ++ later
    → s.tickets ≡ [] → IsHindered s blob place bytes stop.fault held mid → HungUpFor blob held mid stop.left s' → IsStopped s blob place bytes stop s'
stopped stay s blob place bytes stop held mid s' later seen none hindered hung =
    let up : HasHungUp s blob place bytes stop.left s' = hung s place bytes none hindered.stops hindered.settled in
    record {
      version = up.version;
      stopped = up.stopped;
      more = hindered.more;
      of_others = hindered.of_others;
      hindered =
          subst (λ (h : List Event). UpdateHindered s.fixed.limits s.fixed.page s.caller blob place bytes (s.seen ++ hindered.more) h stop.fault) (sym seen)
          (stay s.fixed.limits s.fixed.page s.caller blob place bytes (s.seen ++ hindered.more) mid.seen later stop.fault hindered.hindered);
      left = up.left;
    }
