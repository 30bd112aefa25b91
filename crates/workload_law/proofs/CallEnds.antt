-- How a call ends, by the answer to it.
use Rattle.std.proofs.Common.{◌≡◌, ◌≢◌, ◌⊎◌, inl, inr, ℕ, Bool, true, if◌then◌else◌, List, [], ◌∷◌, ◌++◌, refl, sym, ap, subst, ◌∙◌, append_assoc, append-nil, arith}
use Rattle.std.specs.Prelude.{Option, Some, None, Contains}
use Rattle.std.specs.List.{AllByRecursion}
use Rattle.std.proofs.lemmas.Bool.{eq-eqb}
use Rattle.std.proofs.lemmas.List.{append_cancel_left, append_cancel_right}
use Rattle.blob_model.specs.Limits.{Bounds}
use Rattle.blob_model.specs.Answer.{answer, repair_refusal}
use Rattle.blob_model.specs.History.{store_of, finishes, events_by, AllOther}
use Rattle.blob_model.specs.Laws.{FinishedByEvents, OldVersionsStay}
use Rattle.blob_model.specs.declared.call.Call.{Call}
use Rattle.blob_model.specs.declared.call.Call.TheVariants as Calls
use Rattle.blob_model.specs.declared.call.Event.{Event}
use Rattle.blob_model.specs.declared.call.Event.TheVariants as Events
use Rattle.blob_model.specs.declared.call.Outcome.TheVariants as Outcomes
use Rattle.blob_model.specs.declared.call.Place.{Place}
use Rattle.blob_model.specs.declared.call.Refusal.{Refusal}
use Rattle.blob_model.specs.declared.call.Refusal.TheVariants as Refusals
use Rattle.request_form.specs.Session.{Fixed, HeldTicket, Session, sees, store_at, outcome_at, ticket_at, without_ticket}
use Rattle.request_form.specs.Replies.{fault_of}
use Rattle.request_form.specs.Turns.{Tickets, Turn, with_tickets, and_made}
use Rattle.request_form.specs.Answers.{AddTurn, UnnumberedTurn, WholeTurn, FinishTurn, UpdateAnswer, WholeAnswer, FinishAnswer, folds_in}
use Rattle.request_form.specs.declared.form.Reply.{Reply}
use Rattle.request_form.specs.declared.form.Reply.TheVariants as Replies
use Rattle.request_form.specs.declared.form.Fault.{Fault}
use Rattle.request_form.specs.declared.form.Fault.TheVariants as Faults
use Rattle.request_form.proofs.Looks.{other-append}
use Rattle.request_form.proofs.Own.{none_own, events_by-append}
use Rattle.request_form.proofs.Runs.{changed_grows}
use Rattle.workload_law.specs.Numbered.{IsNumberedBy}
use Rattle.workload_law.specs.Sessions.{FinishesItsOwn}
use Rattle.workload_law.specs.Ends.{IsOutside, IsPageOf, RefusedAt, CreateHindered, UpdateHindered, Leaves, Holds, StopsAt, ticket_of, CreateEnds, CreatesEnd, UpdateEnds, FinishEnds, HindrancesStay, LeavesAdd, StopsLater, HoldsLater, LooksLeaveNone, ReportsLeave}
use Rattle.workload_law.proofs.Later.{outside_as, already_by_events, fold_within}
use Rattle.workload_law.proofs.OneCaller.{is_placed, numbered_stays}
use Rattle.workload_law.proofs.OwnEvents.{IsOfItsOwn, no_first, none_parts, event_made, numbering_made, update_made, own_after, numbering_is_own, owns_more, numbers_own}

-- ---- what a turn leaves
same_limit : (t : Tickets) (s : Session) → (with_tickets t s).limit ≡ s.limit
same_limit Tickets.stay s = refl
same_limit (Tickets.hold blob version) s = refl
same_limit (Tickets.drop number) s = refl
same_limit (Tickets.let_go blob version) s = refl

same_tickets : (s : Session) (more : List Event) (s' : Session) → s' ≡ sees s more → s'.tickets ≡ s.tickets
same_tickets s more s' e = ap (λ (x : Session). x.tickets) e

-- whatever becomes of the session's tickets
module _ (t : Tickets) (s s' : Session) where
  left : (own more : List Event) → s' ≡ with_tickets t (sees s more) → events_by s.caller more ≡ own → AllByRecursion (IsOfItsOwn s.fixed.limits (s.seen ++ more)) own → Leaves s own s'
  left own more e mine numbered =
      let grows = changed_grows t s more s' e in
      record {
        more = more;
        seen = grows.seen;
        mine = ap (λ (h : List Event). events_by s.caller h) grows.seen ∙ own_after s.caller s.seen more own mine;
        caller = grows.caller;
        fixed = grows.fixed;
        finishes = λ was. subst (λ (h : List Event). FinishesItsOwn s.fixed.limits h s.caller) (sym grows.seen) (owns_more s.fixed.limits s.caller s.seen more own mine numbered was);
        limit = λ was. ap (λ (x : Session). x.limit) e ∙ (same_limit t (sees s more) ∙ was);
      }

  -- others alone came
  left_others : (others : List Event) → AllOther s.caller others → s' ≡ with_tickets t (sees s others) → Leaves s [] s'
  left_others others gap e = left [] others e (none_own s.caller others gap) tt

  -- others came, and then the finish of what had been numbered
  left_finish : (blob version : ℕ) (others : List Event) → AllOther s.caller others → IsNumberedBy s.fixed.limits s.seen s.caller blob version
      → s' ≡ with_tickets t (sees s (others ++ Events.Finish s.caller blob version ∷ [])) → Leaves s (Events.Finish s.caller blob version ∷ []) s'
  left_finish blob version others gap numbered e =
      let finish : Event = Events.Finish s.caller blob version in
      left (finish ∷ []) (others ++ finish ∷ []) e (event_made s.caller others finish gap refl)
      (numbered_stays s.fixed.limits s.seen (others ++ finish ∷ []) s.caller blob version numbered, tt)

module _ (s : Session) (blob : ℕ) (place : Place) (bytes : List ℕ) (s' : Session) (others later : List Event) (gap : AllOther s.caller others) (next : AllOther s.caller later) (version at size : ℕ)
    (numbered : outcome_at s others (Calls.Assign blob place bytes) ≡ Outcomes.Assigned version at size) where
  -- it was numbered alone
  left_numbered : (t : Tickets) → s' ≡ with_tickets t (sees s (others ++ Events.Assign s.caller blob place bytes ∷ later)) → Leaves s (Events.Assign s.caller blob place bytes ∷ []) s'
  left_numbered t e =
      let this : Event = Events.Assign s.caller blob place bytes in
      left t s s' (this ∷ []) (others ++ this ∷ later) e (numbering_made s.caller blob version place bytes others later gap next) (tt, tt)

  -- it was finished too
  left_updated : s' ≡ sees s (others ++ Events.Assign s.caller blob place bytes ∷ (later ++ Events.Finish s.caller blob version ∷ []))
      → Leaves s (Events.Assign s.caller blob place bytes ∷ Events.Finish s.caller blob version ∷ []) s'
  left_updated e =
      let this : Event = Events.Assign s.caller blob place bytes in
      let last : List Event = Events.Finish s.caller blob version ∷ [] in
      left Tickets.stay s s' (this ∷ last) (others ++ this ∷ (later ++ last)) e (update_made s.caller blob version place bytes others later gap next)
      (tt, (numbers_own s.fixed.limits s.caller blob version at size place bytes s.seen others (later ++ last) numbered, tt))

  -- it is held under a ticket
  holds : s' ≡ with_tickets (Tickets.hold blob version) (sees s (others ++ Events.Assign s.caller blob place bytes ∷ later)) → Holds s blob place bytes s.next version s'
  holds e = record {
    leaves = left_numbered (Tickets.hold blob version) e;
    before = s.seen ++ others;
    later = later;
    at = at;
    size = size;
    split = ap (λ (x : Session). x.seen) e ∙ sym (append_assoc s.seen others (Events.Assign s.caller blob place bytes ∷ later));
    numbered = numbered;
    is_gap = next;
    tickets = ap (λ (x : Session). x.tickets) e;
  }

-- the store's refusal
refused_at : (s s' : Session) (call : Call) (others : List Event) → AllOther s.caller others → (refusal : Refusal) → outcome_at s others call ≡ Outcomes.Refused refusal → s' ≡ sees s others
    → RefusedAt s.fixed.limits s.caller call s.seen s'.seen (fault_of refusal)
refused_at s s' call others gap refusal refused seen = record {
  others = others;
  rest = [];
  is_gap = gap;
  split = ap (λ (x : Session). x.seen) seen ∙ sym (append-nil (s.seen ++ others));
  refusal = refusal;
  refused = refused;
  is = refl;
}

module _ (s : Session) (blob : ℕ) (place : Place) (bytes : List ℕ) (reply : Reply) (s' : Session) where
  abbrev Ends : Type 0
  Ends = UpdateEnds s blob place bytes reply s'

  abbrev this : Event
  this = Events.Assign s.caller blob place bytes

  -- numbered, and what the turn after that came to
  numbered_ends : (others later : List Event) → AllOther s.caller others → AllOther s.caller later → (version at size : ℕ)
      → outcome_at s others (Calls.Assign blob place bytes) ≡ Outcomes.Assigned version at size → (turn : Turn)
      → WholeTurn s blob place version at size (others ++ this ∷ later) later turn → reply ≡ turn.said
      → s' ≡ with_tickets turn.tickets (sees s (others ++ this ∷ and_made later turn.made)) → Ends
  numbered_ends others later gap next version at size numbered _ (WholeTurn.finished none ready) said seen =
      UpdateEnds.does version at size said (left_updated s blob place bytes s' others later gap next version at size numbered seen)
      (same_tickets s (others ++ this ∷ (later ++ Events.Finish s.caller blob version ∷ [])) s' seen)
  numbered_ends others later gap next version at size numbered _ (WholeTurn.found found) said seen =
      let long : s'.seen ≡ (s.seen ++ others) ++ this ∷ (later ++ []) =
      ap (λ (x : Session). x.seen) seen ∙ (sym (append_assoc s.seen others (this ∷ later)) ∙ ap (λ (l : List Event). (s.seen ++ others) ++ this ∷ l) (sym (append-nil later))) in
      UpdateEnds.hinders (Faults.Already version) said (λ limit same. cc)
      (UpdateHindered.finished (s.seen ++ others) later [] version at size long numbered next found)
      (StopsAt.numbered refl (left_numbered s blob place bytes s' others later gap next version at size numbered Tickets.stay seen) (same_tickets s (others ++ this ∷ later) s' seen))
  numbered_ends others later gap next version at size numbered _ (WholeTurn.held_back none folds) said seen =
      let here = is_placed (store_of s.fixed.limits (s.seen ++ others)) s.caller blob place bytes version at size numbered in
      UpdateEnds.held_back s.next version at size said (omega (arith, here.next)) (holds s blob place bytes s' others later gap next version at size numbered seen)
  numbered_ends others later gap next version at size numbered _ WholeTurn.out_of_memory said seen =
      UpdateEnds.hinders (Faults.NoMemoryTicket s.next) said (λ limit same. cc) (UpdateHindered.outside (IsOutside.held s.next refl))
      (StopsAt.held s.next version refl (holds s blob place bytes s' others later gap next version at size numbered seen))

  -- hindered before it was numbered
  unnumbered : (others : List Event) → AllOther s.caller others → (fault : Fault) → UpdateHindered s.fixed.limits s.fixed.page s.caller blob place bytes s.seen s'.seen fault
      → ((limit : ℕ) → fault ≢ Faults.TooManyOpen limit) → ticket_of fault ≡ None → reply ≡ Replies.Refused fault → s' ≡ sees s others → Ends
  unnumbered others gap fault why other none said seen =
      UpdateEnds.hinders fault said other why (StopsAt.unnumbered none (left_others Tickets.stay s s' others gap seen) (same_tickets s others s' seen))

  by_refusal : (others : List Event) → AllOther s.caller others → (refusal : Refusal)
      → outcome_at s others (Calls.Assign blob place bytes) ≡ Outcomes.Refused refusal → reply ≡ Replies.Refused (fault_of refusal) → s' ≡ sees s others
      → Ends
  by_refusal others gap (Refusals.TooManyOpen limit) refused said seen = UpdateEnds.full limit said (left_others Tickets.stay s s' others gap seen) (same_tickets s others s' seen)
  by_refusal others gap refusal refused said seen =
      let other : (limit : ℕ) → fault_of refusal ≢ Faults.TooManyOpen limit = λ limit same. cc in
      unnumbered others gap (fault_of refusal) (UpdateHindered.refused (refused_at s s' (Calls.Assign blob place bytes) others gap refusal refused seen) other) other refl said seen

  unnumbered_ends : (others : List Event) → AllOther s.caller others → (turn : Turn) → UnnumberedTurn s blob place bytes others turn → reply ≡ turn.said
      → s' ≡ with_tickets turn.tickets (sees s (and_made others turn.made)) → Ends
  unnumbered_ends others gap _ (UnnumberedTurn.refused refusal refused) said seen = by_refusal others gap refusal refused said seen
  unnumbered_ends others gap _ UnnumberedTurn.out_of_memory said seen =
      unnumbered others gap Faults.NoMemory (UpdateHindered.outside (IsOutside.starved refl)) (λ limit same. cc) refl said seen
  unnumbered_ends others gap _ (UnnumberedTurn.not_stored page is stored) said seen =
      unnumbered others gap (Faults.PageFault page) (UpdateHindered.outside (IsOutside.lost page (IsPageOf.of_bytes is) refl)) (λ limit same. cc) refl said seen

  pub updates_ended : WholeAnswer AllOther s blob place bytes reply s' → Ends
  updates_ended (UpdateAnswer.once a) = unnumbered_ends a.others a.is_gap a.turn a.may a.said a.seen
  updates_ended (UpdateAnswer.twice a) = numbered_ends a.others a.later a.is_gap a.is_gap_later a.version a.at a.size a.numbered a.turn a.may a.said a.seen

-- ---- blobs
create_ends : (s : Session) (reply : Reply) (s' : Session) (others : List Event) → AllOther s.caller others → (turn : Turn) → AddTurn s Calls.Create others turn → reply ≡ turn.said
    → s' ≡ with_tickets turn.tickets (sees s (and_made others turn.made)) → CreateEnds s reply s'
create_ends s reply s' others gap _ (AddTurn.added blob e) said seen =
    let create : Event = Events.Create s.caller in
    CreateEnds.does blob said (left Tickets.stay s s' (create ∷ []) (others ++ create ∷ []) seen (event_made s.caller others create gap refl) (tt, tt))
    (same_tickets s (others ++ create ∷ []) s' seen)
create_ends s reply s' others gap _ (AddTurn.refused refusal refused) said seen =
    CreateEnds.hinders (fault_of refusal) said (CreateHindered.refused (refused_at s s' Calls.Create others gap refusal refused seen))
    (left_others Tickets.stay s s' others gap seen) (same_tickets s others s' seen)
create_ends s reply s' others gap _ AddTurn.out_of_memory said seen =
    CreateEnds.hinders Faults.NoMemory said (CreateHindered.outside (IsOutside.starved refl)) (left_others Tickets.stay s s' others gap seen) (same_tickets s others s' seen)

pub creates_ended : CreatesEnd
creates_ended s reply s' a = create_ends s reply s' a.others a.is_gap a.turn a.may a.said a.seen

-- ---- as more is seen
more_refused : (limits : Bounds) (caller : ℕ) (call : Call) (first seen more : List Event) (fault : Fault) → RefusedAt limits caller call first seen fault
    → RefusedAt limits caller call first (seen ++ more) fault
more_refused limits caller call first seen more fault r = record {
  others = r.others;
  rest = r.rest ++ more;
  is_gap = r.is_gap;
  split = ap (λ (l : List Event). l ++ more) r.split ∙ append_assoc (first ++ r.others) r.rest more;
  refusal = r.refusal;
  refused = r.refused;
  is = r.is;
}

page_stays : (limits : Bounds) (p caller blob : ℕ) (place : Place) (bytes : List ℕ) (first seen more : List Event) (page : ℕ)
    → IsPageOf limits p caller blob place bytes first seen page → IsPageOf limits p caller blob place bytes first (seen ++ more) page
page_stays limits p caller blob place bytes first seen more page (IsPageOf.of_bytes lt) = IsPageOf.of_bytes lt
page_stays limits p caller blob place bytes first seen more page (IsPageOf.of_blob before rest version at size split own numbered within) =
    IsPageOf.of_blob before (rest ++ more) version at size
    (ap (λ (l : List Event). l ++ more) split ∙ append_assoc before (Events.Assign caller blob place bytes ∷ rest) more)
    own numbered within

pub hindrances_stay : HindrancesStay
hindrances_stay limits p caller blob place bytes first seen more fault (UpdateHindered.outside out) =
    UpdateHindered.outside
    (outside_as (IsPageOf limits p caller blob place bytes first seen) (IsPageOf limits p caller blob place bytes first (seen ++ more))
    (page_stays limits p caller blob place bytes first seen more) fault out)
hindrances_stay limits p caller blob place bytes first seen more fault (UpdateHindered.refused r other) =
    UpdateHindered.refused (more_refused limits caller (Calls.Assign blob place bytes) first seen more fault r) other
hindrances_stay limits p caller blob place bytes first seen more fault (UpdateHindered.finished before later rest version at size split numbered gap found) =
    let this : Event = Events.Assign caller blob place bytes in
    UpdateHindered.finished before later (rest ++ more) version at size
    (ap (λ (l : List Event). l ++ more) split ∙ (append_assoc before (this ∷ (later ++ rest)) more ∙ ap (λ (l : List Event). before ++ this ∷ l) (append_assoc later rest more)))
    numbered gap found

-- ---- what calls leave
pub leaves_add : LeavesAdd
leaves_add s mid s' own more first second =
    let mine : events_by s.caller s'.seen ≡ events_by s.caller mid.seen ++ more =
    subst (λ (c : ℕ). events_by c s'.seen ≡ events_by c mid.seen ++ more) first.caller second.mine in
    let finishes : FinishesItsOwn s.fixed.limits mid.seen s.caller → FinishesItsOwn s.fixed.limits s'.seen s.caller =
    subst (λ (f : Fixed). FinishesItsOwn f.limits mid.seen s.caller → FinishesItsOwn f.limits s'.seen s.caller) first.fixed
    (subst (λ (c : ℕ). FinishesItsOwn mid.fixed.limits mid.seen c → FinishesItsOwn mid.fixed.limits s'.seen c) first.caller second.finishes) in
    record {
      more = first.more ++ second.more;
      seen = second.seen ∙ (ap (λ (l : List Event). l ++ second.more) first.seen ∙ append_assoc s.seen first.more second.more);
      mine = mine ∙ (ap (λ (l : List Event). l ++ more) first.mine ∙ append_assoc (events_by s.caller s.seen) own more);
      caller = second.caller ∙ first.caller;
      fixed = second.fixed ∙ first.fixed;
      finishes = λ was. finishes (first.finishes was);
      limit = λ was. second.limit (first.limit was);
    }

pub looks_leave_none : LooksLeaveNone
looks_leave_none s call reply s' look = (left_others Tickets.stay s s' look.others look.is_gap look.seen, same_tickets s look.others s' look.seen)

module _ (s : Session) (ticket : HeldTicket) (hindered : Tickets) (s' : Session) (numbered : IsNumberedBy s.fixed.limits s.seen s.caller ticket.blob ticket.version) (others : List Event)
    (gap : AllOther s.caller others) where
  leave_by : (turn : Turn) → FinishTurn s ticket.blob ticket.version (λ published. Replies.Finished published) (Tickets.drop ticket.number) hindered others turn
      → s' ≡ with_tickets turn.tickets (sees s (and_made others turn.made)) → Leaves s [] s' ⊎ Leaves s (Events.Finish s.caller ticket.blob ticket.version ∷ []) s'
  leave_by _ (FinishTurn.finished published unfinished ready e) seen = inr (left_finish (Tickets.drop ticket.number) s s' ticket.blob ticket.version others gap numbered seen)
  leave_by _ (FinishTurn.found e) seen = inl (left_others (Tickets.drop ticket.number) s s' others gap seen)
  leave_by _ (FinishTurn.waits held unfinished folds e) seen = inl (left_others hindered s s' others gap seen)
  leave_by _ (FinishTurn.not_folded page unfinished fold ready) seen = inl (left_others hindered s s' others gap seen)
  leave_by _ FinishTurn.out_of_memory seen = inl (left_others hindered s s' others gap seen)

pub reports_leave : ReportsLeave
reports_leave s ticket hindered reply s' numbered a = leave_by s ticket hindered s' numbered a.others a.is_gap a.turn a.may a.seen

-- ---- updates that are held

-- those of others alone have no own events
all_other : (caller : ℕ) (es : List Event) → events_by caller es ≡ [] → AllOther caller es
all_other caller [] none = tt
all_other caller (e ∷ es) none = (λ own. no_first caller e es own none, all_other caller es (none_parts caller (e ∷ []) es none).1)

pub none_after : (xs ys : List Event) → xs ++ ys ≡ xs → ys ≡ []
none_after xs ys e = append_cancel_left xs ys [] (e ∙ sym (append-nil xs))

-- what came while nothing of the session's own did is others'
others_since : (s s' : Session) (l : Leaves s [] s') → AllOther s.caller l.more
others_since s s' l =
    all_other s.caller l.more
    (none_after (events_by s.caller s.seen) (events_by s.caller l.more)
    (sym (events_by-append s.caller s.seen l.more) ∙ (ap (λ (h : List Event). events_by s.caller h) (sym l.seen) ∙ (l.mine ∙ append-nil (events_by s.caller s.seen)))))

module _ (s mid : Session) (blob : ℕ) (place : Place) (bytes : List ℕ) (number version : ℕ) (h : Holds s blob place bytes number version mid) where
  caller_stays : mid.caller ≡ s.caller
  caller_stays = h.leaves.caller

  pub holds_stay : (s' : Session) → Leaves mid [] s' → s'.tickets ≡ mid.tickets → Holds s blob place bytes number version s'
  holds_stay s' l same = record {
    leaves = leaves_add s mid s' (Events.Assign s.caller blob place bytes ∷ []) [] h.leaves l;
    before = h.before;
    later = h.later ++ l.more;
    at = h.at;
    size = h.size;
    split = l.seen ∙ (ap (λ (x : List Event). x ++ l.more) h.split ∙ append_assoc h.before (Events.Assign s.caller blob place bytes ∷ h.later) l.more);
    numbered = h.numbered;
    is_gap = other-append s.caller h.later l.more h.is_gap (subst (λ (c : ℕ). AllOther c l.more) caller_stays (others_since mid s' l));
    tickets = same ∙ h.tickets;
  }

  pub holds_own : IsNumberedBy mid.fixed.limits mid.seen mid.caller blob version
  holds_own =
      subst (λ (f : Fixed). IsNumberedBy f.limits mid.seen mid.caller blob version) (sym h.leaves.fixed)
      (subst (λ (c : ℕ). IsNumberedBy s.fixed.limits mid.seen c blob version) (sym caller_stays)
      (record { before = h.before; after = h.later; place = place; bytes = bytes; at = h.at; size = h.size; split = h.split; answered = h.numbered }))

  -- what the session's own had come to when it was numbered
  pub own_before : events_by s.caller h.before ≡ events_by s.caller s.seen
  own_before =
      append_cancel_right (events_by s.caller h.before) (events_by s.caller s.seen) (Events.Assign s.caller blob place bytes ∷ [])
      (sym (numbering_is_own s.caller blob place bytes h.before [] h.later tt h.is_gap) ∙ (ap (λ (l : List Event). events_by s.caller l) (sym h.split) ∙ h.leaves.mine))

  -- a page that it stores anew is one that it can lose
  pub folded_page : OldVersionsStay → (s' : Session) (others : List Event) → s'.seen ≡ mid.seen ++ others → (page : ℕ) → Contains (folds_in mid.fixed.page (store_at mid others) blob version) page
      → IsPageOf s.fixed.limits s.fixed.page s.caller blob place bytes s.seen s'.seen page
  folded_page stay s' others seen page folds =
      let this : Event = Events.Assign s.caller blob place bytes in
      let all : List Event = h.later ++ others in
      let split : mid.seen ++ others ≡ h.before ++ this ∷ all = ap (λ (x : List Event). x ++ others) h.split ∙ append_assoc h.before (this ∷ h.later) others in
      let fold : Contains (folds_in s.fixed.page (store_of s.fixed.limits (h.before ++ this ∷ all)) blob version) page =
      subst (λ (x : List Event). Contains (folds_in s.fixed.page (store_of s.fixed.limits x) blob version) page) split
      (subst (λ (x : Fixed). Contains (folds_in x.page (store_of x.limits (mid.seen ++ others)) blob version) page) h.leaves.fixed folds) in
      IsPageOf.of_blob h.before all version h.at h.size (seen ∙ split) own_before h.numbered
      (fold_within s.fixed.limits s.caller blob place bytes version h.at h.size h.before all h.numbered stay s.fixed.page page fold)

  abbrev pub its_ticket : HeldTicket
  its_ticket = record { number = number; blob = blob; version = version }

  one_ticket : s.tickets ≡ [] → mid.tickets ≡ its_ticket ∷ []
  one_ticket none = h.tickets ∙ ap (λ (ts : List HeldTicket). ts ++ its_ticket ∷ []) none

  pub found_at : s.tickets ≡ [] → ticket_at mid.tickets number ≡ Some its_ticket
  found_at none =
      ap (λ (ts : List HeldTicket). ticket_at ts number) (one_ticket none)
      ∙ ap (λ (t : Bool). if t then Some its_ticket else None) (eq-eqb number number refl)

  -- another caller had finished it
  pub found_done : FinishedByEvents → (others : List Event) → repair_refusal (store_at mid others) blob version ≡ Some (Refusals.Already version) → finishes blob version (h.later ++ others) ≡ true
  found_done by_events others already =
      let this : Event = Events.Assign s.caller blob place bytes in
      let split : mid.seen ++ others ≡ h.before ++ this ∷ (h.later ++ others) = ap (λ (x : List Event). x ++ others) h.split ∙ append_assoc h.before (this ∷ h.later) others in
      already_by_events s.fixed.limits s.caller blob place bytes version h.at h.size h.before (h.later ++ others) h.numbered by_events
      (subst (λ (x : List Event). repair_refusal (store_of s.fixed.limits x) blob version ≡ Some (Refusals.Already version)) split
      (subst (λ (f : Fixed). repair_refusal (store_of f.limits (mid.seen ++ others)) blob version ≡ Some (Refusals.Already version)) h.leaves.fixed already))

  module _ (by_events : FinishedByEvents) (stay : OldVersionsStay) (none : s.tickets ≡ []) (reply : Reply) (s' : Session) where
    given_up : without_ticket mid.tickets number ≡ s.tickets
    given_up =
        ap (λ (ts : List HeldTicket). without_ticket ts number) (one_ticket none)
        ∙ (ap (λ (t : Bool). let ts : List HeldTicket = (if t then [] else its_ticket ∷ []) in ts) (eq-eqb number number refl) ∙ sym none)

    -- it is done
    finish_does : (others : List Event) → AllOther mid.caller others → (published : ℕ) → reply ≡ Replies.Finished published
        → s' ≡ with_tickets (Tickets.drop number) (sees mid (others ++ Events.Finish mid.caller blob version ∷ [])) → FinishEnds s blob place bytes number version reply s'
    finish_does others gap published said seen =
        FinishEnds.does published said
        (leaves_add s mid s' (Events.Assign s.caller blob place bytes ∷ []) (Events.Finish s.caller blob version ∷ []) h.leaves
        (subst (λ (c : ℕ). Leaves mid (Events.Finish c blob version ∷ []) s') caller_stays (left_finish (Tickets.drop number) mid s' blob version others gap holds_own seen)))
        (ap (λ (x : Session). x.tickets) seen ∙ given_up)

    -- another caller had done it
    done_by_another : (others : List Event) → AllOther mid.caller others → repair_refusal (store_at mid others) blob version ≡ Some (Refusals.Already version)
        → reply ≡ Replies.Refused (Faults.Already version) → s' ≡ with_tickets (Tickets.drop number) (sees mid others) → FinishEnds s blob place bytes number version reply s'
    done_by_another others gap already said is =
        let this : Event = Events.Assign s.caller blob place bytes in
        let l : Leaves mid [] s' = left_others (Tickets.drop number) mid s' others gap is in
        let all : List Event = h.later ++ others in
        let seen : s'.seen ≡ h.before ++ this ∷ (all ++ []) =
        ap (λ (x : Session). x.seen) is ∙ (ap (λ (x : List Event). x ++ others) h.split ∙ (append_assoc h.before (this ∷ h.later) others ∙ ap (λ (x : List Event). h.before ++ this ∷ x) (sym (append-nil all)))) in
        let both : AllOther s.caller all = other-append s.caller h.later others h.is_gap (subst (λ (c : ℕ). AllOther c others) caller_stays gap) in
        FinishEnds.hinders (Faults.Already version) said (λ earlier least same. cc)
        (UpdateHindered.finished h.before all [] version h.at h.size seen h.numbered both (found_done by_events others already))
        (StopsAt.numbered refl (leaves_add s mid s' (this ∷ []) [] h.leaves l) (ap (λ (x : Session). x.tickets) is ∙ given_up))

    -- it was hindered, and is held as before
    still_holds : (others : List Event) → AllOther mid.caller others → s' ≡ sees mid others → Holds s blob place bytes number version s'
    still_holds others gap seen = holds_stay s' (left_others Tickets.stay mid s' others gap seen) (same_tickets mid others s' seen)

    by_turn : (others : List Event) → AllOther mid.caller others → (turn : Turn) → FinishTurn mid blob version (λ published. Replies.Finished published) (Tickets.drop number) Tickets.stay others turn
        → reply ≡ turn.said → s' ≡ with_tickets turn.tickets (sees mid (and_made others turn.made)) → FinishEnds s blob place bytes number version reply s'
    by_turn others gap _ (FinishTurn.finished published unfinished ready e) said seen = finish_does others gap published said seen
    by_turn others gap _ (FinishTurn.found e) said seen = done_by_another others gap e said seen
    by_turn others gap _ (FinishTurn.waits held unfinished folds e) said seen = FinishEnds.waits held said (still_holds others gap seen)
    by_turn others gap _ (FinishTurn.not_folded page unfinished fold ready) said seen =
        FinishEnds.hinders (Faults.PageFault page) said (λ earlier least same. cc)
        (UpdateHindered.outside (IsOutside.lost page (folded_page stay s' others (ap (λ (x : Session). x.seen) seen) page fold) refl)) (StopsAt.held number version refl (still_holds others gap seen))
    by_turn others gap _ FinishTurn.out_of_memory said seen =
        FinishEnds.hinders Faults.NoMemory said (λ earlier least same. cc) (UpdateHindered.outside (IsOutside.starved refl)) (StopsAt.held number version refl (still_holds others gap seen))

    by_answer : FinishAnswer AllOther mid number (Some its_ticket) reply s' → FinishEnds s blob place bytes number version reply s'
    by_answer a = by_turn a.others a.is_gap a.turn a.may a.said a.seen

    pub finish_ended : FinishAnswer AllOther mid number (ticket_at mid.tickets number) reply s' → FinishEnds s blob place bytes number version reply s'
    finish_ended a = by_answer (subst (λ (o : Option HeldTicket). FinishAnswer AllOther mid number o reply s') (found_at none) a)

-- ---- from an earlier moment on
pub holds_later : HoldsLater
holds_later s mid s' blob place bytes number version first same h = record {
  leaves =
      leaves_add s mid s' [] (Events.Assign s.caller blob place bytes ∷ []) first
      (subst (λ (c : ℕ). Leaves mid (Events.Assign c blob place bytes ∷ []) s') first.caller h.leaves);
  before = h.before;
  later = h.later;
  at = h.at;
  size = h.size;
  split = subst (λ (c : ℕ). s'.seen ≡ h.before ++ Events.Assign c blob place bytes ∷ h.later) first.caller h.split;
  numbered =
      subst (λ (f : Fixed). (answer (store_of f.limits h.before) s.caller (Calls.Assign blob place bytes)).1 ≡ Outcomes.Assigned version h.at h.size) first.fixed
      (subst (λ (c : ℕ). (answer (store_of mid.fixed.limits h.before) c (Calls.Assign blob place bytes)).1 ≡ Outcomes.Assigned version h.at h.size) first.caller h.numbered);
  is_gap = subst (λ (c : ℕ). AllOther c h.later) first.caller h.is_gap;
  tickets = h.tickets ∙ ap (λ (l : List HeldTicket). l ++ record { number = number; blob = blob; version = version } ∷ []) same;
}

pub stops_later : StopsLater
stops_later s mid s' blob place bytes ticket first same (StopsAt.unnumbered none l t) = StopsAt.unnumbered none (leaves_add s mid s' [] [] first l) (t ∙ same)
stops_later s mid s' blob place bytes ticket first same (StopsAt.numbered none l t) =
    StopsAt.numbered none
    (leaves_add s mid s' [] (Events.Assign s.caller blob place bytes ∷ []) first (subst (λ (c : ℕ). Leaves mid (Events.Assign c blob place bytes ∷ []) s') first.caller l)) (t ∙ same)
stops_later s mid s' blob place bytes ticket first same (StopsAt.held number version is h) = StopsAt.held number version is (holds_later s mid s' blob place bytes number version first same h)
