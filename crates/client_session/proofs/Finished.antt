-- The ways in which an update is finished, or isn't, each told of the session without its tickets.
use Rattle.std.proofs.Common.{◌≡◌, ◌≢◌, refl, sym, ◌∙◌, ap, subst, ℕ, ◌+◌, ◌-◌, ◌≤◌, false, List, [], ◌++◌, append-nil, length, Option, Some, None, Result, Ok, Err, arith}
use Rattle.std.specs.Prelude.{Contains}
use Rattle.std.proofs.lemmas.List.{map-append}
use Rattle.blob_model.specs.Store.{Store, Blob, blob_at, assigned, published, is_finished}
use Rattle.blob_model.specs.Answer.{answer, repair_refusal}
use Rattle.blob_model.specs.History.{AllOther, store_of}
use Rattle.blob_model.specs.declared.call.Call.{Call}
use Rattle.blob_model.specs.declared.call.Call.TheVariants as Calls
use Rattle.blob_model.specs.declared.call.Event.{Event}
use Rattle.blob_model.specs.declared.call.Event.TheVariants as Events
use Rattle.blob_model.specs.declared.call.Outcome.TheVariants as Outcomes
use Rattle.blob_model.specs.declared.call.Refusal.{Refusal}
use Rattle.blob_model.specs.declared.call.Refusal.TheVariants as Refusals
use Rattle.border_hints.specs.Numbered.{NumberedUpdate}
use Rattle.border_hints.specs.Numbered.{IsValidTicket as IsWellNumbered}
use Rattle.faults.specs.Counts.{RoseBy}
use Rattle.page_store.specs.Count.{HasRisen}
use Rattle.tree_weaver.specs.Anew.{IsStoredAnew, OnLostFold}
use Rattle.tree_weaver.specs.declared.folding.WeaveFault.{WeaveFault}
use Rattle.tree_weaver.specs.declared.folding.WeaveFault.TheVariants as WeaveFaults
use Rattle.version_manager.specs.Desks.{IsTicketOf, updates_in, updates_or_none, published_or_none, finished_or_not, OnRefused, OnNoMemory, store_now, ticket_refusal}
use Rattle.turn_lock.specs.Shown.{PassView, Turned}
use Rattle.version_manager.specs.Folds.{IsInOrder}
use Rattle.version_manager.specs.Laws.{GapsAreOfOthers}
use Rattle.version_manager.specs.Log.{Changed, Finishes, Reissued, IsLog, IsWaitingTicket, events, desk_at, outcome_in}
use Rattle.version_manager.specs.Stays.{ticket_stays, in_order_stays}
use Rattle.version_manager.specs.declared.journal.DeskFixed.{DeskFixed}
use Rattle.version_manager.specs.declared.fault.DeskFault.{DeskFault}
use Rattle.version_manager.specs.declared.fault.DeskFault.TheVariants as DeskFaults
use Rattle.request_form.specs.Session.{Session, store_at, outcome_at, sees}
use Rattle.request_form.specs.Turns.{AfterGap}
use Rattle.request_form.specs.Answers.{FinishTurn, RepairTurn, Folds, IsReady, max_update, folds_in}
use Rattle.request_form.specs.Replies.{fault_of, page_faults}
use Rattle.request_form.specs.declared.form.Reply.TheVariants as Replies
use Rattle.request_form.specs.declared.form.Fault.{Fault}
use Rattle.request_form.specs.declared.form.Fault.TheVariants as Faults
use Rattle.client_session.specs.Results.{desk_fault, weave_fault, repair_reply}
use Rattle.client_session.specs.Finishing.{bare, Finishing, LookedFresh, NotWoven}
use Rattle.client_session.specs.Memory.{IsLeft}
use Rattle.client_session.specs.Sessions.{Went}
use Rattle.client_session.proofs.Answering.{sees-nothing}
use Rattle.client_session.proofs.Folding.{folds_of_ticket, folds_there, folds_told}
use Rattle.client_session.proofs.Gapped.{finish_later}
use Rattle.client_session.proofs.Opened.{waiting_ticket_here}
use Rattle.client_session.proofs.StoreAnswers.{IsThere, found_already, may_by_published, already_by_refused, refusal_of_numbered, before_waits, before_ready}
use Rattle.client_session.proofs.Turns.{Took, took, seen_gap, seen_event, then_told, went_changed}

-- the store of a history and a gap
pub store_of_gap : (f : DeskFixed) (log gap : List (ℕ × Event)) → store_of f.limits (events log ++ events gap) ≡ store_of f.limits (events (log ++ gap))
store_of_gap f log gap = ap (store_of f.limits) (sym (map-append (λ (x : ℕ × Event). x.1) log gap))

pub outcome_of : (f : DeskFixed) (caller : ℕ) (log gap : List (ℕ × Event)) (call : Call) → outcome_at (bare f caller log) (events gap) call ≡ outcome_in f (log ++ gap) caller call
outcome_of f caller log gap call = ap (λ (s : Store). (answer s caller call).1) (store_of_gap f log gap)

-- a ticket's blob is there, with its version
some_blob : (o : Option Blob) (version : ℕ) → 1 ≤ version → version ≤ length (updates_or_none o) → (b : Blob) × (o ≡ Some b)
some_blob None version some numbered = absurd (omega arith)
some_blob (Some b) version some numbered = (b, refl)

pub numbered_there : (f : DeskFixed) (log : List (ℕ × Event)) (blob version : ℕ) → 1 ≤ version → version ≤ length (updates_in (desk_at f log) blob)
    → IsThere (store_of f.limits (events log)) blob (λ b. version ≤ assigned b)
numbered_there f log blob version some numbered =
    let s : Store = store_of f.limits (events log) in
    let there = some_blob (blob_at s blob) version some numbered in
    record { b = there.0; is = there.1; holds = subst (λ (o : Option Blob). version ≤ length (updates_or_none o)) there.1 numbered }

-- ---- a report
module _ (f : DeskFixed) (caller : ℕ) (log log' : List (ℕ × Event)) (t : NumberedUpdate) (some : 1 ≤ t.version) (ticket : IsTicketOf (desk_at f log) t) where
  there : (gap : List (ℕ × Event)) → IsThere (store_of f.limits (events (log ++ gap))) t.blob (λ b. t.version ≤ assigned b)
  there gap = numbered_there f (log ++ gap) t.blob t.version some (ticket_stays t log gap f ticket).numbered

  at_gap : (gap : List (ℕ × Event)) → repair_refusal (store_at (bare f caller log) (events gap)) t.blob t.version ≡ repair_refusal (store_of f.limits (events (log ++ gap))) t.blob t.version
  at_gap gap = ap (λ (s : Store). repair_refusal s t.blob t.version) (store_of_gap f log gap)

  -- where it stores pages anew, the version before it is published then
  ready_then : (gap : List (ℕ × Event)) → IsInOrder f.page_size (store_of f.limits (events log)) t.blob t.version → Folds (bare f caller log) (events gap) t.blob t.version
      → IsReady (bare f caller log) (events gap) t.blob t.version
  ready_then gap order folds =
      let s : Store = store_of f.limits (events (log ++ gap)) in
      let was : IsThere s t.blob (λ b. t.version ≤ assigned b) = there gap in
      let numbered = (ticket_stays t log gap f ticket).numbered in
      let F : Store → Type 0 = λ x. folds_in f.page_size x t.blob t.version ≢ [] in
      let anew : F s = subst F (store_of_gap f log gap) folds in
      let last = in_order_stays f log gap t.blob t.version ticket.numbered order (λ none. anew (folds_there f.page_size s t.blob t.version some numbered ∙ none)) in
      outcome_of f caller log gap (Calls.Sync t.blob (t.version - 1))
      ∙ before_ready s caller t.blob (t.version - 1) (record { b = was.b; is = was.is; holds = (omega (arith, last, ap published_or_none was.is), omega (arith, was.holds)) })

  pub report_done : {E : Type 0} (fault : E → DeskFault) (published : ℕ) → IsInOrder f.page_size (store_of f.limits (events log)) t.blob t.version
      → Took caller log log' (λ before after. Changed f (Calls.Finish t.blob t.version) (Events.Finish caller t.blob t.version) (λ n. Outcomes.Published n) fault before caller (Ok published) after)
      → Finishing f caller log t.blob t.version (Ok published) log'
  report_done fault published order took =
      record {
        others = events took.gap;
        is_gap = took.others;
        turn = _;
        may = RepairTurn.finish _ (FinishTurn.finished published
            (at_gap took.gap ∙ may_by_published (store_of f.limits (events (log ++ took.gap))) caller t.blob t.version published (there took.gap) took.gives.done) (ready_then took.gap order)
            (outcome_of f caller log took.gap (Calls.Finish t.blob t.version) ∙ took.gives.done));
        said = refl;
        seen = seen_event f caller log log' took.gap (Events.Finish caller t.blob t.version) [] 1 max_update took.gives.added;
      }

  not_reported : (gap : List (ℕ × Event)) (why : DeskFault) → AllOther caller (events gap) → log' ≡ log ++ gap
      → OnRefused why (λ refusal. outcome_in f (log ++ gap) caller (Calls.Finish t.blob t.version) ≡ Outcomes.Refused refusal) → Finishing f caller log t.blob t.version (Err (desk_fault why)) log'
  not_reported gap (DeskFaults.Refused refusal) others same refused =
      let by = already_by_refused (store_of f.limits (events (log ++ gap))) caller t.blob t.version refusal (there gap) refused in
      record {
        others = events gap;
        is_gap = others;
        turn = _;
        may = RepairTurn.finish _ (FinishTurn.found (at_gap gap ∙ by.1));
        said = ap (λ (r : Refusal). Replies.Refused (fault_of r)) by.0;
        seen = seen_gap f caller log log' gap [] 1 max_update same;
      }
  not_reported gap DeskFaults.NoMemory others same refused =
      then_told f caller log log' gap [] 1 max_update (RepairTurn (bare f caller log) t.blob t.version) _ _ others same (RepairTurn.finish _ FinishTurn.out_of_memory) refl

  pub report_not_done : {E : Type 0} (fault : E → DeskFault) (e : E)
      → Took caller log log' (λ before after. Changed f (Calls.Finish t.blob t.version) (Events.Finish caller t.blob t.version) (λ (n : ℕ). Outcomes.Published n) fault before caller (Err e) after)
      → Finishing f caller log t.blob t.version (Err (desk_fault (fault e))) log'
  report_not_done fault e took = not_reported took.gap (fault e) took.others took.gives.same took.gives.refused

-- what the session says of the desk's answer to a finish
abbrev pub report_said : {R : Type 0} → Result ℕ (DeskFault × R) → Result ℕ Fault
report_said (Ok published) = Ok published
report_said (Err e) = Err (desk_fault e.0)

pub report_took : {R : Type 0} (f : DeskFixed) (caller : ℕ) (log log' : List (ℕ × Event)) (t : NumberedUpdate) (row : R) (said : Result ℕ (DeskFault × R)) → 1 ≤ t.version → IsTicketOf (desk_at f log) t
    → IsInOrder f.page_size (store_of f.limits (events log)) t.blob t.version
    → Took caller log log' (λ before after. Changed f (Calls.Finish t.blob t.version) (Events.Finish caller t.blob t.version) (λ (n : ℕ). Outcomes.Published n) (λ (e : DeskFault × R). e.0) before caller said after
    × Finishes f t row before after said)
    → Finishing f caller log t.blob t.version (report_said said) log'
report_took f caller log log' t row (Ok published) some ticket order took =
    report_done f caller log log' t some ticket (λ (e : DeskFault × _). e.0) published order (record { gap = took.gap; others = took.others; gives = took.gives.0 })
report_took f caller log log' t row (Err e) some ticket order took =
    report_not_done f caller log log' t some ticket (λ (x : DeskFault × _). x.0) e (record { gap = took.gap; others = took.others; gives = took.gives.0 })

pub report_turned : {R : Type 0} → GapsAreOfOthers → (f : DeskFixed) (v w : PassView Event DeskFixed) (t : NumberedUpdate) → 1 ≤ t.version → IsTicketOf (desk_at f v.seen) t
    → IsInOrder f.page_size (store_of f.limits (events v.seen)) t.blob t.version
    → (row : R) (said : Result ℕ (DeskFault × R)) → v.fixed ≡ Some f
    → Turned (λ before f after. Changed f (Calls.Finish t.blob t.version) (Events.Finish v.caller t.blob t.version) (λ (n : ℕ). Outcomes.Published n) (λ (e : DeskFault × R). e.0) before v.caller said after
    × Finishes f t row before after said) v w
    → Finishing f v.caller v.seen t.blob t.version (report_said said) w.seen
report_turned {R = R} law f v w t some ticket order row said fixed turned =
    report_took f v.caller v.seen w.seen t row said some ticket order
    (took law f v w
    (λ before g after. Changed g (Calls.Finish t.blob t.version) (Events.Finish v.caller t.blob t.version) (λ (n : ℕ). Outcomes.Published n) (λ (e : DeskFault × R). e.0) before v.caller said after
    × Finishes g t row before after said)
    fixed (λ before after x. x.0.log) turned)

pub went_reported : {R : Type 0} → GapsAreOfOthers → (f : DeskFixed) (v w : PassView Event DeskFixed) (t : NumberedUpdate) (row : R) (said : Result ℕ (DeskFault × R)) → v.fixed ≡ Some f
    → Turned (λ before f after. Changed f (Calls.Finish t.blob t.version) (Events.Finish v.caller t.blob t.version) (λ (n : ℕ). Outcomes.Published n) (λ (e : DeskFault × R). e.0) before v.caller said after
    × Finishes f t row before after said) v w
    → Went f v.seen w.seen
went_reported {R = R} law f v w t row said fixed turned =
    let x = took law f v w
    (λ before g after. Changed g (Calls.Finish t.blob t.version) (Events.Finish v.caller t.blob t.version) (λ (n : ℕ). Outcomes.Published n) (λ (e : DeskFault × R). e.0) before v.caller said after
    × Finishes g t row before after said)
    fixed (λ before after x. x.0.log) turned in
    went_changed f v.caller v.seen w.seen (Calls.Finish t.blob t.version) (Events.Finish v.caller t.blob t.version) (λ (n : ℕ). Outcomes.Published n) (λ (e : DeskFault × R). e.0) said
    (record { gap = x.gap; others = x.others; gives = x.gives.0 })

-- ---- a look that finds no ticket
module _ (f : DeskFixed) (caller : ℕ) (log log' : List (ℕ × Event)) (blob version : ℕ) where
  refused_by : (gap : List (ℕ × Event)) (refusal : Refusal) → AllOther caller (events gap) → log' ≡ log ++ gap → repair_refusal (store_of f.limits (events log')) blob version ≡ Some refusal
      → refusal ≢ Refusals.Already version → Finishing f caller log blob version (Err (fault_of refusal)) log'
  refused_by gap refusal others same refused other =
      then_told f caller log log' gap [] 1 max_update (RepairTurn (bare f caller log) blob version) _ _ others same
      (RepairTurn.refused refusal
      (ap (λ (s : Store). repair_refusal s blob version) (store_of_gap f log gap ∙ ap (λ (l : List (ℕ × Event)). store_of f.limits (events l)) (sym same)) ∙ refused) other) refl

  not_found : (gap : List (ℕ × Event)) (why : DeskFault) → AllOther caller (events gap) → log' ≡ log ++ gap
      → OnRefused why (λ refusal. repair_refusal (store_now (desk_at f log')) blob version ≡ Some refusal) → Finishing f caller log blob version (Err (desk_fault why)) log'
  not_found gap DeskFaults.NoMemory others same refused =
      then_told f caller log log' gap [] 1 max_update (RepairTurn (bare f caller log) blob version) _ _ others same (RepairTurn.finish _ FinishTurn.out_of_memory) refl
  not_found gap (DeskFaults.Refused (Refusals.Already v)) others same refused =
      let is : v ≡ version = (found_already (store_of f.limits (events log')) blob version v refused).0 in
      record {
        others = events gap;
        is_gap = others;
        turn = _;
        may = RepairTurn.finish _ (FinishTurn.found
            (ap (λ (s : Store). repair_refusal s blob version) (store_of_gap f log gap ∙ ap (λ (l : List (ℕ × Event)). store_of f.limits (events l)) (sym same))
            ∙ (refused ∙ ap (λ (n : ℕ). Some (Refusals.Already n)) is)));
        said = ap (λ (n : ℕ). Replies.Refused (Faults.Already n)) is;
        seen = seen_gap f caller log log' gap [] 1 max_update same;
      }
  not_found gap (DeskFaults.Refused refusal) others same refused = refused_by gap refusal others same refused (λ e. cc)

  pub look_failed : (why : DeskFault) → LookedFresh f caller log blob version (Err why) log' → Finishing f caller log blob version (Err (desk_fault why)) log'
  look_failed why look = not_found look.gap why look.others look.same look.refused

  -- ---- and one that finds it: what comes then comes after the look's gap
  pub after_look : (found : Result NumberedUpdate DeskFault) (said : Result ℕ Fault) (log'' : List (ℕ × Event)) → LookedFresh f caller log blob version found log'
      → Finishing f caller log' blob version said log'' → Finishing f caller log blob version said log''
  after_look found said log'' look a =
      let mid : bare f caller log' ≡ sees (bare f caller log) (events look.gap) = seen_gap f caller log log' look.gap [] 1 max_update look.same in
      finish_later (bare f caller log) (events look.gap) look.others blob version (repair_reply said) (bare f caller log'')
      (subst (λ (s : Session). AfterGap AllOther s (RepairTurn s blob version) (repair_reply said) (bare f caller log'')) mid a)

-- ---- a fresh ticket whose update isn't woven
record IsWaiting (store : Store) (blob version rows : ℕ) : Type 0 where
  b : Blob
  is : blob_at store blob ≡ Some b
  numbered : version ≤ assigned b
  unfinished : is_finished b version ≡ false
  published_is : published b ≡ rows

waiting_there : (o : Option Blob) (store : Store) (blob version rows : ℕ) → blob_at store blob ≡ o → 1 ≤ version → version ≤ length (updates_or_none o) → finished_or_not o version ≡ false
    → rows ≡ published_or_none o → IsWaiting store blob version rows
waiting_there None store blob version rows is some numbered unfinished published_is = absurd (omega arith)
waiting_there (Some b) store blob version rows is some numbered unfinished published_is =
    record { b = b; is = is; numbered = numbered; unfinished = unfinished; published_is = sym published_is }

module _ (f : DeskFixed) (caller : ℕ) (log : List (ℕ × Event)) (blob version : ℕ) (t : NumberedUpdate) (w : IsWaitingTicket f log blob version t) where
  abbrev store : Store
  store = store_of f.limits (events log)

  waits_there : IsWaiting store blob version (length t.snapshot.rows)
  waits_there = waiting_there (blob_at store blob) store blob version (length t.snapshot.rows) refl w.unfinished.some w.unfinished.numbered w.unfinished.unfinished w.hints.rows

  -- the store that has seen nothing more
  still : store ≡ store_at (bare f caller log) []
  still = ap (store_of f.limits) (sym (append-nil (events log)))

  here : (P : Store → Type 0) → P store → P (store_at (bare f caller log) [])
  here P p = subst P still p

  may_finish : repair_refusal (store_at (bare f caller log) []) blob version ≡ None
  may_finish =
      here (λ (s : Store). repair_refusal s blob version ≡ None)
      (refusal_of_numbered store blob version false (record { b = waits_there.b; is = waits_there.is; holds = (waits_there.numbered, waits_there.unfinished) }))

  folds_are : (P : List ℕ → Type 0) → P (folds_of_ticket f log t) → P (folds_in f.page_size (store_at (bare f caller log) []) blob version)
  folds_are P p =
      here (λ (s : Store). P (folds_in f.page_size s blob version))
      (subst (λ (b : ℕ). P (folds_in f.page_size store b version)) w.blob_is
      (subst (λ (v : ℕ). P (folds_in f.page_size store t.blob v)) w.version_is (subst P (sym (folds_told f log t (subst (λ (v : ℕ). 1 ≤ v) (sym w.version_is) w.unfinished.some) w.ticket)) p)))

  pub not_woven : (fault : Fault) → NotWoven t fault → Finishing f caller log blob version (Err fault) log
  not_woven fault (NotWoven.no_memory is) =
      record { others = []; is_gap = tt; turn = _; may = RepairTurn.finish _ FinishTurn.out_of_memory; said = ap (λ (x : Fault). Replies.Refused x) is; seen = sees-nothing (bare f caller log) }
  not_woven fault (NotWoven.waits is below some) =
      let n : IsWaiting store blob version (length t.snapshot.rows) = waits_there in
      record {
        others = [];
        is_gap = tt;
        turn = _;
        may = RepairTurn.finish _ (FinishTurn.waits (length t.snapshot.rows + 1) may_finish (folds_are (λ pages. pages ≢ []) (some _ w.ticket.stands))
            (here (λ (s : Store). (answer s caller (Calls.Sync blob (version - 1))).1 ≡ Outcomes.Refused (Refusals.Pending (version - 1) (length t.snapshot.rows + 1)))
            (before_waits store caller blob (version - 1)
            (record { b = n.b; is = n.is; holds = (omega (arith, n.published_is, below, w.version_is), omega (arith, n.numbered)) })
            ∙ ap (λ (k : ℕ). Outcomes.Refused (Refusals.Pending (version - 1) (k + 1))) n.published_is)));
        said = ap (λ (x : Fault). Replies.Refused x) is ∙ ap (λ (v : ℕ). Replies.Refused (Faults.Pending (v - 1) (length t.snapshot.rows + 1))) w.version_is;
        seen = sees-nothing (bare f caller log);
      }
  not_woven fault (NotWoven.lost page is ready among) =
      let n : IsWaiting store blob version (length t.snapshot.rows) = waits_there in
      record {
        others = [];
        is_gap = tt;
        turn = _;
        may = RepairTurn.finish _ (FinishTurn.not_folded page may_finish (folds_are (λ pages. Contains pages page) (among _ w.ticket.stands))
            (here (λ (s : Store). (answer s caller (Calls.Sync blob (version - 1))).1 ≡ Outcomes.Synced (version - 1))
            (before_ready store caller blob (version - 1) (record { b = n.b; is = n.is; holds = (omega (arith, n.published_is, ready, w.version_is), omega (arith, n.numbered)) }))));
        said = ap (λ (x : Fault). Replies.Refused x) is;
        seen = sees-nothing (bare f caller log);
      }

-- ---- a look for a fresh ticket
-- a look that found no memory
left_looked : (f : DeskFixed) (caller : ℕ) (log log' gap : List (ℕ × Event)) (blob version : ℕ) (why : DeskFault) → log' ≡ log ++ gap
    → OnNoMemory why (ticket_refusal (desk_at f (log ++ gap)) blob version ≡ None) → OnNoMemory why (IsLeft (bare f caller log') blob version)
left_looked f caller log log' gap blob version (DeskFaults.Refused refusal) same e = tt
left_looked f caller log log' gap blob version DeskFaults.NoMemory same e =
    ap (λ (h : List Event). repair_refusal (store_of f.limits h) blob version) (append-nil (events log'))
    ∙ (ap (λ (h : List (ℕ × Event)). ticket_refusal (desk_at f h) blob version) same ∙ e)

module _ (f : DeskFixed) (caller : ℕ) (log log' : List (ℕ × Event)) (blob version : ℕ) where
  pub went_fresh : (said : Result NumberedUpdate DeskFault) → Took caller log log' (λ before after. Reissued f blob version before said after) → Went f log log'
  went_fresh said t = record { begins = (t.gap, t.gives.same); log_is = subst (IsLog f) (sym t.gives.same) t.gives.log }

  pub fresh_found : (t : NumberedUpdate) → IsWellNumbered t → Took caller log log' (λ before after. Reissued f blob version before (Ok t) after) → LookedFresh f caller log blob version (Ok t) log'
  fresh_found t well took =
      let w : IsWaitingTicket f log' blob version t = subst (λ (l : List (ℕ × Event)). IsWaitingTicket f l blob version t) (sym took.gives.same) took.gives.ticket in
      record {
        gap = took.gap;
        others = took.others;
        same = took.gives.same;
        ticket = w;
        here = waiting_ticket_here f log' blob version t well w;
        refused = tt;
        memory = tt;
      }

  pub fresh_missed : (why : DeskFault) → Took caller log log' (λ before after. Reissued f blob version before (Err why) after) → LookedFresh f caller log blob version (Err why) log'
  fresh_missed why took = record {
    gap = took.gap;
    others = took.others;
    same = took.gives.same;
    ticket = tt;
    here = tt;
    refused = subst (λ (l : List (ℕ × Event)). OnRefused why (λ refusal. ticket_refusal (desk_at f l) blob version ≡ Some refusal)) (sym took.gives.same) took.gives.refused;
    memory = left_looked f caller log log' took.gap blob version why took.gives.same took.gives.memory;
  }

pub took_fresh : GapsAreOfOthers → (f : DeskFixed) (v w : PassView Event DeskFixed) (blob version : ℕ) (said : Result NumberedUpdate DeskFault) → v.fixed ≡ Some f
    → Turned (λ before f after. Reissued f blob version before said after) v w → Took v.caller v.seen w.seen (λ before after. Reissued f blob version before said after)
took_fresh law f v w blob version said fixed turned = took law f v w (λ before g after. Reissued g blob version before said after) fixed (λ before after x. x.log) turned

-- ---- why a fresh ticket's update isn't woven
pub not_woven_by : (t : NumberedUpdate) (fault : WeaveFault) → length t.snapshot.rows + 1 ≡ t.version → OnLostFold fault (IsStoredAnew t) → NotWoven t (weave_fault fault)
not_woven_by t (WeaveFaults.PageFault page) ready among = NotWoven.lost page refl ready among
not_woven_by t WeaveFaults.NoMemory ready among = NotWoven.no_memory refl

pub risen_by : (fault : WeaveFault) (before after : ℕ) → before ≤ after → OnLostFold fault (λ page. HasRisen before after) → RoseBy (page_faults (weave_fault fault)) before after
risen_by (WeaveFaults.PageFault page) before after later risen = record { later = later; by = λ few. omega (arith, risen, few) }
risen_by WeaveFaults.NoMemory before after later risen = record { later = later; by = λ few. omega (arith, later) }
