-- What a turn of a session's pass did, in the words of the definition of answers.
use Rattle.std.proofs.Common.{◌≡◌, refl, sym, ◌∙◌, ap, subst, ℕ, List, [], ◌∷◌, ◌++◌, append_assoc, Some, Result, Ok, Err}
use Rattle.std.proofs.lemmas.List.{map-append}
use Rattle.blob_model.specs.Answer.{answer}
use Rattle.blob_model.specs.History.{AllOther, store_of}
use Rattle.blob_model.specs.declared.call.Call.{Call}
use Rattle.blob_model.specs.declared.call.Event.{Event}
use Rattle.blob_model.specs.declared.call.Outcome.{Outcome}
use Rattle.blob_model.specs.declared.call.Outcome.TheVariants as Outcomes
use Rattle.turn_lock.specs.Shown.{PassView, Turned}
use Rattle.version_manager.specs.Desks.{OnRefused}
use Rattle.version_manager.specs.Laws.{GapsAreOfOthers}
use Rattle.snapshot.specs.Versions.{Version}
use Rattle.version_manager.specs.Log.{IsLog, Looked, Opened, Changed, tag, events, outcome_in}
use Rattle.version_manager.specs.declared.journal.DeskFixed.{DeskFixed}
use Rattle.version_manager.specs.declared.fault.DeskFault.{DeskFault}
use Rattle.version_manager.specs.declared.fault.DeskFault.TheVariants as DeskFaults
use Rattle.version_manager.specs.declared.fault.OpenFault.{OpenFault}
use Rattle.version_manager.specs.declared.look.Look.{Look}
use Rattle.version_manager.specs.Looks.{look_call}
use Rattle.request_form.specs.Session.{Session, sees, outcome_at}
use Rattle.request_form.specs.Replies.{reply_of}
use Rattle.blob_model.specs.declared.call.Refusal.{Refusal}
use Rattle.request_form.specs.Turns.{Turn, tells, refuses, AfterGap}
use Rattle.request_form.specs.Answers.{LookAnswer}
use Rattle.request_form.specs.Replies.{fault_of}
use Rattle.request_form.specs.declared.form.Fault.TheVariants as Faults
use Rattle.request_form.specs.declared.form.Reply.{Reply}
use Rattle.request_form.specs.declared.form.Reply.TheVariants as Replies
use Rattle.client_session.specs.Tickets.{OpenUpdate}
use Rattle.client_session.specs.Results.{desk_fault}
use Rattle.client_session.specs.Sessions.{Went, session_at}

-- Others' events came, and then the act gave what it gives, of the history before it and after it.
pub record Took (caller : ℕ) (log log' : List (ℕ × Event)) (Gives : List (ℕ × Event) → List (ℕ × Event) → Type 0) : Type 0 where
  pub gap : List (ℕ × Event)
  pub others : AllOther caller (events gap)
  pub gives : Gives (log ++ gap) log'

pub took : GapsAreOfOthers → (f : DeskFixed) (v w : PassView Event DeskFixed) (Gives : List (ℕ × Event) → DeskFixed → List (ℕ × Event) → Type 0) → v.fixed ≡ Some f
    → ((before after : List (ℕ × Event)) → Gives before f after → IsLog f before) → Turned Gives v w → Took v.caller v.seen w.seen (λ before after. Gives before f after)
took others f v w Gives fixed log turned =
    let (f', gap, is, lacks, adds, gives) = turned in
    let same : f' ≡ f = cc in
    let gives' : Gives (v.seen ++ gap) f w.seen = subst (λ (x : DeskFixed). Gives (v.seen ++ gap) x w.seen) same gives in
    record { gap = gap; others = others f v.seen gap v.caller (log (v.seen ++ gap) w.seen gives') lacks; gives = gives' }

module _ (f : DeskFixed) (caller : ℕ) (log log' : List (ℕ × Event)) where
  pub went_looked : (call : Call) (said : Outcome) → Took caller log log' (λ before after. Looked f call before caller said after) → Went f log log'
  went_looked call said t = record { begins = (t.gap, t.gives.same); log_is = subst (IsLog f) (sym t.gives.same) t.gives.log }

  pub went_opened : (blob version : ℕ) (said : Result Version OpenFault) → Took caller log log' (λ before after. Opened f blob version before caller said after) → Went f log log'
  went_opened blob version said t = record { begins = (t.gap, t.gives.same); log_is = subst (IsLog f) (sym t.gives.same) t.gives.log }

  pub went_changed : {A E : Type 0} → (call : Call) (event : Event) (tells : A → Outcome) (fault : E → DeskFault) (r : Result A E)
      → Took caller log log' (λ before after. Changed f call event tells fault before caller r after) → Went f log log'
  went_changed call event tells fault (Ok a) t = record { begins = (t.gap ++ tag event ∷ [], t.gives.added ∙ append_assoc log t.gap (tag event ∷ [])); log_is = t.gives.log_after }
  went_changed call event tells fault (Err e) t = record { begins = (t.gap, t.gives.same); log_is = t.gives.log_after }

  -- what the store answers after the gap
  pub outcome_of_gap : (gap : List (ℕ × Event)) (held : List OpenUpdate) (next limit : ℕ) (call : Call) → outcome_at (session_at f caller log held next limit) (events gap) call ≡ outcome_in f (log ++ gap) caller call
  outcome_of_gap gap held next limit call = ap (λ (h : List Event). (answer (store_of f.limits h) caller call).1) (sym (map-append (λ (x : ℕ × Event). x.1) log gap))

  with_seen : List OpenUpdate → ℕ → ℕ → List Event → Session
  with_seen held next limit h = record { fixed = (session_at f caller log held next limit).fixed; caller = caller; seen = h; tickets = (session_at f caller log held next limit).tickets; next = next; limit = limit }

  -- what the session has seen after a gap
  pub seen_gap : (gap : List (ℕ × Event)) (held : List OpenUpdate) (next limit : ℕ) → log' ≡ log ++ gap → session_at f caller log' held next limit ≡ sees (session_at f caller log held next limit) (events gap)
  unfolding with_seen
  seen_gap gap held next limit is = ap (with_seen held next limit) (ap events is ∙ map-append (λ (x : ℕ × Event). x.1) log gap)

  -- then a turn comes to nothing but a reply
  pub then_told : (gap : List (ℕ × Event)) (held : List OpenUpdate) (next limit : ℕ) (May : List Event → Turn → Type 0) (told reply : Reply) → AllOther caller (events gap)
      → log' ≡ log ++ gap → May (events gap) (tells told) → reply ≡ told
      → AfterGap AllOther (session_at f caller log held next limit) May reply (session_at f caller log' held next limit)
  then_told gap held next limit May told reply others is may said =
      record { others = events gap; is_gap = others; turn = tells told; may = may; said = said; seen = seen_gap gap held next limit is }

  -- and after an event of its own
  pub seen_event : (gap : List (ℕ × Event)) (e : Event) (held : List OpenUpdate) (next limit : ℕ) → log' ≡ (log ++ gap) ++ tag e ∷ []
      → session_at f caller log' held next limit ≡ sees (session_at f caller log held next limit) (events gap ++ e ∷ [])
  unfolding with_seen
  seen_event gap e held next limit is =
      ap (with_seen held next limit) (ap events is
      ∙ (map-append (λ (x : ℕ × Event). x.1) (log ++ gap) (tag e ∷ [])
      ∙ (ap (λ (h : List Event). h ++ e ∷ []) (map-append (λ (x : ℕ × Event). x.1) log gap)
      ∙ append_assoc (events log) (events gap) (e ∷ []))))

  -- a look
  pub looked : (look : Look) (blob : ℕ) (said : Outcome) (held : List OpenUpdate) (next limit : ℕ) → Took caller log log' (λ before after. Looked f (look_call look blob) before caller said after)
      → LookAnswer AllOther (session_at f caller log held next limit) (look_call look blob) (reply_of said) (session_at f caller log' held next limit)
  looked look blob said held next limit t = record {
    others = events t.gap;
    is_gap = t.others;
    said = ap reply_of (t.gives.said_is ∙ sym (outcome_of_gap t.gap held next limit (look_call look blob)));
    seen = seen_gap t.gap held next limit t.gives.same;
  }

  -- A call that was not done: the store refused it, or no memory was found. Such turns may come.
  pub not_done : (call : Call) (held : List OpenUpdate) (next limit : ℕ) (May : List Event → Turn → Type 0)
      → ((front : List Event) (refusal : Refusal) → outcome_at (session_at f caller log held next limit) front call ≡ Outcomes.Refused refusal → May front (refuses (fault_of refusal)))
      → ((front : List Event) → May front (refuses Faults.NoMemory)) → (gap : List (ℕ × Event)) (fault : DeskFault) → AllOther caller (events gap) → log' ≡ log ++ gap
      → OnRefused fault (λ refusal. outcome_in f (log ++ gap) caller call ≡ Outcomes.Refused refusal)
      → AfterGap AllOther (session_at f caller log held next limit) May (Replies.Refused (desk_fault fault)) (session_at f caller log' held next limit)
  not_done call held next limit May refused starved gap (DeskFaults.Refused refusal) others is why =
      then_told gap held next limit May _ _ others is (refused (events gap) refusal (outcome_of_gap gap held next limit call ∙ why)) refl
  not_done call held next limit May refused starved gap DeskFaults.NoMemory others is why =
      then_told gap held next limit May _ _ others is (starved (events gap)) refl
