-- Numbering an update: a first look, its pages stored, and its number; each told of the session without its tickets.
use Rattle.std.proofs.Common.{◌≡◌, ◌≢◌, inl, inr, refl, sym, ◌∙◌, ap, subst, ℕ, ◌+◌, ◌*◌, ◌<◌, ◌≤◌, Bool, List, [], ◌∷◌, ◌++◌, append_assoc, length, length-append, Some, None, Ok, Err, arith}
use Rattle.std.specs.Prelude.{IfOk}
use Rattle.std.proofs.lemmas.List.{map-append}
use Rattle.blob_model.specs.Answer.{answer}
use Rattle.blob_model.specs.History.{AllOther, store_of}
use Rattle.blob_model.specs.declared.call.Place.{Place}
use Rattle.blob_model.specs.declared.call.Call.TheVariants as Calls
use Rattle.blob_model.specs.declared.call.Event.{Event}
use Rattle.blob_model.specs.declared.call.Event.TheVariants as Events
use Rattle.blob_model.specs.declared.call.Outcome.{Outcome}
use Rattle.blob_model.specs.declared.call.Outcome.TheVariants as Outcomes
use Rattle.blob_model.specs.declared.call.Refusal.{Refusal}
use Rattle.page_store.specs.Stored.{Cut, LieAmong}
use Rattle.page_fan.specs.Fault.{OnPageFault}
use Rattle.page_fan.specs.declared.storing.StoreFault.{StoreFault}
use Rattle.page_fan.specs.declared.storing.StoreFault.TheVariants as StoreFaults
use Rattle.border_hints.specs.Numbered.{NumberedUpdate}
use Rattle.border_hints.specs.Numbered.{IsValidTicket as IsWellNumbered}
use Rattle.version_manager.specs.Desks.{IsUnfinished}
use Rattle.version_manager.specs.Log.{Changed, IsNewTicket, tag, events, desk_at}
use Rattle.version_manager.specs.declared.journal.DeskFixed.{DeskFixed}
use Rattle.version_manager.specs.declared.fault.DeskFault.{DeskFault}
use Rattle.request_form.specs.Session.{Session, outcome_at, sees}
use Rattle.request_form.specs.Turns.{refuses}
use Rattle.request_form.specs.Answers.{max_update}
use Rattle.request_form.specs.declared.form.Reply.TheVariants as Replies
use Rattle.request_form.specs.declared.form.Fault.{Fault}
use Rattle.client_session.specs.Tickets.{OpenUpdate}
use Rattle.client_session.specs.Results.{desk_fault, store_fault}
use Rattle.client_session.specs.Sessions.{session_at}
use Rattle.client_session.specs.Finishing.{bare}
use Rattle.client_session.specs.SessionInvariant.{IsTicketHere}
use Rattle.client_session.specs.Numbering.{LookedAhead, NotNumberedFor, Numbering}
use Rattle.client_session.proofs.Gapped.{others_both, unnumbered_later}
use Rattle.client_session.proofs.Opened.{new_ticket_here}
use Rattle.client_session.proofs.Turns.{Took, took, not_done, outcome_of_gap, seen_gap, then_told}
use Rattle.blob_model.specs.History.{is_refused}
use Rattle.request_form.specs.Replies.{page_faults, fault_of}
use Rattle.request_form.specs.Answers.{UnnumberedTurn, IsStoredThen}
use Rattle.request_form.specs.declared.form.Fault.TheVariants as Faults

-- ---- what isn't prepared
module _ (f : DeskFixed) (caller : ℕ) (log log' : List (ℕ × Event)) (looks_first : Bool) (blob : ℕ) (place : Place) (bytes : List ℕ) where
  not_prepared : (gap : List (ℕ × Event)) (fault : Fault) → AllOther caller (events gap) → log' ≡ log ++ gap → UnnumberedTurn (bare f caller log) blob place bytes (events gap) (refuses fault)
      → NotNumberedFor (bare f caller log) blob place bytes fault (bare f caller log')
  not_prepared gap fault others same may =
      then_told f caller log log' gap [] 1 max_update (UnnumberedTurn (bare f caller log) blob place bytes) (Replies.Refused fault) _ others same may refl

  pub ahead_refused : (refusal : Refusal) → LookedAhead f caller log looks_first blob place bytes (Some refusal) log' → NotNumberedFor (bare f caller log) blob place bytes (fault_of refusal) (bare f caller log')
  ahead_refused refusal look =
      not_prepared look.gap _ look.others look.same
      (UnnumberedTurn.refused refusal (outcome_of_gap f caller log log' look.gap [] 1 max_update (Calls.Assign blob place bytes) ∙ look.refused))

  -- the bytes are stored behind the look
  stored_then : (look : LookedAhead f caller log looks_first blob place bytes None log') → IsStoredThen (bare f caller log) blob place bytes (events look.gap)
  stored_then look =
      elim look.free [
        | inl none ↦ inl (ap events none)
        | inr (looked, free) ↦ inr (ap is_refused (outcome_of_gap f caller log log' look.gap [] 1 max_update (Calls.Assign blob place bytes)) ∙ free)
      ]

  pub not_stored : (fault : StoreFault) → LookedAhead f caller log looks_first blob place bytes None log' → OnPageFault fault (λ i. f.page_size * i < length bytes)
      → NotNumberedFor (bare f caller log) blob place bytes (store_fault fault) (bare f caller log')
  not_stored (StoreFaults.PageFault page before) look is_page = not_prepared look.gap _ look.others look.same (UnnumberedTurn.not_stored page is_page (stored_then look))
  not_stored StoreFaults.NoMemory look is_page = not_prepared look.gap _ look.others look.same UnnumberedTurn.out_of_memory

-- ---- the numbering
module _ (f : DeskFixed) (caller : ℕ) (log log' : List (ℕ × Event)) (blob : ℕ) (place : Place) (bytes : List ℕ) where
  pub numbered : (cut : Cut) (t : NumberedUpdate) → IsWellNumbered t → LieAmong f.houses cut.pages
      → Took caller log log' (λ before after. Changed f (Calls.Assign blob place bytes) (Events.Assign caller blob place bytes) (λ (x : NumberedUpdate). Outcomes.Assigned x.version x.at x.size) (λ (x : DeskFault). x) before caller (Ok t) after
      × IfOk {E = DeskFault} (Ok t) (λ x. IsNewTicket f blob caller cut before after x))
      → Numbering f caller log blob place bytes t log'
  numbered cut t well pages took =
      let e : Event = Events.Assign caller blob place bytes in
      let n : IsNewTicket f blob caller cut (log ++ took.gap) ((log ++ took.gap) ++ tag e ∷ []) t =
      subst (λ (l : List (ℕ × Event)). IsNewTicket f blob caller cut (log ++ took.gap) l t) took.gives.0.added took.gives.1 in
      record {
        gap = took.gap;
        others = took.others;
        added = took.gives.0.added;
        outcome = took.gives.0.done;
        blob_is = n.blob_is;
        ticket =
            subst (λ (l : List (ℕ × Event)). IsTicketHere f l t) (sym took.gives.0.added)
            (new_ticket_here f blob caller (log ++ took.gap) (tag e ∷ []) t cut well pages n);
        unfinished = subst (λ (b : ℕ). IsUnfinished (desk_at f log') b t.version) (sym n.blob_is) took.gives.1.unfinished;
      }

  pub not_numbered : {A : Type 0} (tells : A → Outcome) (fault : DeskFault)
      → Took caller log log' (λ before after. Changed f (Calls.Assign blob place bytes) (Events.Assign caller blob place bytes) tells (λ (x : DeskFault). x) before caller (Err fault) after)
      → NotNumberedFor (bare f caller log) blob place bytes (desk_fault fault) (bare f caller log')
  not_numbered tells fault took =
      not_done f caller log log' (Calls.Assign blob place bytes) [] 1 max_update (UnnumberedTurn (bare f caller log) blob place bytes) (λ front refusal e. UnnumberedTurn.refused refusal e)
      (λ front. UnnumberedTurn.out_of_memory) took.gap fault took.others took.gives.same took.gives.refused

-- a fault for which the outside didn't fail is no lost page
calm_page : (fault : Fault) → page_faults fault ≡ 0 → (page : ℕ) → Replies.Refused fault ≢ Replies.Refused (Faults.PageFault page)
calm_page fault calm page e =
    let same : fault ≡ Faults.PageFault page = cc in
    let one : page_faults fault ≡ 1 = ap page_faults same in
    omega (arith, one, calm)

-- ---- both, one after the other
module _ (f : DeskFixed) (caller : ℕ) (log mid log' : List (ℕ × Event)) (looks_first : Bool) (blob : ℕ) (place : Place) (bytes : List ℕ) (look : LookedAhead f caller log looks_first blob place bytes None mid) where
  pub not_numbered_both : (fault : Fault) → page_faults fault ≡ 0 → NotNumberedFor (bare f caller mid) blob place bytes fault (bare f caller log')
      → NotNumberedFor (bare f caller log) blob place bytes fault (bare f caller log')
  not_numbered_both fault calm a =
      unnumbered_later (bare f caller log) (events look.gap) look.others blob place bytes (Replies.Refused fault) (bare f caller log') (calm_page fault calm)
      (subst (λ (s : Session). NotNumberedFor s blob place bytes fault (bare f caller log')) (seen_gap f caller log mid look.gap [] 1 max_update look.same) a)

  module _ (t : NumberedUpdate) (n : Numbering f caller mid blob place bytes t log') where
    events_both : events (mid ++ n.gap) ≡ events log ++ (events look.gap ++ events n.gap)
    events_both =
        map-append (λ (x : ℕ × Event). x.1) mid n.gap
        ∙ (ap (λ (l : List (ℕ × Event)). events l ++ events n.gap) look.same
        ∙ (ap (λ (h : List Event). h ++ events n.gap) (map-append (λ (x : ℕ × Event). x.1) log look.gap)
        ∙ append_assoc (events log) (events look.gap) (events n.gap)))

    pub both_others : AllOther caller (events look.gap ++ events n.gap)
    both_others = others_both caller (events look.gap) (events n.gap) look.others n.others

    module _ (held : List OpenUpdate) (next limit : ℕ) where
      pub both_outcome : outcome_at (session_at f caller log held next limit) (events look.gap ++ events n.gap) (Calls.Assign blob place bytes) ≡ Outcomes.Assigned t.version t.at t.size
      both_outcome = ap (λ (h : List Event). (answer (store_of f.limits h) caller (Calls.Assign blob place bytes)).1) (sym events_both) ∙ n.outcome

      with_seen : List Event → Session
      with_seen h = record (session_at f caller log held next limit) { seen = h }

      pub both_seen : session_at f caller log' held next limit ≡ sees (session_at f caller log held next limit) ((events look.gap ++ events n.gap) ++ Events.Assign caller blob place bytes ∷ [])
      unfolding with_seen
      both_seen =
          ap with_seen (ap events n.added
          ∙ (map-append (λ (x : ℕ × Event). x.1) (mid ++ n.gap) (tag (Events.Assign caller blob place bytes) ∷ [])
          ∙ (ap (λ (h : List Event). h ++ Events.Assign caller blob place bytes ∷ []) events_both
          ∙ append_assoc (events log) (events look.gap ++ events n.gap) (Events.Assign caller blob place bytes ∷ []))))

    pub both_longer : (next : ℕ) → next ≤ length log + 1 → next ≤ length log'
    both_longer next few =
        omega (arith, few, ap length n.added, length-append (mid ++ n.gap) (tag (Events.Assign caller blob place bytes) ∷ []), length-append mid n.gap, ap length look.same, length-append log look.gap)
