-- The answers of a session, by what the turns of its calls gave.
use Rattle.std.proofs.Common.{◌≡◌, refl, sym, ◌∙◌, ap, ℕ, List, [], append-nil, Result, Ok, Err}
use Rattle.blob_model.specs.History.{AllOther}
use Rattle.blob_model.specs.declared.call.Call.TheVariants as Calls
use Rattle.blob_model.specs.declared.call.Event.{Event}
use Rattle.blob_model.specs.declared.call.Event.TheVariants as Events
use Rattle.blob_model.specs.declared.call.Outcome.TheVariants as Outcomes
use Rattle.version_manager.specs.Log.{Changed, events}
use Rattle.version_manager.specs.declared.journal.DeskFixed.{DeskFixed}
use Rattle.version_manager.specs.declared.fault.DeskFault.{DeskFault}
use Rattle.request_form.specs.Session.{Session, sees}
use Rattle.request_form.specs.Turns.{AfterGap}
use Rattle.request_form.specs.Answers.{AddTurn}
use Rattle.blob_model.specs.declared.call.Call.{Call}
use Rattle.request_form.specs.declared.form.Reply.{Reply}
use Rattle.client_session.specs.Tickets.{OpenUpdate}
use Rattle.client_session.specs.Results.{told_of, create_reply, branch_reply}
use Rattle.client_session.specs.Sessions.{session_at}
use Rattle.client_session.proofs.Turns.{Took, not_done, outcome_of_gap, seen_event}

-- seeing nothing changes nothing
pub sees-nothing : (s : Session) → s ≡ sees s []
sees-nothing s = ap (λ (h : List Event). record { fixed = s.fixed; caller = s.caller; seen = h; tickets = s.tickets; next = s.next; limit = s.limit }) (sym (append-nil s.seen))

module _ (f : DeskFixed) (caller : ℕ) (log log' : List (ℕ × Event)) (held : List OpenUpdate) (next limit : ℕ) where
  abbrev Adds : Call → Reply → Type 0
  Adds call reply = AfterGap AllOther (session_at f caller log held next limit) (AddTurn (session_at f caller log held next limit) call) reply (session_at f caller log' held next limit)

  -- ---- a new blob
  pub create_told : (r : Result ℕ DeskFault) → Took caller log log' (λ before after. Changed f Calls.Create (Events.Create caller) (λ (id : ℕ). Outcomes.Blob id) (λ (x : DeskFault). x) before caller r after)
      → Adds Calls.Create (create_reply (told_of r))
  create_told (Ok blob) t =
      record {
        others = events t.gap;
        is_gap = t.others;
        turn = _;
        may = AddTurn.added blob (outcome_of_gap f caller log log' t.gap held next limit Calls.Create ∙ t.gives.done);
        said = refl;
        seen = seen_event f caller log log' t.gap (Events.Create caller) held next limit t.gives.added;
      }
  create_told (Err fault) t =
      not_done f caller log log' Calls.Create held next limit (AddTurn (session_at f caller log held next limit) Calls.Create) (λ front refusal e. AddTurn.refused refusal e) (λ front. AddTurn.out_of_memory)
      t.gap fault t.others t.gives.same t.gives.refused

  -- ---- a branch
  pub branch_told : (blob version : ℕ) (r : Result ℕ DeskFault)
      → Took caller log log' (λ before after. Changed f (Calls.Branch blob version) (Events.Branch caller blob version) (λ (id : ℕ). Outcomes.Blob id) (λ (x : DeskFault). x) before caller r after)
      → Adds (Calls.Branch blob version) (branch_reply (told_of r))
  branch_told blob version (Ok id) t =
      record {
        others = events t.gap;
        is_gap = t.others;
        turn = _;
        may = AddTurn.added id (outcome_of_gap f caller log log' t.gap held next limit (Calls.Branch blob version) ∙ t.gives.done);
        said = refl;
        seen = seen_event f caller log log' t.gap (Events.Branch caller blob version) held next limit t.gives.added;
      }
  branch_told blob version (Err fault) t =
      not_done f caller log log' (Calls.Branch blob version) held next limit (AddTurn (session_at f caller log held next limit) (Calls.Branch blob version)) (λ front refusal e. AddTurn.refused refusal e)
      (λ front. AddTurn.out_of_memory) t.gap fault t.others t.gives.same t.gives.refused
