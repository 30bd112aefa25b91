-- Numbering an update: a first look, its pages stored, and its number.
use Rattle.std.specs.Prelude.{◌≡◌, ◌⊎◌, ℕ, Bool, false, List, [], ◌∷◌, ◌++◌, length, Option, IfSome, IfNone}
use Rattle.blob_model.specs.History.{AllOther, is_refused}
use Rattle.blob_model.specs.declared.call.Place.{Place}
use Rattle.blob_model.specs.declared.call.Call.TheVariants as Calls
use Rattle.blob_model.specs.declared.call.Event.{Event}
use Rattle.blob_model.specs.declared.call.Event.TheVariants as Events
use Rattle.blob_model.specs.declared.call.Outcome.TheVariants as Outcomes
use Rattle.blob_model.specs.declared.call.Refusal.{Refusal}
use Rattle.border_hints.specs.Numbered.{NumberedUpdate}
use Rattle.version_manager.specs.Desks.{IsUnfinished}
use Rattle.version_manager.specs.Log.{tag, events, desk_at, outcome_in}
use Rattle.version_manager.specs.declared.journal.DeskFixed.{DeskFixed}
use Rattle.request_form.specs.Session.{Session}
use Rattle.request_form.specs.Answers.{AfterGap, UnnumberedTurn}
use Rattle.request_form.specs.declared.form.Reply.TheVariants as Replies
use Rattle.request_form.specs.declared.form.Fault.{Fault}
use Rattle.client_session.specs.SessionInvariant.{IsTicketHere}
use Rattle.client_session.specs.TurnCounts.{look_turns}

-- A look before the pages are stored: others' events came, and the store refuses the update after them, where the look says so. Where it
-- doesn't, the store takes the update then, or there was no look and no event.
pub record LookedAhead (f : DeskFixed) (caller : ℕ) (log : List (ℕ × Event)) (looks_first : Bool) (blob : ℕ) (place : Place) (bytes : List ℕ) (said : Option Refusal) (log' : List (ℕ × Event)) : Type 0 where
  pub gap : List (ℕ × Event)
  pub others : AllOther caller (events gap)
  pub same : log' ≡ log ++ gap
  pub refused : IfSome said (λ refusal. outcome_in f (log ++ gap) caller (Calls.Assign blob place bytes) ≡ Outcomes.Refused refusal)
  pub free : IfNone said ((gap ≡ []) ⊎ ((look_turns looks_first f.page_size (length bytes) ≡ 1) × (is_refused (outcome_in f (log ++ gap) caller (Calls.Assign blob place bytes)) ≡ false)))

-- An update isn't numbered: the store refuses it, or a page wasn't stored, or no memory was found.
abbrev pub NotNumberedFor : Session → ℕ → Place → List ℕ → Fault → Session → Type 0
NotNumberedFor s blob place bytes fault s' = AfterGap AllOther s (UnnumberedTurn s blob place bytes) (Replies.Refused fault) s'

-- It was numbered after others' events, and waits for its finish.
pub record Numbering (f : DeskFixed) (caller : ℕ) (log : List (ℕ × Event)) (blob : ℕ) (place : Place) (bytes : List ℕ) (t : NumberedUpdate) (log' : List (ℕ × Event)) : Type 0 where
  pub gap : List (ℕ × Event)
  pub others : AllOther caller (events gap)
  pub added : log' ≡ (log ++ gap) ++ tag (Events.Assign caller blob place bytes) ∷ []
  pub outcome : outcome_in f (log ++ gap) caller (Calls.Assign blob place bytes) ≡ Outcomes.Assigned t.version t.at t.size
  pub blob_is : t.blob ≡ blob
  pub ticket : IsTicketHere f log' t
  pub unfinished : IsUnfinished (desk_at f log') t.blob t.version
