-- What a turn at the store comes to, and what a session is after one or two of them.
use Rattle.std.specs.Prelude.{◌≡◌, ℕ, List, [], ◌∷◌, ◌++◌}
use Rattle.blob_model.specs.declared.call.Place.{Place}
use Rattle.blob_model.specs.declared.call.Call.TheVariants as Calls
use Rattle.blob_model.specs.declared.call.Event.{Event}
use Rattle.blob_model.specs.declared.call.Event.TheVariants as Events
use Rattle.blob_model.specs.declared.call.Outcome.TheVariants as Outcomes
use Rattle.request_form.specs.declared.form.Reply.{Reply}
use Rattle.request_form.specs.declared.form.Reply.TheVariants as Replies
use Rattle.request_form.specs.declared.form.Fault.{Fault}
use Rattle.request_form.specs.Session.{Session, outcome_at, sees, holds, drops, lets_go}

-- A gap is what others may do before a session's next turn: events of other callers, or none where nobody else is there.
abbrev pub Gap : Type 1
Gap = ℕ → List Event → Type 0

-- what becomes of a session's tickets: they stay, or that version of the blob is held under the next number, or the ticket of that
-- number is given up, or a ticket of that version of the blob is, where one is held
pub data Tickets : Type 0 where
  stay : Tickets
  hold : ℕ → ℕ → Tickets
  drop : ℕ → Tickets
  let_go : ℕ → ℕ → Tickets

abbrev pub with_tickets : Tickets → Session → Session
with_tickets Tickets.stay s = s
with_tickets (Tickets.hold blob version) s = holds s blob version
with_tickets (Tickets.drop number) s = drops s number
with_tickets (Tickets.let_go blob version) s = lets_go s blob version

-- what a turn comes to: the reply, the session's own event, if it made one, and what becomes of its tickets
pub record Turn : Type 0 where
  pub said : Reply
  pub made : List Event
  pub tickets : Tickets

-- nothing comes but the reply
abbrev pub tells : Reply → Turn
tells reply = record { said = reply; made = []; tickets = Tickets.stay }

abbrev pub refuses : Fault → Turn
refuses fault = tells (Replies.Refused fault)

-- others' events, and then those that the session made
abbrev pub and_made : List Event → List Event → List Event
and_made others [] = others
and_made others (e ∷ es) = others ++ e ∷ es

-- Others' events came, and then one turn, which came to something that may come there.
pub record AfterGap (gap : Gap) (s : Session) (May : List Event → Turn → Type 0) (reply : Reply) (s' : Session) : Type 0 where
  pub others : List Event
  pub is_gap : gap s.caller others
  pub turn : Turn
  pub may : May others turn
  pub said : reply ≡ turn.said
  pub seen : s' ≡ with_tickets turn.tickets (sees s (and_made others turn.made))

-- An update was numbered after others' events. More of them came, and then another turn, which came to something that may come there: where
-- the update has this version, this offset, and makes the blob this long, and these events came behind its numbering.
pub record AfterTwoGaps (gap : Gap) (s : Session) (blob : ℕ) (place : Place) (bytes : List ℕ) (May : ℕ → ℕ → ℕ → List Event → List Event → Turn → Type 0) (reply : Reply) (s' : Session) : Type 0 where
  pub others : List Event
  pub later : List Event
  pub is_gap : gap s.caller others
  pub is_gap_later : gap s.caller later
  pub version : ℕ
  pub at : ℕ
  pub size : ℕ
  pub numbered : outcome_at s others (Calls.Assign blob place bytes) ≡ Outcomes.Assigned version at size
  pub turn : Turn
  pub may : May version at size (others ++ Events.Assign s.caller blob place bytes ∷ later) later turn
  pub said : reply ≡ turn.said
  pub seen : s' ≡ with_tickets turn.tickets (sees s (others ++ Events.Assign s.caller blob place bytes ∷ and_made later turn.made))
