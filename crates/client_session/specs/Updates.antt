-- Where an update falls, and the request and the replies that this makes.
use Rattle.std.specs.Prelude.{◌≡◌, ℕ, ◌+◌, ◌<◌, ◌≤◌, List, [], ◌∷◌, ◌++◌, length, None, Result, Ok, Err}
use Rattle.blob_model.specs.History.{AllOther}
use Rattle.blob_model.specs.declared.call.Place.{Place}
use Rattle.blob_model.specs.declared.call.Place.TheVariants.{WriteAt, Append}
use Rattle.blob_model.specs.declared.call.Call.TheVariants as Calls
use Rattle.blob_model.specs.declared.call.Event.{Event}
use Rattle.blob_model.specs.declared.call.Event.TheVariants as Events
use Rattle.blob_model.specs.declared.call.Outcome.TheVariants as Outcomes
use Rattle.border_hints.specs.Numbered.{NumberedUpdate}
use Rattle.version_manager.specs.Desks.{IsUnfinished}
use Rattle.version_manager.specs.Log.{desk_at}
use Rattle.request_form.specs.Session.{outcome_at, sees}
use Rattle.request_form.specs.Answers.{AfterGap, UnnumberedTurn, Unless, update_fault}
use Rattle.request_form.specs.declared.form.Request.{Request}
use Rattle.request_form.specs.declared.form.Request.TheVariants as Requests
use Rattle.request_form.specs.declared.form.Reply.TheVariants as Replies
use Rattle.request_form.specs.declared.form.Fault.{Fault}
use Rattle.request_form.specs.declared.form.Fault.TheVariants as Faults
pub use Rattle.request_form.specs.Replies.{update_reply, start_reply}
use Rattle.client_session.specs.declared.done.Started.{Started as HeldUpdate}
use Rattle.client_session.specs.declared.done.Updated.{Updated}
use Rattle.client_session.specs.declared.done.Updated.TheVariants as WholeUpdates
use Rattle.client_session.specs.Sessions.{SessionState, session_of}
use Rattle.client_session.specs.SessionInvariant.{IsTicketHere}

-- the request of an update that is finished at once
abbrev pub update_request : ℕ → Place → List ℕ → Request
update_request blob Append bytes = Requests.Append blob bytes
update_request blob (WriteAt offset) bytes = Requests.Write blob offset bytes

-- the request of an update that is finished later
abbrev pub start_request : ℕ → Place → List ℕ → Request
start_request blob Append bytes = Requests.StartAppend blob bytes
start_request blob (WriteAt offset) bytes = Requests.StartWrite blob offset bytes

-- An update that wasn't numbered: the session itself refuses it, or its pages weren't stored, or the store refuses it.
abbrev pub NotNumbered : {D : Type 0} → SessionState D → ℕ → Place → List ℕ → Fault → SessionState D → Type 0
NotNumbered s blob place bytes fault s' =
    Unless (update_fault (session_of s) bytes) (session_of s) (Replies.Refused fault) (session_of s')
    (AfterGap AllOther (session_of s) (UnnumberedTurn (session_of s) blob place bytes) (Replies.Refused fault) (session_of s'))

-- An update was numbered after others' events, and nothing else has changed but the doors' counts. It may be held next.
pub record WasNumbered {D : Type 0} (s : SessionState D) (blob : ℕ) (place : Place) (bytes : List ℕ) (t : NumberedUpdate) (s' : SessionState D) : Type 0 where
  pub others : List Event
  pub is_gap : AllOther s.caller others
  pub taken : update_fault (session_of s) bytes ≡ None
  pub outcome : outcome_at (session_of s) others (Calls.Assign blob place bytes) ≡ Outcomes.Assigned t.version t.at t.size
  pub seen : session_of s' ≡ sees (session_of s) (others ++ Events.Assign s.caller blob place bytes ∷ [])
  pub blob_is : t.blob ≡ blob
  pub ticket : IsTicketHere s'.store.fixed s'.log t
  pub unfinished : IsUnfinished (desk_at s'.store.fixed s'.log) t.blob t.version
  pub room : length s'.held < 64
  pub drawn : s'.next ≤ length s'.log

-- ---- a numbered update whose finish had a fault
-- it is held under the session's next number, without a row
abbrev pub IsHeldNext : {D : Type 0} → SessionState D → NumberedUpdate → SessionState D → Type 0
IsHeldNext s t s' = s' ≡ record s { held = s.held ++ record { number = s.next; ticket = t; row = None } ∷ []; next = s.next + 1 }

-- what is told of it then
abbrev pub held_next : {D : Type 0} → SessionState D → NumberedUpdate → HeldUpdate
held_next s t = record { ticket = s.next; version = t.version; at = t.at; size = t.size }

-- A want of memory, a version that waits and a lost page leave it to be held. After any other fault nothing is held.
abbrev pub IsKept : {D : Type 0} → SessionState D → NumberedUpdate → Fault → Result Updated Fault → SessionState D → Type 0
IsKept s t Faults.NoMemory said s' = (said ≡ Err (Faults.NoMemoryTicket s.next)) × IsHeldNext s t s'
IsKept s t (Faults.Pending version held) said s' = (said ≡ Ok (WholeUpdates.Held (held_next s t))) × IsHeldNext s t s'
IsKept s t (Faults.PageFault page) said s' = (said ≡ Ok (WholeUpdates.Held (held_next s t))) × IsHeldNext s t s'
IsKept s t fault said s' = (said ≡ Err fault) × (s' ≡ s)
