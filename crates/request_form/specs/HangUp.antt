-- Hanging up: a session gives up the tickets that it holds, one after another, and begins anew.
use Rattle.std.specs.Prelude.{◌≡◌, ℕ, ◌+◌, Bool, true, false, List, [], ◌∷◌, ◌++◌, length, count_by, Some}
use Rattle.blob_model.specs.Store.{Store, Blob, blob_at, is_finished}
use Rattle.blob_model.specs.History.{IsNumbered}
use Rattle.blob_model.specs.declared.call.Event.{Event}
use Rattle.request_form.specs.declared.form.Reply.{Reply}
use Rattle.request_form.specs.declared.form.Reply.TheVariants as Replies
use Rattle.request_form.specs.declared.form.Fault.TheVariants as Faults
use Rattle.request_form.specs.Session.{Session, HeldTicket}
use Rattle.request_form.specs.Answers.{Gap, Tickets, AfterGap, FinishTurn, max_update}
use Rattle.request_form.specs.Own.{Makes, finish_made}

-- A ticket is given up: it is finished, as by a finish, but where that is hindered the ticket isn't kept.
abbrev pub GivenUp : Gap → Session → HeldTicket → Reply → Session → Type 0
GivenUp gap s ticket reply s' =
    AfterGap gap s (FinishTurn s ticket.blob ticket.version (λ published. Replies.Finished published) (Tickets.drop ticket.number) (Tickets.drop ticket.number)) reply s'

-- these tickets are given up in turn, each with its reply
abbrev pub GivesUp : Gap → Session → List HeldTicket → List Reply → Session → Type 0
GivesUp gap s [] [] s' = s' ≡ s
GivesUp gap s (ticket ∷ tickets) (reply ∷ replies) s' = (mid : Session) × GivenUp gap s ticket reply mid × GivesUp gap mid tickets replies s'
GivesUp gap s [] (reply ∷ replies) s' = ⊥
GivesUp gap s (ticket ∷ tickets) [] s' = ⊥

-- the update is finished, by the session or by others
abbrev pub tells_finished : Reply → Bool
tells_finished (Replies.Finished published) = true
tells_finished (Replies.Refused (Faults.Already version)) = true
tells_finished _ = false

-- no memory was found
abbrev pub tells_no_memory : Reply → Bool
tells_no_memory (Replies.Refused Faults.NoMemory) = true
tells_no_memory _ = false

-- the version before the update waits
abbrev pub tells_pending : Reply → Bool
tells_pending (Replies.Refused (Faults.Pending version held)) = true
tells_pending _ = false

-- no provider gave, or took, a page
abbrev pub tells_page_fault : Reply → Bool
tells_page_fault (Replies.Refused (Faults.PageFault page)) = true
tells_page_fault _ = false

-- how many tickets were given up in each of the ways
pub record GivenUpCounts : Type 0 where
  pub finished : ℕ
  pub no_memory : ℕ
  pub pending : ℕ
  pub page_fault : ℕ

abbrev pub given_up_counts : List Reply → GivenUpCounts
given_up_counts replies = record {
  finished = count_by tells_finished replies;
  no_memory = count_by tells_no_memory replies;
  pending = count_by tells_pending replies;
  page_fault = count_by tells_page_fault replies;
}

-- the session with 1 as the number of its next ticket, and the limit on the bytes of an update that it had at first
abbrev pub begins_anew : Session → Session
begins_anew s = record { fixed = s.fixed; caller = s.caller; seen = s.seen; tickets = s.tickets; next = 1; limit = max_update }

-- All tickets that the session held are given up in their order, and so many of the replies told each of the ways.
pub record HungUp (gap : Gap) (s : Session) (counts : GivenUpCounts) (s' : Session) : Type 0 where
  pub replies : List Reply
  pub mid : Session
  pub gives_up : GivesUp gap s s.tickets replies mid
  pub counts_are : counts ≡ given_up_counts replies
  pub anew : s' ≡ begins_anew mid

-- ---- what holds of it

-- the finishes of those tickets whose reply is Finished, in the tickets' order
abbrev pub finishes_made : ℕ → List HeldTicket → List Reply → List Event
finishes_made caller [] replies = []
finishes_made caller (ticket ∷ tickets) [] = []
finishes_made caller (ticket ∷ tickets) (reply ∷ replies) = finish_made caller ticket.blob ticket.version reply ++ finishes_made caller tickets replies

-- No ticket is left, each one is counted once, and the finishes that these replies tell are the session's own events since.
pub record LeavesNoTicket (s : Session) (counts : GivenUpCounts) (replies : List Reply) (s' : Session) : Type 0 where
  pub tickets : s'.tickets ≡ []
  pub next : s'.next ≡ 1
  pub limit : s'.limit ≡ max_update
  pub each_once : counts.finished + counts.no_memory + counts.pending + counts.page_fault ≡ length s.tickets
  pub makes : Makes s (finishes_made s.caller s.tickets replies) s'

-- the store has the blob, and the version is finished there
abbrev pub IsFinishedIn : Store → HeldTicket → Type 0
IsFinishedIn store ticket = (b : Blob) × (blob_at store ticket.blob ≡ Some b) × (is_finished b ticket.version ≡ true)

-- the store numbered the version of each of these tickets
abbrev pub AllNumbered : Store → List HeldTicket → Type 0
AllNumbered store [] = Unit {0}
AllNumbered store (ticket ∷ tickets) = IsNumbered (blob_at store ticket.blob) ticket.version × AllNumbered store tickets

-- each ticket whose reply tells that its update is finished has it finished in the store
abbrev pub AllFinished : Store → List HeldTicket → List Reply → Type 0
AllFinished store [] replies = Unit {0}
AllFinished store (ticket ∷ tickets) [] = Unit {0}
AllFinished store (ticket ∷ tickets) (reply ∷ replies) = (tells_finished reply ≡ true → IsFinishedIn store ticket) × AllFinished store tickets replies
