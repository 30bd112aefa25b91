-- Hanging up, ticket by ticket.
use Rattle.std.specs.Prelude.{◌≡◌, ℕ, ◌+◌, ◌-◌, ◌*◌, List, ◌++◌, Bool, cond, ◌||◌, length, count_by, sum_by}
use Rattle.faults.specs.Counts.{RoseBy}
use Rattle.blob_model.specs.Store.{blob_at}
use Rattle.blob_model.specs.History.{AllOther, store_of}
use Rattle.version_manager.specs.Desks.{finished_or_not}
use Rattle.request_form.specs.Session.{Session, HeldTicket}
use Rattle.request_form.specs.HangUp.{GivenUp, GivesUp, GivenUpCounts, given_up_counts, tells_finished, tells_no_memory, tells_pending, tells_page_fault}
use Rattle.request_form.specs.Replies.{fault_count}
use Rattle.request_form.specs.declared.form.Reply.{Reply}
use Rattle.client_session.specs.declared.done.HangUp.{HangUp}
use Rattle.client_session.specs.Sessions.{SessionState, Continues, session_of}
use Rattle.client_session.specs.TurnCounts.{UpTo}

-- whether the version of that ticket is finished in the store of all that the session has seen
abbrev pub is_finished_seen : Session → HeldTicket → Bool
is_finished_seen s t = finished_or_not (blob_at (store_of s.fixed.limits s.seen) t.blob) t.version

-- how many of the versions of these tickets are
abbrev pub finished_seen : Session → List HeldTicket → ℕ
finished_seen s ts = count_by (is_finished_seen s) ts

-- what a session that hung up counted
abbrev pub counts_of : HangUp → GivenUpCounts
counts_of h = record { finished = h.finished; no_memory = h.no_memory; pending = h.pending; page_fault = h.page_fault }

-- with one more ticket, to whose finish that was the reply
abbrev pub counted : GivenUpCounts → Reply → GivenUpCounts
counted c reply = record {
  finished = c.finished + cond (tells_finished reply) 1 0;
  no_memory = c.no_memory + cond (tells_no_memory reply) 1 0;
  pending = c.pending + cond (tells_pending reply) 1 0;
  page_fault = c.page_fault + cond (tells_page_fault reply) 1 0;
}

-- how many tickets they count
abbrev pub all_counted : GivenUpCounts → ℕ
all_counted c = c.finished + c.no_memory + c.pending + c.page_fault

-- whether the finish was hindered, after which the ticket is still held
abbrev pub tells_hindered : Reply → Bool
tells_hindered reply = tells_no_memory reply || (tells_pending reply || tells_page_fault reply)

-- The first ticket is given up, and the others are held still. The reply to its finish tells one of the four ways.
pub record GivesUpOne (s : Session) (t : HeldTicket) (ts : List HeldTicket) (reply : Reply) (s' : Session) : Type 0 where
  pub given_up : GivenUp AllOther s t reply s'
  pub left : s'.tickets ≡ ts
  pub once : cond (tells_finished reply) 1 0 + cond (tells_no_memory reply) 1 0 + cond (tells_pending reply) 1 0 + cond (tells_page_fault reply) 1 0 ≡ 1
  pub faults : fault_count reply ≡ cond (tells_page_fault reply) 1 0

-- some tickets are given up, and the others are held still
pub record GivingUp {D : Type 0} (faults : D → ℕ) (old new : SessionState D) (counts : GivenUpCounts) : Type 0 where
  pub gone : List HeldTicket
  pub replies : List Reply
  pub split : (session_of old).tickets ≡ gone ++ (session_of new).tickets
  pub gives_up : GivesUp AllOther (session_of old) gone replies (session_of new)
  pub counts_are : counts ≡ given_up_counts replies
  pub each_once : all_counted counts + length new.held ≡ length old.held
  pub faults_rose : RoseBy counts.page_fault (sum_by faults old.doors) (sum_by faults new.doors)
  pub goes_on : Continues old new
  pub turns : UpTo (2 * (length old.held - length new.held)) old.turns new.turns
