-- A store that sessions share, and a session of it: what their clauses see.
use Rattle.std.specs.Prelude.{◌≡◌, ◌≢◌, ℕ, ◌<◌, Bool, List, [], ◌++◌, Some, None, sum_by, Contains}
use Rattle.atomic_table.specs.Seated.{TableId}
use Rattle.blob_model.specs.Content.{Update}
use Rattle.blob_model.specs.Store.{blob_at}
use Rattle.blob_model.specs.History.{store_of}
use Rattle.blob_model.specs.declared.call.Call.TheVariants as Calls
use Rattle.blob_model.specs.declared.call.Event.{Event}
use Rattle.blob_model.specs.declared.call.Outcome.{Outcome}
use Rattle.blob_model.specs.declared.call.Outcome.TheVariants as Outcomes
use Rattle.blob_model.specs.declared.call.Refusal.{Refusal}
use Rattle.blob_model.specs.declared.call.Refusal.TheVariants as Refusals
use Rattle.range_log.specs.Updates.{extents}
use Rattle.range_log.specs.Visits.{visits}
use Rattle.turn_lock.specs.History.{Begins}
use Rattle.turn_lock.specs.Shown.{PassView, OwnerView}
use Rattle.version_manager.specs.Desks.{updates_or_none}
use Rattle.version_manager.specs.Log.{IsLog, events}
use Rattle.version_manager.specs.declared.journal.DeskFixed.{DeskFixed}
use Rattle.request_form.specs.Answers.{max_read, ranges_fault}
use Rattle.request_form.specs.PublishedReads.{IsPublishedIn, Range, Tells, read_outcome}
use Rattle.request_form.specs.Session.{Session, outcome_at}
use Rattle.request_form.specs.declared.form.Reply.{Reply}
use Rattle.client_session.specs.Tickets.{OpenUpdate, tickets_of}
use Rattle.range_reader.specs.Opened.{KeptVersion}
pub use Rattle.client_session.specs.Limits.{longest}

-- a store that sessions share: the lock of its desk, what no act changes, how many providers it has, and how many replicas of a page
pub record StoreState : Type 0 where
  pub lock : TableId
  pub fixed : DeskFixed
  pub providers : ℕ
  pub replicas : ℕ

-- The pass is of the store: of its lock, with its fixed data, and what it has seen is a history of it.
pub record IsPassOf (store : StoreState) (pass : PassView Event DeskFixed) : Type 0 where
  pub lock : pass.lock ≡ store.lock
  pub fixed : pass.fixed ≡ Some store.fixed
  pub log : IsLog store.fixed pass.seen

-- the owner is of the store in the same way
pub record IsOwnerOf (store : StoreState) (owner : OwnerView Event DeskFixed) : Type 0 where
  pub lock : owner.lock ≡ store.lock
  pub fixed : owner.fixed ≡ Some store.fixed
  pub log : IsLog store.fixed owner.seen

-- the history goes on, and is one of the store
pub record Went (f : DeskFixed) (log log' : List (ℕ × Event)) : Type 0 where
  pub begins : Begins log log'
  pub log_is : IsLog f log'

-- A session: its store, its caller, the history that it has seen, each event with its caller, the updates that it has numbered
-- and not yet finished, the number of the next one, its doors, the most bytes of an update, whether the store refused the last update
-- that it tried, so that it looks first at the next ones, how many turns it has had, and the versions that it has opened and keeps.
pub record SessionState (D : Type 0) : Type 0 where
  pub store : StoreState
  pub caller : ℕ
  pub log : List (ℕ × Event)
  pub held : List OpenUpdate
  pub next : ℕ
  pub doors : List D
  pub limit : ℕ
  pub looks_first : Bool
  pub turns : ℕ
  pub opened : List KeptVersion

-- a session as the definition of its answers sees it
abbrev pub session_at : DeskFixed → ℕ → List (ℕ × Event) → List OpenUpdate → ℕ → ℕ → Session
session_at f caller log held next limit = record {
  fixed = record { limits = f.limits; page = f.page_size };
  caller = caller;
  seen = events log;
  tickets = tickets_of held;
  next = next;
  limit = limit;
}

abbrev pub session_of : {D : Type 0} → SessionState D → Session
session_of s = session_at s.store.fixed s.caller s.log s.held s.next s.limit

-- the pass that the session works with
abbrev pub pass_of : {D : Type 0} → SessionState D → PassView Event DeskFixed
pass_of s = record { lock = s.store.lock; caller = s.caller; seen = s.log; fixed = Some s.store.fixed; turns = s.turns }

-- what no call of a session changes, and what it has seen only grows
pub record Continues {D : Type 0} (old new : SessionState D) : Type 0 where
  pub store : new.store ≡ old.store
  pub caller : new.caller ≡ old.caller
  pub begins : Begins old.log new.log

-- the updates of a blob, in the store of all that the session has seen; one that isn't there has none
abbrev pub updates_seen : Session → ℕ → List Update
updates_seen s blob = updates_or_none (blob_at (store_of s.fixed.limits s.seen) blob)

-- how many nodes a read of that many bytes may visit
abbrev pub visits_seen : Session → ℕ → ℕ → ℕ → ℕ → ℕ
visits_seen s blob version offset count = visits s.fixed.page (extents (updates_seen s blob)) version offset count

-- A read that is refused, and one of too many bytes, takes no node step. The session is the one after the read.
pub record NoStepIfRefused (s : Session) (blob version offset count before after : ℕ) : Type 0 where
  pub refused : (r : Refusal) → outcome_at s [] (Calls.Read blob version offset count) ≡ Outcomes.Refused r → after ≡ before
  pub too_long : max_read < count → after ≡ before

-- how many nodes a read of many ranges may visit: the sum over the ranges
abbrev pub all_visits_seen : Session → ℕ → ℕ → List (ℕ × ℕ) → ℕ
all_visits_seen s blob version ranges = sum_by (λ range. visits_seen s blob version range.0 range.1) ranges

-- A read of many ranges takes no node step where one of them is refused, nor where they are too long together. The session is the
-- one after the read.
pub record NoStepIfOneRefused (s : Session) (blob version : ℕ) (ranges : List (ℕ × ℕ)) (before after : ℕ) : Type 0 where
  pub refused : (range : ℕ × ℕ) (r : Refusal) → Contains ranges range → outcome_at s [] (Calls.Read blob version range.0 range.1) ≡ Outcomes.Refused r → after ≡ before
  pub too_long : ranges_fault 0 ranges ≢ None → after ≡ before

-- it isn't said that the version is pending
abbrev pub IsSettled : Outcome → Type 0
IsSettled outcome = (version held : ℕ) → outcome ≢ Outcomes.Refused (Refusals.Pending version held)

-- The reply to a read of that range, by a session that has seen this by then. Where the version is published in any history that it has seen, the reply is what
-- the store of that history answers, unless the read is too long or the outside failed.
abbrev pub AnswersAsPublished : Session → Range → Reply → Type 0
AnswersAsPublished s range reply = (history more : List Event) → s.seen ≡ history ++ more → IsPublishedIn (store_of s.fixed.limits history) range.blob range.version
    → Tells (read_outcome (store_of s.fixed.limits history) range) range.count reply
