-- What the owner of a watch's store has seen, stage by stage, once passes came back.
use Rattle.std.specs.Prelude.{◌≡◌, ◌⊎◌, ℕ, ◌+◌, ◌≤◌, List, [], ◌∷◌, Result, Ok, Err, Contains}
use Rattle.blob_model.specs.Limits.{greatest}
use Rattle.blob_model.specs.History.{events_by}
use Rattle.blob_model.specs.declared.call.Event.{Event}
use Rattle.blob_model.specs.declared.call.Event.TheVariants as Events
use Rattle.turn_lock.specs.History.{Begins}
use Rattle.turn_lock.specs.Shown.{OwnerView}
use Rattle.version_manager.specs.declared.journal.DeskFixed.{DeskFixed}
use Rattle.version_manager.specs.Log.{events}
use Rattle.request_form.specs.declared.form.Fault.{Fault}
use Rattle.client_session.specs.Sessions.{StoreState, SessionState}
use Rattle.workload_law.specs.Ends.{IsOutside, NoPage, CreateHindered}
use Rattle.workload_law.specs.Sessions.{FinishesItsOwn}
use Rattle.workload_law.specs.declared.watch_plan.WatchPlan.{WatchPlan}
use Rattle.workload_law.specs.Watch.{HasBegun}

abbrev pub Entries : Type 0
Entries = List (ℕ × Event)

abbrev pub Owner : Type 0
Owner = OwnerView Event DeskFixed

-- ---- the first session

-- the blob was made, and the first pass is the only one that was made; it came back
pub record IsOpened (owner : Owner) : Type 0 where
  pub made : owner.made ≡ 1
  pub out : owner.out ≡ 0
  pub kept : owner.kept ≡ 1 ∷ []
  pub created : events_by 1 (events owner.seen) ≡ Events.Create 1 ∷ []

-- the passes of a watch's other callers were made since then, and are out
pub record IsCalled (owner : Owner) (readers : ℕ) : Type 0 where
  pub made : owner.made ≡ 3 + readers
  pub out : owner.out ≡ 2 + readers
  pub kept : owner.kept ≡ 1 ∷ []
  pub created : events_by 1 (events owner.seen) ≡ Events.Create 1 ∷ []

-- it wasn't made; `first` is what the session had seen before
pub record IsUnopened (fault : Fault) (owner : Owner) : Type 0 where
  pub made : owner.made ≡ 1
  pub out : owner.out ≡ 0
  pub none : events_by 1 (events owner.seen) ≡ []
  pub seen : Entries
  pub begins : Begins seen owner.seen
  pub hindered : CreateHindered greatest 1 [] (events seen) fault

-- how the opening ended; where memory was wanting for its session no pass may be made
abbrev pub OpensAs : {A : Type 0} → Result A Fault → Owner → Type 0
OpensAs (Ok done) owner = IsOpened owner
OpensAs (Err fault) owner = (owner.out ≡ 0) × (IsOutside NoPage fault ⊎ IsUnopened fault owner)

-- ---- once the writer's pass came back

-- No caller but the first two has events that came back. `first` is what had been seen before the writer's pass was made.
pub record IsWatched (plan : WatchPlan) (first : Entries) (owner : Owner) : Type 0 where
  pub begins : Begins first owner.seen
  pub created_first : events_by 1 (events first) ≡ Events.Create 1 ∷ []
  pub kept_first : Contains owner.kept 1
  pub created : events_by 1 (events owner.seen) ≡ Events.Create 1 ∷ []
  pub fresh : events_by 2 (events first) ≡ []
  pub kept_writer : Contains owner.kept 2
  pub begun : HasBegun plan (events_by 2 (events owner.seen))
  pub own : FinishesItsOwn greatest (events owner.seen) 2
  pub idle : (caller : ℕ) → 3 ≤ caller → Contains owner.kept caller → events_by caller (events owner.seen) ≡ []

-- a session of the store whose caller is none of the first two, and entered nothing
pub record IsIdle {D : Type 0} (store : StoreState) (session : SessionState D) : Type 0 where
  pub of_store : session.store ≡ store
  pub caller : 3 ≤ session.caller
  pub none : events_by session.caller (events session.log) ≡ []

-- What the owner has seen goes on, and of each caller that had come back it stays.
pub record ComesBack (old new : Owner) : Type 0 where
  pub begins : Begins old.seen new.seen
  pub keeps : (caller : ℕ) → Contains old.kept caller → Contains new.kept caller
  pub stays : (caller : ℕ) → Contains old.kept caller → events_by caller (events new.seen) ≡ events_by caller (events old.seen)

-- As passes of sessions came back that entered nothing, so it stays, and no other caller than the first two has events.
pub record LeavesWatch (old new : Owner) : Type 0 where
  pub comes : ComesBack old new
  pub watched : (plan : WatchPlan) (first : Entries) → IsWatched plan first old → IsWatched plan first new
