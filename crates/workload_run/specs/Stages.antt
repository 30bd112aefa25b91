-- What the owner of a load's store has seen, stage by stage, once the passes came back.
use Rattle.std.specs.Prelude.{◌≡◌, ◌⊎◌, ℕ, ◌+◌, ◌<◌, ◌≤◌, List, [], ◌++◌, Result, Ok, Err, Contains}
use Rattle.blob_model.specs.Limits.{greatest}
use Rattle.blob_model.specs.History.{store_of, IsLegal, events_by}
use Rattle.blob_model.specs.declared.call.Event.{Event}
use Rattle.turn_lock.specs.History.{LacksUngiven}
use Rattle.turn_lock.specs.Shown.{OwnerView}
use Rattle.version_manager.specs.declared.journal.DeskFixed.{DeskFixed}
use Rattle.version_manager.specs.Log.{tagged, events}
use Rattle.request_form.specs.declared.form.Fault.{Fault}
use Rattle.workload_run.specs.Callers.{CameBack}
use Rattle.workload_law.specs.declared.plan.LoadPlan.{LoadPlan}
use Rattle.workload_law.specs.declared.plan.Summary.{Summary}
use Rattle.workload_law.specs.Load.{opened_with, HasDone, HasBegun, IsLoad, IsLoadPage}
use Rattle.workload_law.specs.Laws.{IsReadBack}
use Rattle.workload_law.specs.Sessions.{FinishesItsOwn}
use Rattle.workload_law.specs.Summed.{summary_of}
use Rattle.workload_law.specs.Ends.{IsOutside}
use Rattle.workload_law.specs.Closing.{OpeningHindered, OperationHindered}

-- ---- the first session

-- the whole opening is there, and the first pass is the only one that was made
pub record IsOpened (plan : LoadPlan) (owner : OwnerView Event DeskFixed) : Type 0 where
  pub made : owner.made ≡ 1
  pub out : owner.out ≡ 0
  pub kept : Contains owner.kept 1
  pub version : ℕ
  pub opened : events_by 1 (events owner.seen) ≡ opened_with plan version
  pub own : FinishesItsOwn greatest (events owner.seen) 1

-- it isn't, for what hindered one of its steps, where pages have p bytes
pub record IsHalfOpened (plan : LoadPlan) (p : ℕ) (fault : Fault) (owner : OwnerView Event DeskFixed) : Type 0 where
  pub made : owner.made ≡ 1
  pub out : owner.out ≡ 0
  pub own : FinishesItsOwn greatest (events owner.seen) 1
  pub first : List Event
  pub seen : List Event
  pub more : List Event
  pub split : events owner.seen ≡ seen ++ more
  pub hindered : OpeningHindered plan p first seen fault

-- how the opening ended; where memory was wanting for its session no pass may be made
abbrev pub OpensAs : {A : Type 0} → LoadPlan → ℕ → Result A Fault → OwnerView Event DeskFixed → Type 0
OpensAs plan p (Ok done) owner = IsOpened plan owner
OpensAs plan p (Err fault) owner = (owner.out ≡ 0) × (IsOutside (IsLoadPage plan p) fault ⊎ IsHalfOpened plan p fault owner)

-- ---- the workers

-- The workers' passes came back. `first` is what had been seen before they were made.
pub record HaveCome (plan : LoadPlan) (first : List Event) (owner : OwnerView Event DeskFixed) : Type 0 where
  pub made : owner.made ≡ plan.workers + 1
  pub out : owner.out ≡ 0
  pub kept : (caller : ℕ) → 1 ≤ caller → caller ≤ plan.workers + 1 → Contains owner.kept caller
  pub opened : CameBack 1 first (events owner.seen)
  pub fresh : (worker : ℕ) → 1 ≤ worker → worker ≤ plan.workers → events_by (worker + 1) first ≡ []
  pub begun : (worker : ℕ) → 1 ≤ worker → worker ≤ plan.workers → HasBegun plan worker (events_by (worker + 1) (events owner.seen))
  pub own : (worker : ℕ) → 1 ≤ worker → worker ≤ plan.workers → FinishesItsOwn greatest (events owner.seen) (worker + 1)

-- all of them came to their ends
pub record HaveDone (plan : LoadPlan) (first : List Event) (owner : OwnerView Event DeskFixed) : Type 0 where
  pub come : HaveCome plan first owner
  pub done : (worker : ℕ) → 1 ≤ worker → worker ≤ plan.workers → HasDone plan worker plan.ops (events_by (worker + 1) (events owner.seen))

-- one of them didn't, for what hindered an operation, where pages have p bytes
pub record HaveStopped (plan : LoadPlan) (p : ℕ) (first : List Event) (fault : Fault) (owner : OwnerView Event DeskFixed) : Type 0 where
  pub come : HaveCome plan first owner
  pub worker : ℕ
  pub some : 1 ≤ worker
  pub last : worker ≤ plan.workers
  pub op : ℕ
  pub is_op : op < plan.ops
  pub seen : List Event
  pub more : List Event
  pub split : events owner.seen ≡ seen ++ more
  pub later : List Event
  pub hindered : OperationHindered plan p worker op (first ++ later) seen fault

-- how the work ended; where memory was wanting for the workers' sessions fewer passes may be made
abbrev pub WorksAs : {A : Type 0} → LoadPlan → ℕ → List Event → Result A Fault → OwnerView Event DeskFixed → Type 0
WorksAs plan p first (Ok done) owner = HaveDone plan first owner
WorksAs plan p first (Err fault) owner = (owner.out ≡ 0) × (IsOutside (IsLoadPage plan p) fault ⊎ HaveStopped plan p first fault owner)

-- ---- the last session

-- what was told is the plan's summary, or the outside failed, where pages have p bytes
abbrev pub TellsSummary : LoadPlan → ℕ → Result Summary Fault → Type 0
TellsSummary plan p (Ok summary) = summary ≡ summary_of plan
TellsSummary plan p (Err fault) = IsOutside (IsLoadPage plan p) fault

-- One more pass was made and came back, and its caller has no event. Where it saw no more than had been seen before, what was told is what a load's store tells.
pub record HasLooked (plan : LoadPlan) (p : ℕ) (old : OwnerView Event DeskFixed) (told : Result Summary Fault) (new : OwnerView Event DeskFixed) : Type 0 where
  pub made : new.made ≡ old.made + 1
  pub out : new.out ≡ old.out
  pub later : List Event
  pub begins : events new.seen ≡ events old.seen ++ later
  pub same : (caller : ℕ) → Contains old.kept caller → events_by caller (events new.seen) ≡ events_by caller (events old.seen)
  pub none : events_by (old.made + 1) (events new.seen) ≡ []
  pub tells : later ≡ [] → IsReadBack plan (store_of greatest (events old.seen)) (old.made + 1) → TellsSummary plan p told

-- how the look ended; where memory was wanting for its session no pass may be made
abbrev pub LooksAs : LoadPlan → ℕ → OwnerView Event DeskFixed → Result Summary Fault → OwnerView Event DeskFixed → Type 0
LooksAs plan p old (Ok summary) new = HasLooked plan p old (Ok summary) new
LooksAs plan p old (Err fault) new = (new.out ≡ old.out) × (IsOutside (IsLoadPage plan p) fault ⊎ HasLooked plan p old (Err fault) new)

-- ---- all of them

-- The first session and each worker finished only what they had numbered themselves.
abbrev pub AreFinishedByOwn : LoadPlan → List Event → Type 0
AreFinishedByOwn plan history = (caller : ℕ) → 1 ≤ caller → caller ≤ plan.workers + 1 → FinishesItsOwn greatest history caller

-- A load came to its plan's summary; or it ended early, and the outside was the cause. A page that was lost begins within the load's
-- blobs, whose pages have p bytes.
abbrev pub TellsLoad : LoadPlan → ℕ → Result Summary Fault → List Event → Type 0
TellsLoad plan p (Ok summary) history = (summary ≡ summary_of plan) × IsLoad plan history × AreFinishedByOwn plan history
TellsLoad plan p (Err fault) history = IsOutside (IsLoadPage plan p) fault

-- so it is once the store is closed: then its history is legal, and has no events of callers that weren't given
abbrev pub ClosesAs : LoadPlan → ℕ → Result Summary Fault → OwnerView Event DeskFixed → Type 0
ClosesAs plan p told owner = LacksUngiven owner.made owner.seen → IsLegal greatest (events owner.seen) → owner.seen ≡ tagged (events owner.seen) → TellsLoad plan p told (events owner.seen)
