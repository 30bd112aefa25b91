-- What the callers of a watch do to the store.
use Rattle.std.specs.Prelude.{◌≡◌, ◌≢◌, ℕ, zero, suc, ◌+◌, ◌*◌, ◌<◌, ◌≤◌, List, [], ◌∷◌, ◌++◌}
use Rattle.blob_model.specs.History.{events_by}
use Rattle.blob_model.specs.declared.call.Place.TheVariants.{Append}
use Rattle.blob_model.specs.declared.call.Event.{Event}
use Rattle.blob_model.specs.declared.call.Event.TheVariants as Events
use Rattle.request_form.specs.PublishedReads.{Range}
use Rattle.workload_law.specs.Pieces.{cell_of}
use Rattle.workload_law.specs.declared.watch_plan.WatchPlan.{WatchPlan}
use Rattle.workload_law.specs.declared.watch_plan.WatchSummary.{WatchSummary}

-- a plan that a watch takes
pub record IsSized (plan : WatchPlan) : Type 0 where
  pub some_readers : 1 ≤ plan.readers
  pub readers : plan.readers ≤ 16
  pub some_ops : 1 ≤ plan.ops
  pub ops : plan.ops ≤ 4096

-- the bytes of an update, which count from 0: those of a load's cell whose worker is 0
abbrev pub piece_of : WatchPlan → ℕ → List ℕ
piece_of plan op = cell_of plan.seed 0 op

-- where they lie: they are the last bytes of the version that the update makes
abbrev pub range_of : ℕ → Range
range_of op = record { blob = 1; version = op + 1; offset = 16 * op; count = 16 }

-- a page of p bytes that begins within the bytes that the writer appends
abbrev pub IsWatchPage : WatchPlan → ℕ → ℕ → Type 0
IsWatchPage plan p page = p * page < 16 * plan.ops

-- The writer's operation, as caller 2: its bytes are appended to blob 1, which is numbered, and finished under a version of the blob.
abbrev pub operation : WatchPlan → ℕ → ℕ → List Event
operation plan op version = Events.Assign 2 1 Append (piece_of plan op) ∷ Events.Finish 2 1 version ∷ []

-- these are the events of the writer's first operations, in order
abbrev pub HasWritten : WatchPlan → ℕ → List Event → Type 0
HasWritten plan zero events = events ≡ []
HasWritten plan (suc op) events = (before : List Event) × ((version : ℕ) × (HasWritten plan op before × (events ≡ before ++ operation plan op version)))

-- the events of a writer that may not be at its end: a beginning of those of its operations
abbrev pub HasBegun : WatchPlan → List Event → Type 0
HasBegun plan events = (rest : List Event) × HasWritten plan plan.ops (events ++ rest)

-- The history of a watch that is under way, or that ended early: caller 1 made blob 1, and then come the writer's events alone.
pub record IsUnderway (plan : WatchPlan) (history : List Event) : Type 0 where
  pub written : List Event
  pub is : history ≡ Events.Create 1 ∷ written
  pub begun : HasBegun plan written

-- the history of a watch whose writer came to its end
pub record IsWatch (plan : WatchPlan) (history : List Event) : Type 0 where
  pub written : List Event
  pub is : history ≡ Events.Create 1 ∷ written
  pub all : HasWritten plan plan.ops written

-- What is known of each caller once all passes came back. `first` is what had been seen before the writer's pass was made.
pub record HaveCome (first history : List Event) : Type 0 where
  pub more : List Event
  pub begins : history ≡ first ++ more
  pub made_first : events_by 1 first ≡ Events.Create 1 ∷ []
  pub made : events_by 1 history ≡ Events.Create 1 ∷ []
  pub fresh : events_by 2 first ≡ []
  pub none : (caller : ℕ) → caller ≢ 1 → caller ≢ 2 → events_by caller history ≡ []

-- what every watch of the plan comes to
abbrev pub summary_of : WatchPlan → WatchSummary
summary_of plan = record { size = 16 * plan.ops; versions = plan.ops; agree = plan.readers }
