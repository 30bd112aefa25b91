-- What the callers of a load do to the store.
use Rattle.std.specs.Prelude.{◌≡◌, ◌⊎◌, ℕ, zero, suc, ◌+◌, ◌-◌, ◌*◌, ◌<◌, ◌≤◌, List, [], ◌∷◌, ◌++◌, replicate}
use Rattle.blob_model.specs.History.{events_by}
use Rattle.blob_model.specs.declared.call.Place.TheVariants.{WriteAt, Append}
use Rattle.blob_model.specs.declared.call.Event.{Event}
use Rattle.blob_model.specs.declared.call.Event.TheVariants as Events
use Rattle.workload_law.specs.declared.plan.LoadPlan.{LoadPlan}
use Rattle.workload_law.specs.Pieces.{record_of, cell_of}

-- how many operations the workers do together
abbrev pub all_ops : LoadPlan → ℕ
all_ops plan = plan.workers * plan.ops

-- The page begins within the bytes to which the log and the grid of a load come, which are as many in both. Pages have p bytes, and are
-- numbered from 0.
abbrev pub IsLoadPage : LoadPlan → ℕ → ℕ → Type 0
IsLoadPage plan p page = p * page < 16 * all_ops plan

-- a plan that a load takes
pub record IsSized (plan : LoadPlan) : Type 0 where
  pub some_workers : 1 ≤ plan.workers
  pub workers : plan.workers ≤ 16
  pub some_ops : 1 ≤ plan.ops
  pub ops : plan.ops ≤ 4096

-- the bytes with which the grid begins
abbrev pub zeros_of : LoadPlan → List ℕ
zeros_of plan = replicate (16 * all_ops plan) 0

-- caller 1 makes the log and the grid, and fills the grid with zeros, which is finished under a version of it
abbrev pub opened_with : LoadPlan → ℕ → List Event
opened_with plan version = Events.Create 1 ∷ Events.Create 1 ∷ Events.Assign 1 2 Append (zeros_of plan) ∷ Events.Finish 1 2 version ∷ []

-- under its first version
abbrev pub opening : LoadPlan → List Event
opening plan = opened_with plan 1

-- where the cell of a worker's operation lies in the grid; workers count from 1, operations from 0
abbrev pub cell_offset : LoadPlan → ℕ → ℕ → ℕ
cell_offset plan worker op = 16 * (op * plan.workers + (worker - 1))

-- A worker's operation: its record is appended to the log, and its cell written into the grid. Each is numbered, and finished
-- under a version of that blob.
abbrev pub operation : LoadPlan → ℕ → ℕ → ℕ → ℕ → List Event
operation plan worker op log_version grid_version =
    Events.Assign (worker + 1) 1 Append (record_of worker op)
    ∷ Events.Finish (worker + 1) 1 log_version
    ∷ Events.Assign (worker + 1) 2 (WriteAt (cell_offset plan worker op)) (cell_of plan.seed worker op)
    ∷ Events.Finish (worker + 1) 2 grid_version
    ∷ []

-- these are the events of a worker's first operations, in order
abbrev pub HasDone : LoadPlan → ℕ → ℕ → List Event → Type 0
HasDone plan worker zero events = events ≡ []
HasDone plan worker (suc op) events =
    (before : List Event) × ((log_version : ℕ) × ((grid_version : ℕ) × (HasDone plan worker op before × (events ≡ before ++ operation plan worker op log_version grid_version))))

-- The history of a load, whatever the order in which the workers came: caller 1's events stand before all others, worker w
-- did its operations as caller w + 1, and no other caller has events.
pub record IsLoad (plan : LoadPlan) (history : List Event) : Type 0 where
  pub later : List Event
  pub begins : history ≡ opening plan ++ later
  pub opened : events_by 1 history ≡ opening plan
  pub worked : (worker : ℕ) → 1 ≤ worker → worker ≤ plan.workers → HasDone plan worker plan.ops (events_by (worker + 1) history)
  pub only : (caller : ℕ) → (caller ≡ 0) ⊎ (plan.workers + 1 < caller) → events_by caller history ≡ []

-- the events of a worker that may not be at its end: a beginning of those of its operations
abbrev pub HasBegun : LoadPlan → ℕ → List Event → Type 0
HasBegun plan worker events = (rest : List Event) × HasDone plan worker plan.ops (events ++ rest)

-- The history of a load that is under way, or that some workers ended early.
pub record IsUnderway (plan : LoadPlan) (history : List Event) : Type 0 where
  pub later : List Event
  pub begins : history ≡ opening plan ++ later
  pub opened : events_by 1 history ≡ opening plan
  pub begun : (worker : ℕ) → 1 ≤ worker → worker ≤ plan.workers → HasBegun plan worker (events_by (worker + 1) history)
  pub only : (caller : ℕ) → (caller ≡ 0) ⊎ (plan.workers + 1 < caller) → events_by caller history ≡ []
