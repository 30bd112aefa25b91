use Rattle.std.specs.Prelude.{◌≡◌, ℕ, ◌+◌, ◌*◌, ◌^◌, ◌<◌, ◌≤◌, List, ◌++◌, Some, sum}
use Rattle.blob_model.specs.Content.{content}
use Rattle.blob_model.specs.Limits.{greatest}
use Rattle.blob_model.specs.Store.{Store, Blob, blob_at, assigned, published, size_now}
use Rattle.blob_model.specs.Answer.{answer, bytes_of}
use Rattle.blob_model.specs.History.{store_of, IsLegal}
use Rattle.blob_model.specs.declared.call.Call.TheVariants as Calls
use Rattle.blob_model.specs.declared.call.Place.TheVariants.{WriteAt, Append}
use Rattle.blob_model.specs.declared.call.Refusal.{Refusal}
use Rattle.blob_model.specs.declared.call.Refusal.TheVariants as Refusals
use Rattle.blob_model.specs.declared.call.Event.{Event}
use Rattle.blob_model.specs.declared.call.Outcome.TheVariants as Outcomes
use Rattle.workload_law.specs.declared.plan.LoadPlan.{LoadPlan}
use Rattle.workload_law.specs.Pieces.{record_of, cell_of, records_by, records_of, in_order_of}
use Rattle.workload_law.specs.Load.{all_ops, IsSized, opening, operation, cell_offset, HasDone, HasBegun, IsLoad, IsUnderway}
use Rattle.workload_law.specs.Summed.{cells_sum, summary_of, summary_told}

-- The log and the grid after a load: nothing waits, each worker's records stand in the log once each and in order, and each
-- cell lies at its place in the grid.
pub record IsDone (plan : LoadPlan) (log grid : Blob) : Type 0 where
  pub log_versions : assigned log ≡ all_ops plan
  pub log_published : published log ≡ all_ops plan
  pub log_size : size_now log ≡ 16 * all_ops plan
  pub records : (worker : ℕ) → 1 ≤ worker → worker ≤ plan.workers → records_by worker (content log.updates (assigned log)) ≡ records_of worker plan.ops
  pub grid_versions : assigned grid ≡ all_ops plan + 1
  pub grid_published : published grid ≡ all_ops plan + 1
  pub grid_size : size_now grid ≡ 16 * all_ops plan
  pub cells : (worker op : ℕ) → 1 ≤ worker → worker ≤ plan.workers → op < plan.ops
      → bytes_of grid (assigned grid) (cell_offset plan worker op) 16 ≡ cell_of plan.seed worker op
  pub summary : summary_told plan log grid ≡ summary_of plan

-- After every legal history of a load the log and the grid are there, done, and come to the plan's summary. Of a plan it is
-- asked only that the workers' numbers fit the records.
abbrev pub SummariesHold : Type 0
SummariesHold = (plan : LoadPlan) (history : List Event) → plan.workers < 2 ^ 64 → IsLegal greatest history → IsLoad plan history
    → (log : Blob)
    × ((grid : Blob) × ((blob_at (store_of greatest history) 1 ≡ Some log) × ((blob_at (store_of greatest history) 2 ≡ Some grid) × IsDone plan log grid)))

-- What a look at both blobs is answered by a store: the last version and its size, and the bytes of that version, which come to
-- the plan's summary.
pub record IsReadBack (plan : LoadPlan) (store : Store) (caller : ℕ) : Type 0 where
  pub log_recent : (answer store caller (Calls.Recent 1)).1 ≡ Outcomes.Recent (all_ops plan) (16 * all_ops plan)
  pub log_bytes : List ℕ
  pub log_read : (answer store caller (Calls.Read 1 (all_ops plan) 0 (16 * all_ops plan))).1 ≡ Outcomes.Content log_bytes
  pub in_order : in_order_of plan.workers plan.ops log_bytes ≡ plan.workers
  pub grid_recent : (answer store caller (Calls.Recent 2)).1 ≡ Outcomes.Recent (all_ops plan + 1) (16 * all_ops plan)
  pub grid_bytes : List ℕ
  pub grid_read : (answer store caller (Calls.Read 2 (all_ops plan + 1) 0 (16 * all_ops plan))).1 ≡ Outcomes.Content grid_bytes
  pub grid_sum : sum grid_bytes ≡ cells_sum plan

-- Whoever looks after a load is answered so.
abbrev pub LoadsReadBack : Type 0
LoadsReadBack = (plan : LoadPlan) (history : List Event) → plan.workers < 2 ^ 64 → IsLegal greatest history → IsLoad plan history
    → (caller : ℕ) → IsReadBack plan (store_of greatest history) caller

-- ---- no load is refused for its size
-- where a store refuses the updates of a worker's operation, too many updates of that blob wait
pub record IsRefusedWhenFull (plan : LoadPlan) (store : Store) (worker op : ℕ) : Type 0 where
  pub log : (refusal : Refusal) → (answer store (worker + 1) (Calls.Assign 1 Append (record_of worker op))).1 ≡ Outcomes.Refused refusal
      → refusal ≡ Refusals.TooManyOpen greatest.max_open
  pub grid : (refusal : Refusal) → (answer store (worker + 1) (Calls.Assign 2 (WriteAt (cell_offset plan worker op)) (cell_of plan.seed worker op))).1 ≡ Outcomes.Refused refusal
      → refusal ≡ Refusals.TooManyOpen greatest.max_open

-- so it is at every moment of a load
abbrev pub RefusedWhenFull : Type 0
RefusedWhenFull = (plan : LoadPlan) (history : List Event) → IsSized plan → IsLegal greatest history → IsUnderway plan history
    → (worker op : ℕ) → 1 ≤ worker → worker ≤ plan.workers → op < plan.ops → IsRefusedWhenFull plan (store_of greatest history) worker op

-- nothing of the opening is refused
abbrev pub OpeningsGoOn : Type 0
OpeningsGoOn = (plan : LoadPlan) → IsSized plan → IsLegal greatest (opening plan)

-- a whole load is one under way
abbrev pub LoadsAreUnderway : Type 0
LoadsAreUnderway = (plan : LoadPlan) (history : List Event) → IsLoad plan history → IsUnderway plan history

-- each beginning that has the opening was under way
abbrev pub BeginningsAreUnderway : Type 0
BeginningsAreUnderway = (plan : LoadPlan) (history more later : List Event) → IsUnderway plan (history ++ more) → history ≡ opening plan ++ later → IsUnderway plan history

-- at every moment of a load both blobs are there
abbrev pub BlobsAreThere : Type 0
BlobsAreThere = (plan : LoadPlan) (history : List Event) → IsLegal greatest history → IsUnderway plan history
    → (log : Blob) × ((grid : Blob) × ((blob_at (store_of greatest history) 1 ≡ Some log) × (blob_at (store_of greatest history) 2 ≡ Some grid)))

-- a worker that stops within an operation has begun
abbrev pub StoppedHaveBegun : Type 0
StoppedHaveBegun = (plan : LoadPlan) (worker op log_version grid_version : ℕ) (before done rest : List Event) → HasDone plan worker op before → op < plan.ops
    → done ++ rest ≡ operation plan worker op log_version grid_version → HasBegun plan worker (before ++ done)
