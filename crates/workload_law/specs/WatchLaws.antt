-- What holds of every legal history of a watch.
use Rattle.std.specs.Prelude.{◌≡◌, ℕ, ◌+◌, ◌*◌, ◌≤◌, List, [], ◌∷◌, ◌++◌, Some}
use Rattle.blob_model.specs.Content.{size_of}
use Rattle.blob_model.specs.Limits.{greatest}
use Rattle.blob_model.specs.Store.{Blob, blob_at, published}
use Rattle.blob_model.specs.History.{store_of, IsLegal, events_by}
use Rattle.blob_model.specs.declared.call.Event.{Event}
use Rattle.blob_model.specs.declared.call.Event.TheVariants as Events
use Rattle.blob_model.specs.declared.call.Outcome.{Outcome}
use Rattle.blob_model.specs.declared.call.Outcome.TheVariants as Outcomes
use Rattle.blob_model.specs.declared.call.Place.TheVariants.{Append}
use Rattle.blob_model.specs.declared.call.Refusal.TheVariants as Refusals
use Rattle.request_form.specs.PublishedReads.{read_outcome}
use Rattle.request_form.specs.declared.form.Fault.{Fault}
use Rattle.workload_law.specs.Sessions.{FinishesItsOwn}
use Rattle.workload_law.specs.Ends.{UpdateHindered, IsOutside}
use Rattle.workload_law.specs.declared.watch_plan.WatchPlan.{WatchPlan}
use Rattle.workload_law.specs.Watch.{IsSized, piece_of, range_of, IsWatchPage, IsUnderway, IsWatch, HaveCome}

-- what came before the writer's pass is the blob's making alone, and what came then are the writer's events alone
abbrev pub ComeTogether : Type 0
ComeTogether = (first history : List Event) → HaveCome first history → (first ≡ Events.Create 1 ∷ []) × (history ≡ Events.Create 1 ∷ events_by 2 history)

-- the blob has as many versions as the writer has operations, all published, of 16 bytes each
pub record IsDone (plan : WatchPlan) (b : Blob) : Type 0 where
  pub published : published b ≡ plan.ops
  pub size : size_of b.updates plan.ops ≡ 16 * plan.ops

-- After every legal history of a watch whose writer came to its end the blob is there and done.
abbrev pub WatchesAreDone : Type 0
WatchesAreDone = (plan : WatchPlan) (history : List Event) → IsLegal greatest history → IsWatch plan history
    → (b : Blob) × ((blob_at (store_of greatest history) 1 ≡ Some b) × IsDone plan b)

-- In every legal history that begins with the blob's making the blob is there.
abbrev pub BlobsAreThere : Type 0
BlobsAreThere = (later : List Event) → IsLegal greatest (Events.Create 1 ∷ later) → (b : Blob) × (blob_at (store_of greatest (Events.Create 1 ∷ later)) 1 ≡ Some b)

-- Where a watch's history goes on from what the writer has seen, and the writer finishes only its own, nothing but the outside hinders an operation.
-- A page that is lost then begins within the bytes that the writer appends.
abbrev pub NothingElseHinders : Type 0
NothingElseHinders = (plan : WatchPlan) (history : List Event) → IsSized plan → IsLegal greatest history → IsUnderway plan history → FinishesItsOwn greatest history 2
    → (p op : ℕ) (seen more later : List Event) (fault : Fault) → history ≡ seen ++ more
    → UpdateHindered greatest p 2 1 Append (piece_of plan op) (Events.Create 1 ∷ later) seen fault → IsOutside (IsWatchPage plan p) fault

-- ---- at every moment of a watch
-- a version that is published has the bytes of all updates up to it
pub record IsVersionOf (plan : WatchPlan) (b : Blob) (version : ℕ) : Type 0 where
  pub few : version ≤ plan.ops
  pub size : size_of b.updates version ≡ 16 * version

abbrev pub VersionsAreSized : Type 0
VersionsAreSized = (plan : WatchPlan) (history : List Event) → IsLegal greatest history → IsUnderway plan history
    → (b : Blob) → blob_at (store_of greatest history) 1 ≡ Some b → (version : ℕ) → version ≤ published b → IsVersionOf plan b version

-- what a read of an update's bytes is answered: these bytes, or that the version isn't published yet
pub data PieceOutcome (plan : WatchPlan) (op : ℕ) (outcome : Outcome) : Type 0 where
  read : outcome ≡ Outcomes.Content (piece_of plan op) → PieceOutcome plan op outcome
  unpublished : (last : ℕ) → last ≤ op → outcome ≡ Outcomes.Refused (Refusals.NotPublished (op + 1) last) → PieceOutcome plan op outcome

abbrev pub PiecesAreTold : Type 0
PiecesAreTold = (plan : WatchPlan) (history : List Event) → IsLegal greatest history → IsUnderway plan history
    → (op : ℕ) → PieceOutcome plan op (read_outcome (store_of greatest history) (range_of op))
