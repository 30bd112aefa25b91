-- What is known of a load's history once every caller's pass came back.
use Rattle.std.specs.Prelude.{◌≡◌, ◌≢◌, ℕ, ◌+◌, ◌<◌, ◌≤◌, List, [], ◌∷◌, ◌++◌, length}
use Rattle.blob_model.specs.Limits.{Bounds, greatest}
use Rattle.blob_model.specs.Store.{Store}
use Rattle.blob_model.specs.Answer.{answer}
use Rattle.blob_model.specs.History.{IsLegal, events_by}
use Rattle.blob_model.specs.declared.call.Call.TheVariants as Calls
use Rattle.blob_model.specs.declared.call.Event.{Event}
use Rattle.blob_model.specs.declared.call.Event.TheVariants as Events
use Rattle.blob_model.specs.declared.call.Outcome.TheVariants as Outcomes
use Rattle.blob_model.specs.declared.call.Place.TheVariants.{WriteAt, Append}
use Rattle.request_form.specs.declared.form.Fault.{Fault}
use Rattle.workload_law.specs.declared.plan.LoadPlan.{LoadPlan}
use Rattle.workload_law.specs.Pieces.{record_of, cell_of}
use Rattle.workload_law.specs.Load.{IsSized, zeros_of, opening, opened_with, cell_offset, IsLoadPage, IsUnderway}
use Rattle.workload_law.specs.Sessions.{FinishesItsOwn}
use Rattle.workload_law.specs.Ends.{CreateHindered, UpdateHindered, IsOutside}

-- where no other caller has an event in what a caller saw, all of it is the caller's own
abbrev pub SeenAlone : Type 0
SeenAlone = (caller : ℕ) (seen : List Event) → ((other : ℕ) → other ≢ caller → events_by other seen ≡ []) → events_by caller seen ≡ seen

-- where no caller has more events in a longer history, it isn't longer
abbrev pub NobodysAreNone : Type 0
NobodysAreNone = (history more : List Event) → ((caller : ℕ) → events_by caller (history ++ more) ≡ events_by caller history) → more ≡ []

-- the zeros are the grid's first version
abbrev pub OpeningsAreFirst : Type 0
OpeningsAreFirst = (plan : LoadPlan) (version : ℕ) (more : List Event) → IsLegal greatest (opened_with plan version ++ more) → version ≡ 1

-- who finished only its own as far as it had seen did so in a history that has no more events of it
abbrev pub OwnsStay : Type 0
OwnsStay = (limits : Bounds) (caller : ℕ) (seen more : List Event) → events_by caller (seen ++ more) ≡ events_by caller seen
    → FinishesItsOwn limits seen caller → FinishesItsOwn limits (seen ++ more) caller

-- who has no events finishes nothing
abbrev pub IdleOwnsAll : Type 0
IdleOwnsAll = (limits : Bounds) (caller : ℕ) (history : List Event) → events_by caller history ≡ [] → FinishesItsOwn limits history caller

-- why one of the two updates of a worker's operation wasn't done, where pages have p bytes
pub data OperationHindered (plan : LoadPlan) (p worker op : ℕ) (first seen : List Event) (fault : Fault) : Type 0 where
  in_record : UpdateHindered greatest p (worker + 1) 1 Append (record_of worker op) first seen fault → OperationHindered plan p worker op first seen fault
  in_cell : UpdateHindered greatest p (worker + 1) 2 (WriteAt (cell_offset plan worker op)) (cell_of plan.seed worker op) first seen fault → OperationHindered plan p worker op first seen fault

-- Where a load's history goes on from what a worker has seen, and everybody finishes only his own, nothing but the outside hinders the worker.
-- A page that is lost then begins within the log or the grid.
abbrev pub NothingElseHinders : Type 0
NothingElseHinders = (plan : LoadPlan) (history : List Event) → IsSized plan → IsLegal greatest history → IsUnderway plan history
    → ((other : ℕ) → FinishesItsOwn greatest history other)
    → (p worker op : ℕ) → 1 ≤ worker → worker ≤ plan.workers → op < plan.ops
    → (seen more later : List Event) (fault : Fault) → history ≡ seen ++ more → OperationHindered plan p worker op (opening plan ++ later) seen fault
    → IsOutside (IsLoadPage plan p) fault

-- why one of the opening's four steps wasn't done, by what caller 1 had done before, where pages have p bytes
pub data OpeningHindered (plan : LoadPlan) (p : ℕ) (first seen : List Event) (fault : Fault) : Type 0 where
  in_log : events_by 1 first ≡ [] → CreateHindered greatest 1 first seen fault → OpeningHindered plan p first seen fault
  in_grid : events_by 1 first ≡ Events.Create 1 ∷ [] → CreateHindered greatest 1 first seen fault → OpeningHindered plan p first seen fault
  in_zeros : events_by 1 first ≡ Events.Create 1 ∷ Events.Create 1 ∷ [] → UpdateHindered greatest p 1 2 Append (zeros_of plan) first seen fault → OpeningHindered plan p first seen fault

-- Where nobody else has an event in the end, nothing but the outside hinders the opening. A page that is lost then begins within the grid.
abbrev pub NothingElseHindersOpenings : Type 0
NothingElseHindersOpenings = (plan : LoadPlan) (history : List Event) → IsSized plan → IsLegal greatest history → ((other : ℕ) → other ≢ 1 → events_by other history ≡ [])
    → FinishesItsOwn greatest history 1 → (p : ℕ) (first seen more : List Event) (fault : Fault) → history ≡ seen ++ more → OpeningHindered plan p first seen fault
    → IsOutside (IsLoadPage plan p) fault

-- a read has no more bytes than were asked for
abbrev pub ReadsAreShort : Type 0
ReadsAreShort = (store : Store) (caller blob version offset count : ℕ) (bytes : List ℕ)
    → (answer store caller (Calls.Read blob version offset count)).1 ≡ Outcomes.Content bytes → length bytes ≤ count
