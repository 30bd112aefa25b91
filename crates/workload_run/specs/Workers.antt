-- The workers of a load, each with its session.
use Rattle.std.specs.Prelude.{◌≡◌, ℕ, ◌+◌, ◌<◌, ◌≤◌, List, [], ◌∷◌, Ok, Err, Option, Some, None, sum_by, slice_index_or, length, Contains, All}
use Rattle.blob_model.specs.declared.call.Event.{Event}
use Rattle.faults.specs.Counts.{RoseBy}
use Rattle.turn_lock.specs.History.{Begins, entries_by}
use Rattle.request_form.specs.Answers.{max_update}
use Rattle.request_form.specs.declared.form.Fault.{Fault}
use Rattle.client_session.specs.Sessions.{StoreState, SessionState, Continues, session_of}
use Rattle.workload_law.specs.declared.plan.LoadPlan.{LoadPlan}
use Rattle.workload_law.specs.Load.{IsSized}
use Rattle.workload_run.specs.Updates.{told_faults}
use Rattle.workload_run.specs.Work.{WorkEnds}
use Rattle.workload_run.specs.Callers.{Told, IsFresh}

-- a worker: its session, its number, and how it ended
pub record WorkerState (D : Type 0) : Type 0 where
  pub session : SessionState D
  pub number : ℕ
  pub told : Told

-- what a session had seen is in what the owner has seen, with all entries of its caller
abbrev pub IsBack : ℕ → List (ℕ × Event) → List (ℕ × Event) → Type 0
IsBack caller log seen = Begins log seen × (entries_by caller seen ≡ entries_by caller log)

-- the fault at which this one ended, or else a later one
abbrev pub stop_or : Told → Option Fault → Option Fault
stop_or (Ok done) later = later
stop_or (Err fault) later = Some fault

module _ {D : Type 0} where
  -- the session of the worker at that place, in a store of which this had been seen
  pub record IsReadyAt (faults : D → ℕ) (store : StoreState) (log : List (ℕ × Event)) (place : ℕ) (worker : WorkerState D) : Type 0 where
    pub number : worker.number ≡ place + 1
    pub of_store : worker.session.store ≡ store
    pub caller : worker.session.caller ≡ worker.number + 1
    pub seen : worker.session.log ≡ log
    pub none : entries_by (worker.number + 1) log ≡ []
    pub none_held : worker.session.held ≡ []
    pub limit : worker.session.limit ≡ max_update
    pub no_fault : sum_by faults worker.session.doors ≡ 0

  -- the workers 1, 2, 3 and so on are ready
  abbrev pub AreReady : (D → ℕ) → StoreState → List (ℕ × Event) → List (WorkerState D) → Type 0
  AreReady faults store log workers = (place : ℕ) (d : WorkerState D) → place < length workers → IsReadyAt faults store log place (slice_index_or workers place d)

  -- a worker of the plan, whose session hasn't done anything yet
  pub record IsWorkable (plan : LoadPlan) (worker : WorkerState D) : Type 0 where
    pub sized : IsSized plan
    pub some : 1 ≤ worker.number
    pub last : worker.number ≤ plan.workers
    pub fresh : IsFresh worker.number (session_of worker.session)

  -- so it is for the workers at all places
  abbrev pub AreWorkable : LoadPlan → List (WorkerState D) → Type 0
  AreWorkable plan workers = (place : ℕ) (d : WorkerState D) → place < length workers → IsWorkable plan (slice_index_or workers place d)

  -- a worker has worked
  pub record HasRun (faults : D → ℕ) (plan : LoadPlan) (old new : WorkerState D) : Type 0 where
    pub number : new.number ≡ old.number
    pub ends : WorkEnds plan old.number new.told (session_of old.session) (session_of new.session)
    pub rose : RoseBy (told_faults new.told) (sum_by faults old.session.doors) (sum_by faults new.session.doors)
    pub goes_on : Continues old.session new.session

  -- the workers at all places have worked
  abbrev pub HaveRun : (D → ℕ) → LoadPlan → List (WorkerState D) → List (WorkerState D) → Type 0
  HaveRun faults plan old new = (place : ℕ) (d : WorkerState D) → place < length old → HasRun faults plan (slice_index_or old place d) (slice_index_or new place d)

  -- the session of the worker at that place is of that store, and works with the pass after its number
  pub record IsOfStore (store : StoreState) (place : ℕ) (worker : WorkerState D) : Type 0 where
    pub number : worker.number ≡ place + 1
    pub of_store : worker.session.store ≡ store
    pub caller : worker.session.caller ≡ worker.number + 1

  -- so it is for the workers 1, 2, 3 and so on
  abbrev pub AreOfStore : StoreState → List (WorkerState D) → Type 0
  AreOfStore store workers = (place : ℕ) (d : WorkerState D) → place < length workers → IsOfStore store place (slice_index_or workers place d)

  -- the passes of these workers came back
  abbrev pub AreBack : List (WorkerState D) → List (ℕ × Event) → Type 0
  AreBack workers seen = All (λ (worker : WorkerState D). IsBack (worker.number + 1) worker.session.log seen) workers

  -- their callers are among these
  abbrev pub AreKept : List (WorkerState D) → List ℕ → Type 0
  AreKept workers kept = All (λ (worker : WorkerState D). Contains kept (worker.number + 1)) workers

  -- the fault of the first of them that didn't come to its end, if there is one
  abbrev pub first_stop : List (WorkerState D) → Option Fault
  first_stop [] = None
  first_stop (worker ∷ workers) = stop_or worker.told (first_stop workers)

  -- what the doors of a worker have counted
  abbrev pub counted_by : (D → ℕ) → WorkerState D → ℕ
  counted_by faults worker = sum_by faults worker.session.doors
