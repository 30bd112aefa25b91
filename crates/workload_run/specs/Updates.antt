-- An update of a session, which is tried again while too many updates of its blob wait, and which is finished later where it is
-- held back.
use Rattle.std.specs.Prelude.{◌≡◌, ℕ, ◌≤◌, Bool, true, false, List, [], ◌∷◌, ◌++◌, length, Result, Ok, Err, Option, Some, None, sum_by}
use Rattle.blob_model.specs.History.{events_by}
use Rattle.blob_model.specs.declared.call.Event.{Event}
use Rattle.blob_model.specs.declared.call.Event.TheVariants as Events
use Rattle.blob_model.specs.declared.call.Place.{Place}
use Rattle.request_form.specs.Session.{Session}
use Rattle.request_form.specs.Answers.{max_update}
use Rattle.request_form.specs.Replies.{page_faults}
use Rattle.request_form.specs.declared.form.Fault.{Fault}
use Rattle.request_form.specs.declared.form.Fault.TheVariants as Faults
use Rattle.client_session.specs.declared.done.Updated.{Updated}
use Rattle.client_session.specs.declared.done.Updated.TheVariants as WholeUpdates
use Rattle.client_session.specs.Sessions.{SessionState, Continues, session_of}
use Rattle.faults.specs.Counts.{RoseBy}
use Rattle.workload_law.specs.Ends.{Leaves, Holds, UpdateHindered, StopsAt, ticket_of, still_held}
use Rattle.workload_run.specs.Left.{IsSettled, IsLeft, left_by}
use Rattle.workload_run.specs.declared.finishing.Stop.{Stop}
use Rattle.workload_run.specs.declared.updating.Stopped.{Stopped}

-- an update's own two events: its numbering and its finish
abbrev pub update_events : ℕ → ℕ → Place → List ℕ → ℕ → List Event
update_events caller blob place bytes version = Events.Assign caller blob place bytes ∷ Events.Finish caller blob version ∷ []

-- too many updates of the blob wait
abbrev pub is_full : Result Updated Fault → Bool
is_full (Err (Faults.TooManyOpen limit)) = true
is_full _ = false

-- the version for which a finish has to wait, where it is refused for that
abbrev pub awaited_by : Result ℕ Fault → Option ℕ
awaited_by (Err (Faults.Pending version held)) = Some version
awaited_by _ = None

-- how often the outside failed for what a call told
abbrev pub told_faults : {A : Type 0} → Result A Fault → ℕ
told_faults (Ok done) = 0
told_faults (Err fault) = page_faults fault

-- and for what stopped an update
abbrev pub stop_faults : {A : Type 0} → Result A Stop → ℕ
stop_faults (Ok done) = 0
stop_faults (Err stop) = page_faults stop.fault

-- the bytes are as many as an update may have
pub record IsOneUpdate (bytes : List ℕ) : Type 0 where
  pub some : 1 ≤ length bytes
  pub few : length bytes ≤ max_update

-- The session holds no ticket, and takes as many bytes in an update as at first.
pub record IsReady (s : Session) : Type 0 where
  pub none_held : s.tickets ≡ []
  pub limit : s.limit ≡ max_update

-- the update was done, under some version
pub record IsUpdated (s : Session) (blob : ℕ) (place : Place) (bytes : List ℕ) (s' : Session) : Type 0 where
  pub version : ℕ
  pub leaves : Leaves s (update_events s.caller blob place bytes version) s'
  pub none_held : s'.tickets ≡ []

-- What is left of the session's own events by what it stopped at: some of those that were to come, from their beginning on.
pub record StoppedWithin (s : Session) (events : List Event) (s' : Session) : Type 0 where
  pub own : List Event
  pub rest : List Event
  pub split : own ++ rest ≡ events
  pub leaves : Leaves s own s'
  pub none_held : s'.tickets ≡ []

-- The update wasn't done, and the session hung up. It tells what hindered the last try, when the session had seen more of others, and what
-- is left of the update.
pub record IsStopped (s : Session) (blob : ℕ) (place : Place) (bytes : List ℕ) (stop : Stopped) (s' : Session) : Type 0 where
  pub version : ℕ
  pub stopped : StoppedWithin s (update_events s.caller blob place bytes version) s'
  pub more : List Event
  pub of_others : events_by s.caller (s.seen ++ more) ≡ events_by s.caller s.seen
  pub hindered : UpdateHindered s.fixed.limits s.fixed.page s.caller blob place bytes (s.seen ++ more) s'.seen stop.fault
  pub left : IsLeft s blob place bytes stop.left s'

-- The same before it hung up: it may hold the update under a ticket, and where it holds none nothing is left of it.
pub record IsHindered (s : Session) (blob : ℕ) (place : Place) (bytes : List ℕ) (fault : Fault) (ticket : Option ℕ) (s' : Session) : Type 0 where
  pub more : List Event
  pub of_others : events_by s.caller (s.seen ++ more) ≡ events_by s.caller s.seen
  pub hindered : UpdateHindered s.fixed.limits s.fixed.page s.caller blob place bytes (s.seen ++ more) s'.seen fault
  pub stops : StopsAt s blob place bytes ticket s'
  pub settled : ticket ≡ None → IsSettled s blob place bytes s'

-- the update is held back under a ticket
pub record IsHeldBack (s : Session) (blob : ℕ) (place : Place) (bytes : List ℕ) (number version : ℕ) (s' : Session) : Type 0 where
  pub some : 1 ≤ version
  pub holds : Holds s blob place bytes number version s'

-- which of them it was, once there was room for the update
abbrev pub UpdateTried : Session → ℕ → Place → List ℕ → Result Updated Fault → Session → Type 0
UpdateTried s blob place bytes (Ok (WholeUpdates.Done done)) s' = IsUpdated s blob place bytes s'
UpdateTried s blob place bytes (Ok (WholeUpdates.Held started)) s' = IsHeldBack s blob place bytes started.ticket started.version s'
UpdateTried s blob place bytes (Err fault) s' = IsHindered s blob place bytes fault (ticket_of fault) s'

-- which of them it was, once an update that was held back was finished
abbrev pub UpdateCompleted : {A : Type 0} → Session → ℕ → Place → List ℕ → Result A Stop → Session → Type 0
UpdateCompleted s blob place bytes (Ok done) s' = IsUpdated s blob place bytes s'
UpdateCompleted s blob place bytes (Err stop) s' = IsHindered s blob place bytes stop.fault stop.held s'

-- which of them it was in the end
abbrev pub UpdateTold : {A : Type 0} → Session → ℕ → Place → List ℕ → Result A Stopped → Session → Type 0
UpdateTold s blob place bytes (Ok done) s' = IsUpdated s blob place bytes s'
UpdateTold s blob place bytes (Err stop) s' = IsStopped s blob place bytes stop s'

-- ---- updates that are held

-- how the finish of a held update ended that doesn't have to wait
abbrev pub FinishTold : Session → ℕ → Place → List ℕ → ℕ → Result ℕ Fault → Session → Type 0
FinishTold s blob place bytes number (Ok published) s' = IsUpdated s blob place bytes s'
FinishTold s blob place bytes number (Err fault) s' = IsHindered s blob place bytes fault (still_held number fault) s'

-- So it ended for each update that the session may hold under that number, if it held no other, and this is what is left of it.
abbrev pub FinishedFor : ℕ → ℕ → Session → Result ℕ Fault → Session → Type 0
FinishedFor blob number mid told s' = (s : Session) (place : Place) (bytes : List ℕ) (version : ℕ) → s.tickets ≡ [] → Holds s blob place bytes number version mid
    → FinishTold s blob place bytes number told s' × IsLeft s blob place bytes (left_by told) s'

-- and so the whole update ended
abbrev pub CompletedFor : {A : Type 0} → ℕ → ℕ → ℕ → Session → Result A Stop → Session → Type 0
CompletedFor blob number version mid told s' = (s : Session) (place : Place) (bytes : List ℕ) → s.tickets ≡ [] → Holds s blob place bytes number version mid
    → UpdateCompleted s blob place bytes told s'

-- how a session stands that stopped at an update: as it was hindered, or it finished the update after all
pub data StandsAt (s : Session) (blob : ℕ) (place : Place) (bytes : List ℕ) (s' : Session) : Type 0 where
  hindered : (ticket : Option ℕ) → StopsAt s blob place bytes ticket s' → StandsAt s blob place bytes s'
  finished : IsUpdated s blob place bytes s' → StandsAt s blob place bytes s'

-- so it stands, and this is what is left, whatever the update is at which it stopped
abbrev pub StandsAfter : ℕ → Option ℕ → Session → Option Fault → Session → Type 0
StandsAfter blob ticket mid left s' = (s : Session) (place : Place) (bytes : List ℕ) → s.tickets ≡ [] → StopsAt s blob place bytes ticket mid
    → (ticket ≡ None → IsSettled s blob place bytes mid) → StandsAt s blob place bytes s' × IsLeft s blob place bytes left s'

-- A session that stopped at an update hung up. It had done the update's events from their beginning on, as far as it came, and this is
-- what is left.
pub record HasHungUp (s : Session) (blob : ℕ) (place : Place) (bytes : List ℕ) (last : Option Fault) (s' : Session) : Type 0 where
  pub version : ℕ
  pub stopped : StoppedWithin s (update_events s.caller blob place bytes version) s'
  pub left : IsLeft s blob place bytes last s'

-- so it did, whatever the update is at which it stopped
abbrev pub HungUpFor : ℕ → Option ℕ → Session → Option Fault → Session → Type 0
HungUpFor blob ticket mid last s' = (s : Session) (place : Place) (bytes : List ℕ) → s.tickets ≡ [] → StopsAt s blob place bytes ticket mid
    → (ticket ≡ None → IsSettled s blob place bytes mid) → HasHungUp s blob place bytes last s'

-- ---- waiting

-- so far the session has seen others' events alone, and holds what it held
pub record HasWaited (s s' : Session) : Type 0 where
  pub leaves : Leaves s [] s'
  pub tickets : s'.tickets ≡ s.tickets

-- the tries so far
pub record Retries {D : Type 0} (faults : D → ℕ) (old new : SessionState D) : Type 0 where
  pub waited : HasWaited (session_of old) (session_of new)
  pub rose : RoseBy 0 (sum_by faults old.doors) (sum_by faults new.doors)
  pub goes_on : Continues old new

-- The tries so far to finish what is held under that number: it is held still.
pub record Finishes {D : Type 0} (faults : D → ℕ) (blob number : ℕ) (old new : SessionState D) : Type 0 where
  pub holds : (s : Session) (place : Place) (bytes : List ℕ) (version : ℕ) → s.tickets ≡ [] → Holds s blob place bytes number version (session_of old)
      → Holds s blob place bytes number version (session_of new)
  pub rose : RoseBy 0 (sum_by faults old.doors) (sum_by faults new.doors)
  pub goes_on : Continues old new
