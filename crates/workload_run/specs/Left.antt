-- What a session leaves of an update at which it stopped.
use Rattle.std.specs.Prelude.{◌≡◌, ℕ, ◌+◌, true, List, ◌∷◌, ◌++◌, Result, Ok, Err, Option, Some, None, IfErr}
use Rattle.blob_model.specs.Answer.{answer}
use Rattle.blob_model.specs.History.{store_of, finishes, events_by}
use Rattle.blob_model.specs.declared.call.Call.TheVariants as Calls
use Rattle.blob_model.specs.declared.call.Event.{Event}
use Rattle.blob_model.specs.declared.call.Event.TheVariants as Events
use Rattle.blob_model.specs.declared.call.Outcome.TheVariants as Outcomes
use Rattle.blob_model.specs.declared.call.Place.{Place}
use Rattle.request_form.specs.Session.{Session}
use Rattle.request_form.specs.Replies.{page_faults}
use Rattle.request_form.specs.declared.form.Fault.{Fault}
use Rattle.request_form.specs.declared.form.Fault.TheVariants as Faults
use Rattle.workload_law.specs.Ends.{IsOutside, IsPageOf, ticket_of}
use Rattle.workload_run.specs.declared.updating.Stopped.{Stopped}

-- Nothing of the update is left to be finished: it wasn't numbered; or it was, as the first of the session's events since, and is
-- finished by now, by the session or by another caller.
pub data IsSettled (s : Session) (blob : ℕ) (place : Place) (bytes : List ℕ) (s' : Session) : Type 0 where
  unnumbered : events_by s.caller s'.seen ≡ events_by s.caller s.seen → IsSettled s blob place bytes s'
  finished : (before later : List Event) (version at size : ℕ) → s'.seen ≡ before ++ Events.Assign s.caller blob place bytes ∷ later
      → events_by s.caller before ≡ events_by s.caller s.seen
      → (answer (store_of s.fixed.limits before) s.caller (Calls.Assign blob place bytes)).1 ≡ Outcomes.Assigned version at size
      → finishes blob version later ≡ true
      → IsSettled s blob place bytes s'

-- where it holds no ticket of the update after a try, nothing is left
abbrev pub SettledTry : {A : Type 0} → Session → ℕ → Place → List ℕ → Result A Fault → Session → Type 0
SettledTry s blob place bytes told s' = IfErr told (λ fault. ticket_of fault ≡ None → IsSettled s blob place bytes s')

-- the pages that an update of the session can lose, after what it had seen at first
abbrev pub PageSince : Session → ℕ → Place → List ℕ → Session → ℕ → Type 0
PageSince s blob place bytes s' page = IsPageOf s.fixed.limits s.fixed.page s.caller blob place bytes s.seen s'.seen page

-- What is left of an update, by what hindered its last finish, if anything did: nothing; or it is unfinished as no memory was found or a page
-- was lost, and never as the version before it waits.
abbrev pub IsLeft : Session → ℕ → Place → List ℕ → Option Fault → Session → Type 0
IsLeft s blob place bytes None s' = IsSettled s blob place bytes s'
IsLeft s blob place bytes (Some fault) s' = IsOutside (PageSince s blob place bytes s') fault

-- what hindered a finish after which the update isn't finished
abbrev pub left_by : Result ℕ Fault → Option Fault
left_by (Ok published) = None
left_by (Err (Faults.Already version)) = None
left_by (Err fault) = Some fault

-- how often the outside failed for that
abbrev pub left_faults : Option Fault → ℕ
left_faults None = 0
left_faults (Some fault) = page_faults fault

-- and how often it did for what an update told that was stopped
abbrev pub stopped_faults : {A : Type 0} → Result A Stopped → ℕ
stopped_faults (Ok done) = 0
stopped_faults (Err stopped) = page_faults stopped.fault + left_faults stopped.left
