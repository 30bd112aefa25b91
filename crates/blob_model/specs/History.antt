use Rattle.std.specs.Prelude.{◌≡◌, ◌≢◌, ℕ, ◌≤◌, ◌==◌, ◌&&◌, ◌||◌, Bool, true, false, if◌then◌else◌, List, [], ◌∷◌, length, filter, Option, Some, None}
use Rattle.blob_model.specs.Limits.{Bounds}
use Rattle.blob_model.specs.Store.{Store, Blob, empty_store, blob_at, assigned}
use Rattle.blob_model.specs.Answer.{answer}
use Rattle.blob_model.specs.declared.call.Call.{Call}
use Rattle.blob_model.specs.declared.call.Call.TheVariants as Calls
use Rattle.blob_model.specs.declared.call.Event.{Event}
use Rattle.blob_model.specs.declared.call.Event.TheVariants as Events
use Rattle.blob_model.specs.declared.call.Outcome.{Outcome}
use Rattle.blob_model.specs.declared.call.Outcome.TheVariants as Outcomes

-- who made the event
abbrev pub caller_of : Event → ℕ
caller_of (Events.Create caller) = caller
caller_of (Events.Assign caller blob place bytes) = caller
caller_of (Events.Finish caller blob version) = caller
caller_of (Events.Branch caller blob version) = caller

-- the events of a caller, in order
abbrev pub events_by : ℕ → List Event → List Event
events_by caller es = filter (λ e. caller_of e == caller) es

-- events of other callers
abbrev pub AllOther : ℕ → List Event → Type 0
AllOther caller [] = Unit {0}
AllOther caller (e ∷ es) = (caller_of e ≢ caller) × AllOther caller es

-- the call that it was
abbrev pub call_of : Event → Call
call_of (Events.Create caller) = Calls.Create
call_of (Events.Assign caller blob place bytes) = Calls.Assign blob place bytes
call_of (Events.Finish caller blob version) = Calls.Finish blob version
call_of (Events.Branch caller blob version) = Calls.Branch blob version

-- the store after these events in turn
abbrev pub store_from : Store → List Event → Store
store_from s [] = s
store_from s (e ∷ es) = store_from (answer s (caller_of e) (call_of e)).0 es

-- the store of a history
abbrev pub store_of : Bounds → List Event → Store
store_of limits history = store_from (empty_store limits) history

abbrev pub is_refused : Outcome → Bool
is_refused (Outcomes.Refused refusal) = true
is_refused _ = false

-- a finish names a numbered version that isn't 0
abbrev pub IsNumbered : Option Blob → ℕ → Type 0
IsNumbered None version = ⊥
IsNumbered (Some b) version = (1 ≤ version) × (version ≤ assigned b)

-- what a call asks of its caller: an update has a byte, and a finish names a numbered version
abbrev pub MayCall : Store → Call → Type 0
MayCall s (Calls.Assign blob place bytes) = 1 ≤ length bytes
MayCall s (Calls.Finish blob version) = IsNumbered (blob_at s blob) version
MayCall s _ = Unit {0}

-- the event may come in that store, and isn't refused there
pub record IsAccepted (s : Store) (e : Event) : Type 0 where
  pub may : MayCall s (call_of e)
  pub accepted : is_refused (answer s (caller_of e) (call_of e)).1 ≡ false

-- each event is accepted by the store of the events before it
abbrev pub IsLegalFrom : Store → List Event → Type 0
IsLegalFrom s [] = Unit {0}
IsLegalFrom s (e ∷ es) = IsAccepted s e × IsLegalFrom (answer s (caller_of e) (call_of e)).0 es

-- a legal history of a store with these limits
abbrev pub IsLegal : Bounds → List Event → Type 0
IsLegal limits history = IsLegalFrom (empty_store limits) history

-- the event of a call that changes the store; a look has none
abbrev pub event_of : ℕ → Call → List Event
event_of caller Calls.Create = Events.Create caller ∷ []
event_of caller (Calls.Assign blob place bytes) = Events.Assign caller blob place bytes ∷ []
event_of caller (Calls.Finish blob version) = Events.Finish caller blob version ∷ []
event_of caller (Calls.Branch blob version) = Events.Branch caller blob version ∷ []
event_of caller _ = []

-- what a call adds to the history: its event where it isn't refused
abbrev pub entered : Store → ℕ → Call → List Event
entered s caller call = if is_refused (answer s caller call).1 then [] else event_of caller call

-- whether these events finish that version
abbrev pub finishes : ℕ → ℕ → List Event → Bool
finishes blob version [] = false
finishes blob version (Events.Create caller ∷ es) = finishes blob version es
finishes blob version (Events.Assign caller other place bytes ∷ es) = finishes blob version es
finishes blob version (Events.Finish caller other v ∷ es) = ((other == blob) && (v == version)) || finishes blob version es
finishes blob version (Events.Branch caller other v ∷ es) = finishes blob version es
