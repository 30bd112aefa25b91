-- What a session's calls make of its own events.
use Rattle.std.specs.Prelude.{◌≡◌, ℕ, false, List, [], ◌∷◌, ◌++◌}
use Rattle.std.specs.List.{Contains}
use Rattle.blob_model.specs.Limits.{Bounds}
use Rattle.blob_model.specs.Answer.{answer}
use Rattle.blob_model.specs.History.{caller_of, store_of, IsLegal, finishes, events_by, AllOther}
use Rattle.blob_model.specs.declared.call.Call.TheVariants as Calls
use Rattle.blob_model.specs.declared.call.Event.{Event}
use Rattle.blob_model.specs.declared.call.Event.TheVariants as Events
use Rattle.blob_model.specs.declared.call.Outcome.TheVariants as Outcomes
use Rattle.blob_model.specs.declared.call.Place.{Place}
use Rattle.workload_law.specs.Numbered.{IsNumberedBy}

-- a gap has none of the session's own events
abbrev pub GapsHaveNoOwn : Type 0
GapsHaveNoOwn = (caller : ℕ) (seen others : List Event) → AllOther caller others → events_by caller (seen ++ others) ≡ events_by caller seen

-- a call that makes one event adds it
abbrev pub EventsAreOwn : Type 0
EventsAreOwn = (caller : ℕ) (seen others : List Event) (event : Event) → AllOther caller others → caller_of event ≡ caller
    → events_by caller (seen ++ (others ++ event ∷ [])) ≡ events_by caller seen ++ event ∷ []

-- an update that was numbered and not finished adds its numbering
abbrev pub NumberingsAreOwn : Type 0
NumberingsAreOwn = (caller blob : ℕ) (place : Place) (bytes : List ℕ) (seen others later : List Event) → AllOther caller others → AllOther caller later
    → events_by caller (seen ++ (others ++ Events.Assign caller blob place bytes ∷ later)) ≡ events_by caller seen ++ Events.Assign caller blob place bytes ∷ []

-- one that was finished too adds both
abbrev pub UpdatesAreOwn : Type 0
UpdatesAreOwn = (caller blob version : ℕ) (place : Place) (bytes : List ℕ) (seen others later : List Event) → AllOther caller others → AllOther caller later
    → events_by caller (seen ++ (others ++ Events.Assign caller blob place bytes ∷ (later ++ Events.Finish caller blob version ∷ [])))
    ≡ events_by caller seen ++ Events.Assign caller blob place bytes ∷ Events.Finish caller blob version ∷ []

-- the caller finishes only what it numbered
abbrev pub FinishesItsOwn : Bounds → List Event → ℕ → Type 0
FinishesItsOwn limits history caller = (blob version : ℕ) → Contains history (Events.Finish caller blob version) → IsNumberedBy limits history caller blob version

-- so it is after a gap, a numbering and an update, where it was so before
abbrev pub FinishesStayOwn : Type 0
FinishesStayOwn = (limits : Bounds) (caller blob version at size : ℕ) (place : Place) (bytes : List ℕ) (seen others later : List Event) → AllOther caller others → AllOther caller later
    → (answer (store_of limits (seen ++ others)) caller (Calls.Assign blob place bytes)).1 ≡ Outcomes.Assigned version at size
    → FinishesItsOwn limits seen caller
    → FinishesItsOwn limits (seen ++ others) caller
    × FinishesItsOwn limits (seen ++ (others ++ Events.Assign caller blob place bytes ∷ later)) caller
    × FinishesItsOwn limits (seen ++ (others ++ Events.Assign caller blob place bytes ∷ (later ++ Events.Finish caller blob version ∷ []))) caller

-- what was numbered is the caller's
abbrev pub NumbersItsOwn : Type 0
NumbersItsOwn = (limits : Bounds) (caller blob version at size : ℕ) (place : Place) (bytes : List ℕ) (seen others later : List Event)
    → (answer (store_of limits (seen ++ others)) caller (Calls.Assign blob place bytes)).1 ≡ Outcomes.Assigned version at size
    → IsNumberedBy limits (seen ++ (others ++ Events.Assign caller blob place bytes ∷ later)) caller blob version

-- and it may be finished later
abbrev pub ReportsStayOwn : Type 0
ReportsStayOwn = (limits : Bounds) (caller blob version : ℕ) (seen others : List Event) → AllOther caller others → IsNumberedBy limits seen caller blob version
    → FinishesItsOwn limits seen caller → FinishesItsOwn limits (seen ++ (others ++ Events.Finish caller blob version ∷ [])) caller

-- where each caller finishes only its own, no gap after a numbering finishes what was numbered
abbrev pub NobodyElseFinishes : Type 0
NobodyElseFinishes = (limits : Bounds) (history : List Event) → IsLegal limits history → ((other : ℕ) → FinishesItsOwn limits history other)
    → (caller blob version at size : ℕ) (place : Place) (bytes : List ℕ) (before later more : List Event)
    → history ≡ before ++ Events.Assign caller blob place bytes ∷ (later ++ more)
    → (answer (store_of limits before) caller (Calls.Assign blob place bytes)).1 ≡ Outcomes.Assigned version at size
    → AllOther caller later → finishes blob version later ≡ false
