-- How an update of a session ends, what it leaves, and what may hinder it.
use Rattle.std.specs.Prelude.{◌≡◌, ◌≢◌, ◌⊎◌, ℕ, ◌+◌, ◌-◌, ◌*◌, ◌<◌, ◌≤◌, true, List, [], ◌∷◌, ◌++◌, length, Option, Some, None}
use Rattle.blob_model.specs.Limits.{Bounds}
use Rattle.blob_model.specs.Answer.{answer}
use Rattle.blob_model.specs.History.{store_of, finishes, events_by, AllOther}
use Rattle.blob_model.specs.declared.call.Call.{Call}
use Rattle.blob_model.specs.declared.call.Call.TheVariants as Calls
use Rattle.blob_model.specs.declared.call.Event.{Event}
use Rattle.blob_model.specs.declared.call.Event.TheVariants as Events
use Rattle.blob_model.specs.declared.call.Outcome.TheVariants as Outcomes
use Rattle.blob_model.specs.declared.call.Place.{Place}
use Rattle.blob_model.specs.declared.call.Refusal.{Refusal}
use Rattle.request_form.specs.Session.{Session, HeldTicket, ticket_at}
use Rattle.request_form.specs.Replies.{fault_of, update_reply, start_reply}
use Rattle.request_form.specs.Answers.{AfterGap, Tickets, AddTurn, FinishTurn, WholeAnswer, FinishAnswer, LookAnswer, max_update}
use Rattle.request_form.specs.declared.form.Reply.{Reply}
use Rattle.request_form.specs.declared.form.Reply.TheVariants as Replies
use Rattle.request_form.specs.declared.form.Fault.{Fault}
use Rattle.request_form.specs.declared.form.Fault.TheVariants as Faults
use Rattle.workload_law.specs.Numbered.{IsNumberedBy}
use Rattle.workload_law.specs.Sessions.{FinishesItsOwn}

-- the fault is of the outside: no door took or gave a page, which is one of those, or there was no memory
pub data IsOutside (IsPage : ℕ → Type 0) (fault : Fault) : Type 0 where
  lost : (page : ℕ) → IsPage page → fault ≡ Faults.PageFault page → IsOutside IsPage fault
  starved : fault ≡ Faults.NoMemory → IsOutside IsPage fault
  held : (ticket : ℕ) → fault ≡ Faults.NoMemoryTicket ticket → IsOutside IsPage fault

-- where no page can be lost
abbrev pub NoPage : ℕ → Type 0
NoPage page = ⊥

-- A page that an update can lose, where pages have p bytes and are numbered from 0: a page of its bytes, which are stored as they
-- come; or a page of the blob that it stores anew, which begins before the update ends there. It was numbered then, after as many
-- events of its caller as at first.
pub data IsPageOf (limits : Bounds) (p caller blob : ℕ) (place : Place) (bytes : List ℕ) (first seen : List Event) (page : ℕ) : Type 0 where
  of_bytes : p * page < length bytes → IsPageOf limits p caller blob place bytes first seen page
  of_blob : (before rest : List Event) (version at size : ℕ) → seen ≡ before ++ Events.Assign caller blob place bytes ∷ rest
      → events_by caller before ≡ events_by caller first
      → (answer (store_of limits before) caller (Calls.Assign blob place bytes)).1 ≡ Outcomes.Assigned version at size
      → (1 ≤ length bytes → p * page < at + length bytes)
      → IsPageOf limits p caller blob place bytes first seen page

-- The store refused a caller's call on a front of the history: what the caller had seen before the call, and then others' events.
-- By now the caller has seen more.
pub record RefusedAt (limits : Bounds) (caller : ℕ) (call : Call) (first seen : List Event) (fault : Fault) : Type 0 where
  pub others : List Event
  pub rest : List Event
  pub is_gap : AllOther caller others
  pub split : seen ≡ (first ++ others) ++ rest
  pub refusal : Refusal
  pub refused : (answer (store_of limits (first ++ others)) caller call).1 ≡ Outcomes.Refused refusal
  pub is : fault ≡ fault_of refusal

-- Why a blob wasn't made: by the outside, or by the store.
pub data CreateHindered (limits : Bounds) (caller : ℕ) (first seen : List Event) (fault : Fault) : Type 0 where
  outside : IsOutside NoPage fault → CreateHindered limits caller first seen fault
  refused : RefusedAt limits caller Calls.Create first seen fault → CreateHindered limits caller first seen fault

-- Why an update wasn't done: by the outside; or by the store, for another cause than too many waiting updates; or another caller
-- had finished it once it was numbered.
pub data UpdateHindered (limits : Bounds) (p caller blob : ℕ) (place : Place) (bytes : List ℕ) (first seen : List Event) (fault : Fault) : Type 0 where
  outside : IsOutside (IsPageOf limits p caller blob place bytes first seen) fault → UpdateHindered limits p caller blob place bytes first seen fault
  refused : RefusedAt limits caller (Calls.Assign blob place bytes) first seen fault → ((limit : ℕ) → fault ≢ Faults.TooManyOpen limit)
      → UpdateHindered limits p caller blob place bytes first seen fault
  finished : (before later rest : List Event) (version at size : ℕ) → seen ≡ before ++ Events.Assign caller blob place bytes ∷ (later ++ rest)
      → (answer (store_of limits before) caller (Calls.Assign blob place bytes)).1 ≡ Outcomes.Assigned version at size
      → AllOther caller later → finishes blob version later ≡ true
      → UpdateHindered limits p caller blob place bytes first seen fault

-- A session has seen more. Its own events are those that it had, and then these. It finishes only what it numbered, and takes as many
-- bytes in an update as at first, if it did so before.
pub record Leaves (s : Session) (own : List Event) (s' : Session) : Type 0 where
  pub more : List Event
  pub seen : s'.seen ≡ s.seen ++ more
  pub mine : events_by s.caller s'.seen ≡ events_by s.caller s.seen ++ own
  pub caller : s'.caller ≡ s.caller
  pub fixed : s'.fixed ≡ s.fixed
  pub finishes : FinishesItsOwn s.fixed.limits s.seen s.caller → FinishesItsOwn s.fixed.limits s'.seen s.caller
  pub limit : s.limit ≡ max_update → s'.limit ≡ max_update

-- A session numbered an update, and holds it under a ticket. Since then it has seen others' events alone.
pub record Holds (s : Session) (blob : ℕ) (place : Place) (bytes : List ℕ) (number version : ℕ) (s' : Session) : Type 0 where
  pub leaves : Leaves s (Events.Assign s.caller blob place bytes ∷ []) s'
  pub before : List Event
  pub later : List Event
  pub at : ℕ
  pub size : ℕ
  pub split : s'.seen ≡ before ++ Events.Assign s.caller blob place bytes ∷ later
  pub numbered : (answer (store_of s.fixed.limits before) s.caller (Calls.Assign blob place bytes)).1 ≡ Outcomes.Assigned version at size
  pub is_gap : AllOther s.caller later
  pub tickets : s'.tickets ≡ s.tickets ++ record { number = number; blob = blob; version = version } ∷ []

-- the ticket under which an update is held that was refused so
abbrev pub ticket_of : Fault → Option ℕ
ticket_of (Faults.NoMemoryTicket ticket) = Some ticket
ticket_of _ = None

-- An update that was hindered: it wasn't numbered; or it was, and another caller finished it; or the session holds it under this ticket.
pub data StopsAt (s : Session) (blob : ℕ) (place : Place) (bytes : List ℕ) (ticket : Option ℕ) (s' : Session) : Type 0 where
  unnumbered : ticket ≡ None → Leaves s [] s' → s'.tickets ≡ s.tickets → StopsAt s blob place bytes ticket s'
  numbered : ticket ≡ None → Leaves s (Events.Assign s.caller blob place bytes ∷ []) s' → s'.tickets ≡ s.tickets → StopsAt s blob place bytes ticket s'
  held : (number version : ℕ) → ticket ≡ Some number → Holds s blob place bytes number version s' → StopsAt s blob place bytes ticket s'

-- How an update ends: it is done; or it is held back under a ticket; or too many updates of the blob wait, and it may be tried again; or
-- it was hindered.
pub data UpdateEnds (s : Session) (blob : ℕ) (place : Place) (bytes : List ℕ) (reply : Reply) (s' : Session) : Type 0 where
  does : (version at size : ℕ) → reply ≡ update_reply place version at size
      → Leaves s (Events.Assign s.caller blob place bytes ∷ Events.Finish s.caller blob version ∷ []) s' → s'.tickets ≡ s.tickets
      → UpdateEnds s blob place bytes reply s'
  held_back : (number version at size : ℕ) → reply ≡ start_reply place number version at size → 1 ≤ version → Holds s blob place bytes number version s'
      → UpdateEnds s blob place bytes reply s'
  full : (limit : ℕ) → reply ≡ Replies.Refused (Faults.TooManyOpen limit) → Leaves s [] s' → s'.tickets ≡ s.tickets → UpdateEnds s blob place bytes reply s'
  hinders : (fault : Fault) → reply ≡ Replies.Refused fault → ((limit : ℕ) → fault ≢ Faults.TooManyOpen limit)
      → UpdateHindered s.fixed.limits s.fixed.page s.caller blob place bytes s.seen s'.seen fault → StopsAt s blob place bytes (ticket_of fault) s'
      → UpdateEnds s blob place bytes reply s'

-- How an update may end that the session lets through to the store.
abbrev pub UpdatesEnd : Type 0
UpdatesEnd = (s : Session) (blob : ℕ) (place : Place) (bytes : List ℕ) (reply : Reply) (s' : Session)
    → WholeAnswer AllOther s blob place bytes reply s' → UpdateEnds s blob place bytes reply s'

-- the ticket under which an update is held still, once its finish was refused so: another caller's finish takes the ticket
abbrev pub still_held : ℕ → Fault → Option ℕ
still_held number (Faults.Already version) = None
still_held number _ = Some number

-- How a session's finish of an update ends that it holds under a ticket: it is done; or the version before it waits, and it is held as
-- before; or it was hindered.
pub data FinishEnds (s : Session) (blob : ℕ) (place : Place) (bytes : List ℕ) (number version : ℕ) (reply : Reply) (s' : Session) : Type 0 where
  does : (published : ℕ) → reply ≡ Replies.Finished published
      → Leaves s (Events.Assign s.caller blob place bytes ∷ Events.Finish s.caller blob version ∷ []) s' → s'.tickets ≡ s.tickets
      → FinishEnds s blob place bytes number version reply s'
  waits : (least : ℕ) → reply ≡ Replies.Refused (Faults.Pending (version - 1) least) → Holds s blob place bytes number version s' → FinishEnds s blob place bytes number version reply s'
  hinders : (fault : Fault) → reply ≡ Replies.Refused fault → ((earlier least : ℕ) → fault ≢ Faults.Pending earlier least)
      → UpdateHindered s.fixed.limits s.fixed.page s.caller blob place bytes s.seen s'.seen fault → StopsAt s blob place bytes (still_held number fault) s'
      → FinishEnds s blob place bytes number version reply s'

-- So it ends where the session held no other ticket.
abbrev pub FinishesEnd : Type 0
FinishesEnd = (s mid : Session) (blob : ℕ) (place : Place) (bytes : List ℕ) (number version : ℕ) (reply : Reply) (s' : Session)
    → s.tickets ≡ [] → Holds s blob place bytes number version mid → FinishAnswer AllOther mid number (ticket_at mid.tickets number) reply s'
    → FinishEnds s blob place bytes number version reply s'

-- How the making of a blob ends: it is done, or was hindered.
pub data CreateEnds (s : Session) (reply : Reply) (s' : Session) : Type 0 where
  does : (blob : ℕ) → reply ≡ Replies.Created blob → Leaves s (Events.Create s.caller ∷ []) s' → s'.tickets ≡ s.tickets → CreateEnds s reply s'
  hinders : (fault : Fault) → reply ≡ Replies.Refused fault → CreateHindered s.fixed.limits s.caller s.seen s'.seen fault → Leaves s [] s' → s'.tickets ≡ s.tickets
      → CreateEnds s reply s'

abbrev pub CreatesEnd : Type 0
CreatesEnd = (s : Session) (reply : Reply) (s' : Session) → AfterGap AllOther s (AddTurn s Calls.Create) reply s' → CreateEnds s reply s'

-- what hindered stands as more is seen
abbrev pub HindrancesStay : Type 0
HindrancesStay = (limits : Bounds) (p caller blob : ℕ) (place : Place) (bytes : List ℕ) (first seen more : List Event) (fault : Fault)
    → UpdateHindered limits p caller blob place bytes first seen fault → UpdateHindered limits p caller blob place bytes first (seen ++ more) fault

-- ---- what calls leave
-- one call after another leaves what both left
abbrev pub LeavesAdd : Type 0
LeavesAdd = (s mid s' : Session) (own more : List Event) → Leaves s own mid → Leaves mid more s' → Leaves s (own ++ more) s'

-- where nothing of the session's own came before, what a hindered update left is left from there on
abbrev pub StopsLater : Type 0
StopsLater = (s mid s' : Session) (blob : ℕ) (place : Place) (bytes : List ℕ) (ticket : Option ℕ)
    → Leaves s [] mid → mid.tickets ≡ s.tickets → StopsAt mid blob place bytes ticket s' → StopsAt s blob place bytes ticket s'

-- and so an update is held from there on
abbrev pub HoldsLater : Type 0
HoldsLater = (s mid s' : Session) (blob : ℕ) (place : Place) (bytes : List ℕ) (number version : ℕ)
    → Leaves s [] mid → mid.tickets ≡ s.tickets → Holds mid blob place bytes number version s' → Holds s blob place bytes number version s'

-- an update is held while nothing of the session's own comes
abbrev pub HoldsStay : Type 0
HoldsStay = (s mid s' : Session) (blob : ℕ) (place : Place) (bytes : List ℕ) (number version : ℕ)
    → Holds s blob place bytes number version mid → Leaves mid [] s' → s'.tickets ≡ mid.tickets → Holds s blob place bytes number version s'

-- what is held is the session's own
abbrev pub HoldsItsOwn : Type 0
HoldsItsOwn = (s : Session) (blob : ℕ) (place : Place) (bytes : List ℕ) (number version : ℕ) (s' : Session)
    → Holds s blob place bytes number version s' → IsNumberedBy s'.fixed.limits s'.seen s'.caller blob version

-- a look leaves nothing
abbrev pub LooksLeaveNone : Type 0
LooksLeaveNone = (s : Session) (call : Call) (reply : Reply) (s' : Session) → LookAnswer AllOther s call reply s' → Leaves s [] s' × (s'.tickets ≡ s.tickets)

-- The report of an update that the session numbered leaves its finish, or nothing: where another had reported it, and where it was
-- hindered. What becomes of the ticket then doesn't matter.
abbrev pub ReportsLeave : Type 0
ReportsLeave = (s : Session) (ticket : HeldTicket) (hindered : Tickets) (reply : Reply) (s' : Session) → IsNumberedBy s.fixed.limits s.seen s.caller ticket.blob ticket.version
    → AfterGap AllOther s (FinishTurn s ticket.blob ticket.version (λ published. Replies.Finished published) (Tickets.drop ticket.number) hindered) reply s'
    → Leaves s [] s' ⊎ Leaves s (Events.Finish s.caller ticket.blob ticket.version ∷ []) s'
