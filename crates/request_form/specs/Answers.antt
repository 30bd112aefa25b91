-- What a session may answer. Requests are told by classes: a request of a new kind of look, say, is a line of `class_of`.
use Rattle.std.specs.Prelude.{◌≡◌, ◌≢◌, ◌⊎◌, ℕ, ◌+◌, ◌-◌, ◌*◌, ◌<◌, ◌==◌, nat_lt, Bool, true, false, if◌then◌else◌, List, [], ◌∷◌, ◌++◌, length, Option, Some, None, Contains}
use Rattle.blob_model.specs.Store.{Store, blob_at, published}
use Rattle.blob_model.specs.Answer.{repair_refusal}
use Rattle.blob_model.specs.History.{event_of, finishes, is_refused}
use Rattle.range_log.specs.Updates.{extents}
use Rattle.range_log.specs.Rows.{folds_of}
use Rattle.blob_model.specs.declared.call.Place.{Place}
use Rattle.blob_model.specs.declared.call.Place.TheVariants.{WriteAt, Append}
use Rattle.blob_model.specs.declared.call.Call.{Call}
use Rattle.blob_model.specs.declared.call.Call.TheVariants as Calls
use Rattle.blob_model.specs.declared.call.Event.{Event}
use Rattle.blob_model.specs.declared.call.Event.TheVariants as Events
use Rattle.blob_model.specs.declared.call.Outcome.TheVariants as Outcomes
use Rattle.blob_model.specs.declared.call.Refusal.{Refusal}
use Rattle.blob_model.specs.declared.call.Refusal.TheVariants as Refusals
use Rattle.request_form.specs.declared.form.Request.{Request}
use Rattle.request_form.specs.declared.form.Request.TheVariants as Requests
use Rattle.request_form.specs.declared.form.Reply.{Reply}
use Rattle.request_form.specs.declared.form.Reply.TheVariants as Replies
use Rattle.request_form.specs.declared.form.Fault.{Fault}
use Rattle.request_form.specs.declared.form.Fault.TheVariants as Faults
use Rattle.request_form.specs.Replies.{fault_of, reply_of, fault_count, added_reply, update_reply, start_reply}
use Rattle.request_form.specs.Session.{Session, HeldTicket, store_at, outcome_at, sees, ticket_at, takes_up_to}
pub use Rattle.request_form.specs.Turns.{Gap, Tickets, Turn, tells, refuses, AfterGap, AfterTwoGaps}

-- the most bytes of an update at first, and those once a client has said hello
abbrev pub max_update : ℕ
max_update = 1048576

abbrev pub max_update_greater : ℕ
max_update_greater = 16777216

-- the most bytes of a read
abbrev pub max_read : ℕ
max_read = 16777216

-- the most tickets that a session holds
abbrev pub max_tickets : ℕ
max_tickets = 64

-- ---- updates that store pages of the blob anew
-- the pages that the update of that number stores anew
abbrev pub folds_in : ℕ → Store → ℕ → ℕ → List ℕ
folds_in p store blob version = elim (blob_at store blob) [ None ↦ [] | Some b ↦ folds_of p (extents b.updates) version ]

-- The update stores some pages anew, once these events have come. They are read from the version before it.
abbrev pub Folds : Session → List Event → ℕ → ℕ → Type 0
Folds s front blob version = folds_in s.fixed.page (store_at s front) blob version ≢ []

-- the version before it is published by then
abbrev pub IsReady : Session → List Event → ℕ → ℕ → Type 0
IsReady s front blob version = outcome_at s front (Calls.Sync blob (version - 1)) ≡ Outcomes.Synced (version - 1)

-- the update is numbered by then, and isn't finished
abbrev pub IsUnfinishedAt : Session → List Event → ℕ → ℕ → Type 0
IsUnfinishedAt s front blob version = repair_refusal (store_at s front) blob version ≡ None

-- ---- what a turn may come to, once these events have come
-- a call that adds a blob, whose number is told
pub data AddTurn (s : Session) (call : Call) (front : List Event) : Turn → Type 0 where
  added : (blob : ℕ) → outcome_at s front call ≡ Outcomes.Blob blob → AddTurn s call front (record { said = added_reply call blob; made = event_of s.caller call; tickets = Tickets.stay })
  refused : (refusal : Refusal) → outcome_at s front call ≡ Outcomes.Refused refusal → AddTurn s call front (refuses (fault_of refusal))
  out_of_memory : AddTurn s call front (refuses Faults.NoMemory)

-- a page that a range of bytes meets
pub record Meets (p offset count page : ℕ) : Type 0 where
  pub begins : p * page < offset + count
  pub ends : offset < p * (page + 1)

-- the bytes of a range; or no provider gave a page that it meets, if it has a byte
pub data ReadTurn (s : Session) (blob version offset count : ℕ) (front : List Event) : Turn → Type 0 where
  content : (bytes : List ℕ) → outcome_at s front (Calls.Read blob version offset count) ≡ Outcomes.Content bytes → ReadTurn s blob version offset count front (tells (Replies.Content bytes))
  refused : (refusal : Refusal) → outcome_at s front (Calls.Read blob version offset count) ≡ Outcomes.Refused refusal
      → ReadTurn s blob version offset count front (refuses (fault_of refusal))
  out_of_memory : ReadTurn s blob version offset count front (refuses Faults.NoMemory)
  not_read : (bytes : List ℕ) → outcome_at s front (Calls.Read blob version offset count) ≡ Outcomes.Content bytes → 0 < length bytes
      → (page : ℕ) → Meets s.fixed.page offset count page → ReadTurn s blob version offset count front (refuses (Faults.PageFault page))

-- the bytes of these ranges of a version, joined
abbrev pub AreContents : Session → List Event → ℕ → ℕ → List (ℕ × ℕ) → List ℕ → Type 0
AreContents s front blob version [] bytes = bytes ≡ []
AreContents s front blob version (range ∷ ranges) bytes =
    (first : List ℕ) × (outcome_at s front (Calls.Read blob version range.0 range.1) ≡ Outcomes.Content first)
    × ((rest : List ℕ) × AreContents s front blob version ranges rest × (bytes ≡ first ++ rest))

-- the bytes of many ranges, one behind the other; or the first range that the store refuses; or no provider gave a page that one of them meets
pub data ReadManyTurn (s : Session) (blob version : ℕ) (ranges : List (ℕ × ℕ)) (front : List Event) : Turn → Type 0 where
  contents : (bytes : List ℕ) → AreContents s front blob version ranges bytes → ReadManyTurn s blob version ranges front (tells (Replies.Contents bytes))
  refused : (before after : List (ℕ × ℕ)) (range : ℕ × ℕ) (bytes : List ℕ) → ranges ≡ before ++ range ∷ after → AreContents s front blob version before bytes
      → (refusal : Refusal) → outcome_at s front (Calls.Read blob version range.0 range.1) ≡ Outcomes.Refused refusal
      → ReadManyTurn s blob version ranges front (refuses (fault_of refusal))
  out_of_memory : ReadManyTurn s blob version ranges front (refuses Faults.NoMemory)
  not_read : (bytes : List ℕ) → AreContents s front blob version ranges bytes → (range : ℕ × ℕ) → Contains ranges range → 0 < range.1
      → (page : ℕ) → Meets s.fixed.page range.0 range.1 page → ReadManyTurn s blob version ranges front (refuses (Faults.PageFault page))

-- A finish of a numbered update. After these tickets are changed in the first way, where it is finished by then, and else in the second.
pub data FinishTurn (s : Session) (blob version : ℕ) (says : ℕ → Reply) (settled hindered : Tickets) (front : List Event) : Turn → Type 0 where
  finished : (published : ℕ) → IsUnfinishedAt s front blob version → (Folds s front blob version → IsReady s front blob version)
      → outcome_at s front (Calls.Finish blob version) ≡ Outcomes.Published published
      → FinishTurn s blob version says settled hindered front (record { said = says published; made = Events.Finish s.caller blob version ∷ []; tickets = settled })
  found : repair_refusal (store_at s front) blob version ≡ Some (Refusals.Already version)
      → FinishTurn s blob version says settled hindered front (record { said = Replies.Refused (Faults.Already version); made = []; tickets = settled })
  waits : (held : ℕ) → IsUnfinishedAt s front blob version → Folds s front blob version
      → outcome_at s front (Calls.Sync blob (version - 1)) ≡ Outcomes.Refused (Refusals.Pending (version - 1) held)
      → FinishTurn s blob version says settled hindered front (record { said = Replies.Refused (Faults.Pending (version - 1) held); made = []; tickets = hindered })
  not_folded : (page : ℕ) → IsUnfinishedAt s front blob version → Contains (folds_in s.fixed.page (store_at s front) blob version) page → IsReady s front blob version
      → FinishTurn s blob version says settled hindered front (record { said = Replies.Refused (Faults.PageFault page); made = []; tickets = hindered })
  out_of_memory : FinishTurn s blob version says settled hindered front (record { said = Replies.Refused Faults.NoMemory; made = []; tickets = hindered })

-- a finish of an update that any session may finish; or there is no such update
pub data RepairTurn (s : Session) (blob version : ℕ) (front : List Event) : Turn → Type 0 where
  finish : (turn : Turn) → FinishTurn s blob version (λ published. Replies.Repaired published) (Tickets.let_go blob version) Tickets.stay front turn → RepairTurn s blob version front turn
  refused : (refusal : Refusal) → repair_refusal (store_at s front) blob version ≡ Some refusal → refusal ≢ Refusals.Already version
      → RepairTurn s blob version front (refuses (fault_of refusal))

-- Before its bytes are stored, a session may look once whether the store takes the update: what it would refuse then it doesn't store.
abbrev pub IsStoredThen : Session → ℕ → Place → List ℕ → List Event → Type 0
IsStoredThen s blob place bytes front = (front ≡ []) ⊎ (is_refused (outcome_at s front (Calls.Assign blob place bytes)) ≡ false)

-- An update that isn't numbered: the store refuses it, or no memory was found, or no provider took a page of its bytes. Those are numbered from 0.
pub data UnnumberedTurn (s : Session) (blob : ℕ) (place : Place) (bytes : List ℕ) (front : List Event) : Turn → Type 0 where
  refused : (refusal : Refusal) → outcome_at s front (Calls.Assign blob place bytes) ≡ Outcomes.Refused refusal → UnnumberedTurn s blob place bytes front (refuses (fault_of refusal))
  out_of_memory : UnnumberedTurn s blob place bytes front (refuses Faults.NoMemory)
  not_stored : (page : ℕ) → s.fixed.page * page < length bytes → IsStoredThen s blob place bytes front → UnnumberedTurn s blob place bytes front (refuses (Faults.PageFault page))

-- an update that is numbered, and held under the next ticket
pub data StartTurn (s : Session) (blob : ℕ) (place : Place) (bytes : List ℕ) (front : List Event) : Turn → Type 0 where
  started : (version at size : ℕ) → outcome_at s front (Calls.Assign blob place bytes) ≡ Outcomes.Assigned version at size
      → StartTurn s blob place bytes front
      (record { said = start_reply place s.next version at size; made = Events.Assign s.caller blob place bytes ∷ []; tickets = Tickets.hold blob version })
  unnumbered : (turn : Turn) → UnnumberedTurn s blob place bytes front turn → StartTurn s blob place bytes front turn

-- what is said of a numbered update for which no memory was found then: it is held under the next ticket
abbrev pub keeps : Session → ℕ → ℕ → Turn
keeps s blob version = record { said = Replies.Refused (Faults.NoMemoryTicket s.next); made = []; tickets = Tickets.hold blob version }

-- the turn after a start was numbered: memory was wanting
pub data StartedTurn (s : Session) (blob : ℕ) (version at size : ℕ) (front later : List Event) : Turn → Type 0 where
  out_of_memory : StartedTurn s blob version at size front later (keeps s blob version)

-- The turn after an update was numbered, once more events have come. It is finished, or others had finished it meanwhile. If it stores pages anew it
-- may be held back, where they couldn't be read or stored.
pub data WholeTurn (s : Session) (blob : ℕ) (place : Place) (version at size : ℕ) (front later : List Event) : Turn → Type 0 where
  finished : finishes blob version later ≡ false → (Folds s front blob version → IsReady s front blob version)
      → WholeTurn s blob place version at size front later (record { said = update_reply place version at size; made = Events.Finish s.caller blob version ∷ []; tickets = Tickets.stay })
  found : finishes blob version later ≡ true → WholeTurn s blob place version at size front later (refuses (Faults.Already version))
  held_back : finishes blob version later ≡ false → Folds s front blob version
      → WholeTurn s blob place version at size front later (record { said = start_reply place s.next version at size; made = []; tickets = Tickets.hold blob version })
  out_of_memory : WholeTurn s blob place version at size front later (keeps s blob version)

-- ---- what the session itself refuses
-- it comes first, and leaves the session
abbrev pub Unless : Option Fault → Session → Reply → Session → Type 0 → Type 0
Unless (Some fault) s reply s' Answer = (reply ≡ Replies.Refused fault) × (s' ≡ s)
Unless None s reply s' Answer = Answer

-- why the session itself refuses an update
abbrev pub update_fault : Session → List ℕ → Option Fault
update_fault s bytes =
    if length bytes == 0 then Some Faults.EmptyUpdate
    else (if nat_lt s.limit (length bytes) then Some (Faults.UpdateTooLong (length bytes))
    else (if length s.tickets == max_tickets then Some Faults.TooManyTickets else None))

-- why the session itself refuses a read
abbrev pub read_fault : ℕ → Option Fault
read_fault count = if nat_lt max_read count then Some (Faults.ReadTooLong count) else None

-- Why the session itself refuses a read of many ranges, behind ranges of so many bytes: the first range with which they are too long
-- together.
abbrev pub ranges_fault : ℕ → List (ℕ × ℕ) → Option Fault
ranges_fault sum [] = None
ranges_fault sum (range ∷ ranges) = if nat_lt max_read (sum + range.1) then Some (Faults.ReadTooLong range.1) else ranges_fault (sum + range.1) ranges

-- ---- the classes of requests
pub data Class : Type 0 where
  greets : Class
  quits : Class
  looks : Call → Class
  adds : Call → Class
  reads : ℕ → ℕ → ℕ → ℕ → Class
  reads_many : ℕ → ℕ → List (ℕ × ℕ) → Class
  starts : ℕ → Place → List ℕ → Class
  updates : ℕ → Place → List ℕ → Class
  reports : ℕ → Class
  repairs : ℕ → ℕ → Class

abbrev pub class_of : Request → Class
class_of Requests.Create = Class.adds Calls.Create
class_of (Requests.Append blob bytes) = Class.updates blob Append bytes
class_of (Requests.Write blob offset bytes) = Class.updates blob (WriteAt offset) bytes
class_of (Requests.StartAppend blob bytes) = Class.starts blob Append bytes
class_of (Requests.StartWrite blob offset bytes) = Class.starts blob (WriteAt offset) bytes
class_of (Requests.Finish ticket) = Class.reports ticket
class_of (Requests.Read blob version offset count) = Class.reads blob version offset count
class_of (Requests.Recent blob) = Class.looks (Calls.Recent blob)
class_of (Requests.Size blob version) = Class.looks (Calls.Size blob version)
class_of (Requests.Sync blob version) = Class.looks (Calls.Sync blob version)
class_of (Requests.Status blob) = Class.looks (Calls.Status blob)
class_of (Requests.Branch blob version) = Class.adds (Calls.Branch blob version)
class_of (Requests.Hello version) = Class.greets
class_of (Requests.ReadMany blob version ranges) = Class.reads_many blob version ranges
class_of (Requests.Repair blob version) = Class.repairs blob version
class_of Requests.Quit = Class.quits

-- ---- the answers of each class
-- a look at the store, which takes no memory: what the store answers is said, refused or not
pub record LookAnswer (gap : Gap) (s : Session) (call : Call) (reply : Reply) (s' : Session) : Type 0 where
  pub others : List Event
  pub is_gap : gap s.caller others
  pub said : reply ≡ reply_of (outcome_at s others call)
  pub seen : s' ≡ sees s others

-- an update: one turn, or its numbering and then another turn
pub data UpdateAnswer (gap : Gap) (s : Session) (blob : ℕ) (place : Place) (bytes : List ℕ) (First : List Event → Turn → Type 0) (Second : ℕ → ℕ → ℕ → List Event → List Event → Turn → Type 0) (reply : Reply) (s' : Session) : Type 0 where
  once : AfterGap gap s First reply s' → UpdateAnswer gap s blob place bytes First Second reply s'
  twice : AfterTwoGaps gap s blob place bytes Second reply s' → UpdateAnswer gap s blob place bytes First Second reply s'

-- one that is started, and one that is finished at once, where the session itself refuses neither
abbrev pub StartAnswer : Gap → Session → ℕ → Place → List ℕ → Reply → Session → Type 0
StartAnswer gap s blob place bytes reply s' = UpdateAnswer gap s blob place bytes (StartTurn s blob place bytes) (StartedTurn s blob) reply s'

abbrev pub WholeAnswer : Gap → Session → ℕ → Place → List ℕ → Reply → Session → Type 0
WholeAnswer gap s blob place bytes reply s' = UpdateAnswer gap s blob place bytes (UnnumberedTurn s blob place bytes) (WholeTurn s blob place) reply s'

-- a finish of that number, by the ticket that the session holds under it
abbrev pub FinishAnswer : Gap → Session → ℕ → Option HeldTicket → Reply → Session → Type 0
FinishAnswer gap s number None reply s' = (reply ≡ Replies.Refused (Faults.NoTicket number)) × (s' ≡ s)
FinishAnswer gap s number (Some ticket) reply s' =
    AfterGap gap s (FinishTurn s ticket.blob ticket.version (λ published. Replies.Finished published) (Tickets.drop ticket.number) Tickets.stay) reply s'

abbrev pub ClassAnswer : Gap → Session → Class → Reply → Session → Type 0
ClassAnswer gap s Class.greets reply s' = (reply ≡ Replies.HelloIs 2) × (s' ≡ takes_up_to s max_update_greater)
ClassAnswer gap s Class.quits reply s' = (reply ≡ Replies.Bye) × (s' ≡ s)
ClassAnswer gap s (Class.looks call) reply s' = LookAnswer gap s call reply s'
ClassAnswer gap s (Class.adds call) reply s' = AfterGap gap s (AddTurn s call) reply s'
ClassAnswer gap s (Class.reads blob version offset count) reply s' =
    Unless (read_fault count) s reply s' (AfterGap gap s (ReadTurn s blob version offset count) reply s')
ClassAnswer gap s (Class.reads_many blob version ranges) reply s' =
    Unless (ranges_fault 0 ranges) s reply s' (AfterGap gap s (ReadManyTurn s blob version ranges) reply s')
ClassAnswer gap s (Class.starts blob place bytes) reply s' = Unless (update_fault s bytes) s reply s' (StartAnswer gap s blob place bytes reply s')
ClassAnswer gap s (Class.updates blob place bytes) reply s' = Unless (update_fault s bytes) s reply s' (WholeAnswer gap s blob place bytes reply s')
ClassAnswer gap s (Class.reports number) reply s' = FinishAnswer gap s number (ticket_at s.tickets number) reply s'
ClassAnswer gap s (Class.repairs blob version) reply s' = AfterGap gap s (RepairTurn s blob version) reply s'

-- A request and its reply take a session to the next one.
abbrev pub Answers : Gap → Session → Request → Reply → Session → Type 0
Answers gap s request reply s' = ClassAnswer gap s (class_of request) reply s'

-- ---- how often the outside failed for an answer, after which the session is this one
-- whether a version waits in a store
abbrev pub is_waiting_in : Store → ℕ → ℕ → Bool
is_waiting_in store blob version = elim (blob_at store blob) [ None ↦ false | Some b ↦ nat_lt (published b) version ]

-- an update that is held back though the version before it doesn't wait
abbrev pub held_back_faults : Session → ℕ → ℕ → ℕ
held_back_faults s blob version = if is_waiting_in (store_at s []) blob (version - 1) then 0 else 1

abbrev pub update_faults : Session → ℕ → Reply → ℕ
update_faults s blob (Replies.AppendStarted ticket version at size) = held_back_faults s blob version
update_faults s blob (Replies.WriteStarted ticket version at size) = held_back_faults s blob version
update_faults s blob reply = fault_count reply

abbrev pub class_faults : Session → Class → Reply → ℕ
class_faults s (Class.updates blob place bytes) reply = update_faults s blob reply
class_faults s _ reply = fault_count reply

abbrev pub answer_faults : Session → Request → Reply → ℕ
answer_faults s request reply = class_faults s (class_of request) reply
