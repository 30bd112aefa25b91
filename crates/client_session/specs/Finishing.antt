-- Finishing an update: by its own ticket or a fresh one, by the session that numbered it or another one.
use Rattle.std.specs.Prelude.{◌≡◌, ℕ, ◌+◌, ◌-◌, ◌<◌, List, [], ◌++◌, length, Bool, true, false, Some, Result, Ok, Err, IfOk, IfErr, All}
use Rattle.blob_model.specs.Answer.{repair_refusal}
use Rattle.blob_model.specs.History.{AllOther}
use Rattle.blob_model.specs.declared.call.Event.{Event}
use Rattle.border_hints.specs.Numbered.{NumberedUpdate}
use Rattle.page_store.specs.Stored.{LieAmong}
use Rattle.snapshot.specs.Versions.{IsVersionIn}
use Rattle.turn_lock.specs.History.{Begins}
use Rattle.request_form.specs.Replies.{page_faults}
use Rattle.tree_weaver.specs.Anew.{StoresSomeAnew, IsStoredAnew}
use Rattle.version_manager.specs.Desks.{OnRefused, OnNoMemory, store_now}
use Rattle.version_manager.specs.Log.{IsWaitingTicket, desk_at, events}
use Rattle.version_manager.specs.declared.journal.DeskFixed.{DeskFixed}
use Rattle.version_manager.specs.declared.fault.DeskFault.{DeskFault}
use Rattle.request_form.specs.Session.{Session}
use Rattle.request_form.specs.Answers.{AfterGap, RepairTurn, max_update}
use Rattle.request_form.specs.declared.form.Fault.{Fault}
use Rattle.request_form.specs.declared.form.Fault.TheVariants as Faults
use Rattle.client_session.specs.Memory.{IsLeft}
use Rattle.client_session.specs.Results.{desk_fault, repair_reply}
use Rattle.client_session.specs.SessionInvariant.{IsTicketHere}
use Rattle.client_session.specs.Sessions.{SessionState, StoreState}

-- ---- a session without its tickets
-- The acts of an update are told of the session as it would be without tickets. What becomes of the tickets is told of the calls.
abbrev pub bare : DeskFixed → ℕ → List (ℕ × Event) → Session
bare f caller log = record { fixed = record { limits = f.limits; page = f.page_size }; caller = caller; seen = events log; tickets = []; next = 1; limit = max_update }

-- it finishes an update, whoever numbered it
abbrev pub Finishing : DeskFixed → ℕ → List (ℕ × Event) → ℕ → ℕ → Result ℕ Fault → List (ℕ × Event) → Type 0
Finishing f caller log blob version said log' = AfterGap AllOther (bare f caller log) (RepairTurn (bare f caller log) blob version) (repair_reply said) (bare f caller log')

-- the update is finished, by the session or by others: no ticket of it is wanted any more
abbrev pub settles : Result ℕ Fault → Bool
settles (Ok published) = true
settles (Err (Faults.Already version)) = true
settles (Err _) = false

-- doors to the providers of that store, which are true, and room for a page's marks
pub record IsEquipped {D : Type 0} (is_true : D → Type 0) (store : StoreState) (doors : List D) (room : List Bool) : Type 0 where
  pub served : length doors ≡ store.providers
  pub true_doors : All is_true doors
  pub marks : length room ≡ store.fixed.page_size

-- ---- looks
-- A fresh look at an update: others' events came, and then its ticket, or why there is none.
pub record LookedFresh (f : DeskFixed) (caller : ℕ) (log : List (ℕ × Event)) (blob version : ℕ) (said : Result NumberedUpdate DeskFault) (log' : List (ℕ × Event)) : Type 0 where
  pub gap : List (ℕ × Event)
  pub others : AllOther caller (events gap)
  pub same : log' ≡ log ++ gap
  pub ticket : IfOk said (IsWaitingTicket f log' blob version)
  pub here : IfOk said (IsTicketHere f log')
  pub refused : IfErr said (λ fault. OnRefused fault (λ refusal. repair_refusal (store_now (desk_at f log')) blob version ≡ Some refusal))
  pub memory : IfErr said (λ fault. OnNoMemory fault (IsLeft (bare f caller log') blob version))

-- Why there is no ticket: the version can't be finished in the store of that history, or no memory was found.
pub record NotIssued (f : DeskFixed) (log : List (ℕ × Event)) (blob version : ℕ) (fault : Fault) : Type 0 where
  pub why : DeskFault
  pub said : fault ≡ desk_fault why
  pub refused : OnRefused why (λ refusal. repair_refusal (store_now (desk_at f log)) blob version ≡ Some refusal)

-- Others' events came, and then the ticket of a waiting version was asked for.
pub record Issuing {D : Type 0} (s : SessionState D) (blob version : ℕ) (said : Result NumberedUpdate Fault) (s' : SessionState D) : Type 0 where
  pub gap : List (ℕ × Event)
  pub others : AllOther s.caller (events gap)
  pub log : s'.log ≡ s.log ++ gap
  pub same : s' ≡ record s { log = s'.log; turns = s'.turns }
  pub one_turn : s'.turns ≡ s.turns + 1
  pub ticket : IfOk said (IsWaitingTicket s.store.fixed s'.log blob version)
  pub here : IfOk said (IsTicketHere s.store.fixed s'.log)
  pub refused : IfErr said (NotIssued s.store.fixed s'.log blob version)

-- ---- weaving
-- Why an update isn't woven by a fresh ticket. One that stores a page of the blob anew can't be while the version before it waits.
pub data NotWoven (t : NumberedUpdate) (fault : Fault) : Type 0 where
  no_memory : fault ≡ Faults.NoMemory → NotWoven t fault
  waits : fault ≡ Faults.Pending (t.version - 1) (length t.snapshot.rows + 1) → length t.snapshot.rows + 1 < t.version → StoresSomeAnew t → NotWoven t fault
  lost : (page : ℕ) → fault ≡ Faults.PageFault page → length t.snapshot.rows + 1 ≡ t.version → IsStoredAnew t page → NotWoven t fault

-- ---- what a fresh ticket needs of the store, and what is said of its weaving
-- its snapshot's nodes and pages, and its own pages, lie in the store's houses, and it has the store's page size
pub record IsFreshHere (f : DeskFixed) (t : NumberedUpdate) : Type 0 where
  pub snapshot : IsVersionIn f.nodes f.houses t.snapshot
  pub pages : LieAmong f.houses t.pages.pages
  pub page_size : t.snapshot.page_size ≡ f.page_size

-- how often the outside failed for an update that wasn't woven
abbrev pub weaving_faults : {A : Type 0} → Result A Fault → ℕ
weaving_faults (Ok row) = 0
weaving_faults (Err fault) = page_faults fault

-- a ticket that is here stays here as the history goes on
abbrev pub TicketsStayHere : Type 0
TicketsStayHere = (f : DeskFixed) (log log' : List (ℕ × Event)) (t : NumberedUpdate) → Begins log log' → IsTicketHere f log t → IsTicketHere f log' t
