-- A version that a session opened, and reads of it that take no turn.
use Rattle.std.specs.Prelude.{◌≡◌, ℕ, ◌+◌, ◌<◌, ◌≤◌, List, ◌++◌, take, drop, Result, IfOk, OnOk, IfErr, Some, None}
use Rattle.blob_model.specs.Content.{Update, content, size_of}
use Rattle.blob_model.specs.History.{AllOther}
use Rattle.blob_model.specs.declared.call.Call.TheVariants as Calls
use Rattle.blob_model.specs.declared.call.Event.{Event}
use Rattle.blob_model.specs.declared.call.Outcome.TheVariants as Outcomes
use Rattle.snapshot.specs.Versions.{Version, IsVersionIn, size_now}
use Rattle.version_manager.specs.Desks.{OnRefused}
use Rattle.version_manager.specs.Log.{IsSnapshotOf, events, outcome_in}
use Rattle.version_manager.specs.declared.journal.DeskFixed.{DeskFixed}
use Rattle.version_manager.specs.declared.fault.DeskFault.{DeskFault}
use Rattle.request_form.specs.Answers.{max_read}
use Rattle.request_form.specs.declared.form.Fault.{Fault}
use Rattle.request_form.specs.declared.form.Fault.TheVariants as Faults
pub use Rattle.range_reader.specs.Ranges.{OverUpdates, IsMet, IsMetByOne, joined, first_end_past}
use Rattle.client_session.specs.Results.{desk_fault}
use Rattle.client_session.specs.Sessions.{SessionState, StoreState}

-- the version's nodes and pages lie in the store's houses, and it has the store's page size
pub record IsOfStore (store : StoreState) (v : Version) : Type 0 where
  pub here : IsVersionIn store.fixed.nodes store.fixed.houses v
  pub page_size : v.page_size ≡ store.fixed.page_size

-- The store of that history refuses the size of the version, or no memory was found.
pub record NotOpened (f : DeskFixed) (log : List (ℕ × Event)) (caller blob version : ℕ) (fault : Fault) : Type 0 where
  pub why : DeskFault
  pub said : fault ≡ desk_fault why
  pub refused : OnRefused why (λ refusal. outcome_in f log caller (Calls.Size blob version) ≡ Outcomes.Refused refusal)

-- Others' events came, and then the version was looked at. It is there with its snapshot, or the store refuses it.
pub record Opening {D : Type 0} (s : SessionState D) (blob version : ℕ) (said : Result Version Fault) (s' : SessionState D) : Type 0 where
  pub gap : List (ℕ × Event)
  pub others : AllOther s.caller (events gap)
  pub log : s'.log ≡ s.log ++ gap
  pub same : s' ≡ record s { log = s'.log; turns = s'.turns }
  pub one_turn : s'.turns ≡ s.turns + 1
  pub done : IfOk said (λ v. outcome_in s.store.fixed s'.log s.caller (Calls.Size blob version) ≡ Outcomes.Size (size_now v))
  pub snapshot : IfOk said (IsSnapshotOf s.store.fixed s'.log blob version)
  pub of_store : IfOk said (IsOfStore s.store)
  pub refused : IfErr said (NotOpened s.store.fixed s'.log s.caller blob version)

-- why a range of a version of these updates isn't read, in this order; p is the page size
pub data RangeCause (p : ℕ) (us : List Update) (version offset count : ℕ) (fault : Fault) : Type 0 where
  too_long : fault ≡ Faults.ReadTooLong count → max_read < count → RangeCause p us version offset count fault
  past : fault ≡ Faults.RangePastSize (offset + count) (size_of us version) → count ≤ max_read → size_of us version < offset + count → RangeCause p us version offset count fault
  lost : (page : ℕ) → fault ≡ Faults.PageFault page → count ≤ max_read → offset + count ≤ size_of us version → IsMet p offset count page → RangeCause p us version offset count fault
  no_memory : fault ≡ Faults.NoMemory → RangeCause p us version offset count fault

-- What a read of a range gives: its bytes, where it isn't too long and lies within the version of these updates, or else a fault with its cause.
pub record ReadsRange (p : ℕ) (us : List Update) (version offset count : ℕ) (said : Result (List ℕ) Fault) : Type 0 where
  pub bytes : IfOk said (λ bytes. bytes ≡ take count (drop offset (content us version)))
  pub few : OnOk said (count ≤ max_read)
  pub within : OnOk said (offset + count ≤ size_of us version)
  pub cause : IfErr said (RangeCause p us version offset count)

-- why ranges of a version of these updates aren't read, in this order, once they aren't too long together
pub data RangesCause (p : ℕ) (us : List Update) (version : ℕ) (ranges : List (ℕ × ℕ)) (fault : Fault) : Type 0 where
  past : (end : ℕ) → fault ≡ Faults.RangePastSize end (size_of us version) → first_end_past (size_of us version) ranges ≡ Some end → RangesCause p us version ranges fault
  lost : (page : ℕ) → fault ≡ Faults.PageFault page → first_end_past (size_of us version) ranges ≡ None → IsMetByOne p ranges page → RangesCause p us version ranges fault
  no_memory : fault ≡ Faults.NoMemory → RangesCause p us version ranges fault

-- What a read of many ranges gives: their bytes, where all lie within the version of these updates, or else a fault with its cause.
pub record ReadsRanges (p : ℕ) (us : List Update) (version : ℕ) (ranges : List (ℕ × ℕ)) (said : Result (List ℕ) Fault) : Type 0 where
  pub bytes : IfOk said (λ bytes. bytes ≡ joined (content us version) ranges)
  pub within : OnOk said (first_end_past (size_of us version) ranges ≡ None)
  pub cause : IfErr said (RangesCause p us version ranges)
