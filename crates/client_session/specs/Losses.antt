-- Which page a session names where one is lost. The counts of its doors were `before`, and are `now`.
use Rattle.std.specs.Prelude.{◌≡◌, ⊤, ℕ, ◌+◌, ◌-◌, Bool, false, List, length, Result, Ok, Err}
use Rattle.blob_model.specs.declared.call.Event.{Event}
use Rattle.page_store.specs.Stored.{Cut}
use Rattle.border_hints.specs.Numbered.{NumberedUpdate}
use Rattle.snapshot.specs.Versions.{Version}
use Rattle.range_reader.specs.Faults.{PageFailedIn}
use Rattle.version_manager.specs.Log.{IsSnapshotOf, IsWaitingTicket}
use Rattle.request_form.specs.declared.form.Fault.{Fault}
use Rattle.request_form.specs.declared.form.Fault.TheVariants as Faults
use Rattle.tree_weaver.specs.Anew.{IsStoredAnew, FoldFailed}
use Rattle.page_fan.specs.Lost.{IsFirstLost}
use Rattle.range_reader.specs.Ranges.{PageFailedInOne}
use Rattle.client_session.specs.Tickets.{OpenUpdate, IsHeldAt}
use Rattle.client_session.specs.declared.done.Updated.{Updated}
use Rattle.client_session.specs.declared.done.Updated.TheVariants as WholeUpdates
use Rattle.client_session.specs.Sessions.{StoreState}

-- a fact on the page's number, where the fault names a page
abbrev pub IfPageLost : Fault → (ℕ → Type 0) → Type 0
IfPageLost fault P = (page : ℕ) → fault ≡ Faults.PageFault page → P page

-- The bytes of an update were placed, each page at as many of the store's providers as it has replicas. The page of that number is
-- the first that no door of its placement took, and the pages before it were stored.
pub record LostFirst (store : StoreState) (bytes before now : List ℕ) (page : ℕ) : Type 0 where
  pub stored : Cut
  pub lost : IsFirstLost store.fixed.houses store.fixed.page_size bytes store.providers store.replicas before now page stored

-- Every door failed of a stored page that this page needs in the snapshot of the version. The page is one of those of the range.
pub record LostInRead (store : StoreState) (log : List (ℕ × Event)) (blob version offset count : ℕ) (before now : List ℕ) (page : ℕ) : Type 0 where
  pub snapshot : Version
  pub is : IsSnapshotOf store.fixed log blob version snapshot
  pub lost : PageFailedIn snapshot offset count before now page

-- The same of a page that is one of those of one of these ranges.
pub record LostInRanges (store : StoreState) (log : List (ℕ × Event)) (blob version : ℕ) (ranges : List (ℕ × ℕ)) (before now : List ℕ) (page : ℕ) : Type 0 where
  pub snapshot : Version
  pub is : IsSnapshotOf store.fixed log blob version snapshot
  pub lost : PageFailedInOne snapshot ranges before now page

-- The waiting version stores this page of the blob anew, by a ticket of that history whose snapshot is the version before it. Every door
-- failed of a stored page that is read for it, or every door of its placement.
pub record LostAnew (store : StoreState) (log : List (ℕ × Event)) (blob version : ℕ) (before now : List ℕ) (page : ℕ) : Type 0 where
  pub ticket : NumberedUpdate
  pub waiting : IsWaitingTicket store.fixed log blob version ticket
  pub follows : length ticket.snapshot.rows + 1 ≡ ticket.version
  pub anew : IsStoredAnew ticket page
  pub lost : FoldFailed ticket store.providers store.replicas before now page

-- so it is with the update that is held under that number
pub record LostOfHeld (store : StoreState) (log : List (ℕ × Event)) (held : List OpenUpdate) (number : ℕ) (before now : List ℕ) (page : ℕ) : Type 0 where
  pub index : ℕ
  pub at : IsHeldAt held number index
  pub lost : LostAnew store log at.update.ticket.blob at.update.ticket.version before now page

-- An update was held. Where the version before its own doesn't wait, a page was lost that its version stores anew.
abbrev pub LostOrWaits : Result Updated Fault → (ℕ → Bool) → (ℕ → ℕ → Type 0) → Type 0
LostOrWaits (Ok (WholeUpdates.Done done)) waits Lost = ⊤
LostOrWaits (Ok (WholeUpdates.Held held)) waits Lost = waits (held.version - 1) ≡ false → (page : ℕ) × Lost held.version page
LostOrWaits (Err fault) waits Lost = ⊤
