-- The updates that a session has numbered and not yet finished, and what becomes of them.
use Rattle.std.specs.Prelude.{◌≡◌, ℕ, ◌<◌, List, ◌++◌, length, map, remove, slice_get, Option, Some, None, All, AllPairs}
use Rattle.node_store.specs.UpdateRows.{UpdateRow}
use Rattle.border_hints.specs.Numbered.{NumberedUpdate}
use Rattle.request_form.specs.Session.{HeldTicket, ticket_at, without_ticket, without_version}

-- the number that it is held under, the numbered update, and its row, where it is woven
pub record OpenUpdate : Type 0 where
  pub number : ℕ
  pub ticket : NumberedUpdate
  pub row : Option UpdateRow

-- what the session shows of it
abbrev pub ticket_of : OpenUpdate → HeldTicket
ticket_of o = record { number = o.number; blob = o.ticket.blob; version = o.ticket.version }

abbrev pub tickets_of : List OpenUpdate → List HeldTicket
tickets_of os = map ticket_of os

-- the update of that number stands at index i
pub record IsHeldAt (os : List OpenUpdate) (number i : ℕ) : Type 0 where
  pub within : i < length os
  pub update : OpenUpdate
  pub is : slice_get os i ≡ Some update
  pub number_is : update.number ≡ number
  pub held : ticket_at (tickets_of os) number ≡ Some (ticket_of update)
  pub left : without_ticket (tickets_of os) number ≡ tickets_of (remove os i)

-- no update of that version of the blob is held
pub record HoldsNone (os : List OpenUpdate) (blob version : ℕ) : Type 0 where
  pub none : (i : ℕ) (update : OpenUpdate) → slice_get os i ≡ Some update → ¬ ((update.ticket.blob ≡ blob) × (update.ticket.version ≡ version))
  pub left : without_version (tickets_of os) blob version ≡ tickets_of os

-- the first update of that version of the blob stands at index i
pub record IsVersionAt (os : List OpenUpdate) (blob version i : ℕ) : Type 0 where
  pub within : i < length os
  pub update : OpenUpdate
  pub is : slice_get os i ≡ Some update
  pub blob_is : update.ticket.blob ≡ blob
  pub version_is : update.ticket.version ≡ version
  pub left : without_version (tickets_of os) blob version ≡ tickets_of (remove os i)

-- the numbers of the tickets rise, and the next one is above them all
pub record Rise (tickets : List HeldTicket) (next : ℕ) : Type 0 where
  pub below : All (λ (t : HeldTicket). t.number < next) tickets
  pub pairs : AllPairs (λ (a b : HeldTicket). a.number < b.number) tickets

-- the update of that number is held with its row
pub record HasRow (os : List OpenUpdate) (number : ℕ) : Type 0 where
  pub index : ℕ
  pub update : OpenUpdate
  pub is : slice_get os index ≡ Some update
  pub number_is : update.number ≡ number
  pub row : UpdateRow
  pub row_is : update.row ≡ Some row

-- the update of that number is held without a row
pub record HasNoRow (os : List OpenUpdate) (number : ℕ) : Type 0 where
  pub index : ℕ
  pub update : OpenUpdate
  pub is : slice_get os index ≡ Some update
  pub number_is : update.number ≡ number
  pub no_row : update.row ≡ None

-- those that were held are held still, each with the row that it had, and perhaps more behind them
abbrev pub AllHeldStill : List OpenUpdate → List OpenUpdate → Type 0
AllHeldStill before after = (more : List OpenUpdate) × (after ≡ before ++ more)

-- the update of that number is held no more, and the others are as they were
pub record WithoutNumber (before : List OpenUpdate) (number : ℕ) (after : List OpenUpdate) : Type 0 where
  pub index : ℕ
  pub at : IsHeldAt before number index
  pub left : after ≡ remove before index

-- the first update of that version is held no more, where one was, and the others are as they were
pub data WithoutVersion (before : List OpenUpdate) (blob version : ℕ) (after : List OpenUpdate) : Type 0 where
  none : HoldsNone before blob version → after ≡ before → WithoutVersion before blob version after
  one : (index : ℕ) → IsVersionAt before blob version index → after ≡ remove before index → WithoutVersion before blob version after
