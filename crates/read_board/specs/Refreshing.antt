-- What refreshes hold of a store, and what a refresh does.
use Rattle.std.specs.Prelude.{◌≡◌, ◌⊎◌, ℕ, ◌≤◌, List, [], ◌∷◌, ◌++◌, None, Some}
use Rattle.std.specs.List.{All}
use Rattle.blob_model.specs.History.{AllOther, store_of}
use Rattle.blob_model.specs.Store.{Blob, blob_at}
use Rattle.blob_model.specs.declared.call.Event.{Event}
use Rattle.snapshot.specs.Laws.{TellUpdates}
use Rattle.turn_lock.specs.History.{Begins}
use Rattle.version_manager.specs.Desks.{updates_in, published_in}
use Rattle.version_manager.specs.Log.{desk_at, events}
use Rattle.version_manager.specs.declared.journal.DeskFixed.{DeskFixed}
use Rattle.request_form.specs.Session.{sees}
use Rattle.request_form.specs.declared.form.Fault.{Fault}
use Rattle.request_form.specs.declared.form.Fault.TheVariants as Faults
use Rattle.client_session.specs.Sessions.{SessionState, session_of}
use Rattle.read_board.specs.declared.refresh.Refresh.{Refresh}
use Rattle.read_board.specs.Refreshes.{version_of}
use Rattle.read_board.specs.Keeping.{KeeperState}

-- the blob is there in the store of that history
abbrev pub IsThere : DeskFixed → List (ℕ × Event) → ℕ → Type 0
IsThere f log blob = (b : Blob) × (blob_at (store_of f.limits (events log)) blob ≡ Some b)

-- The refresh holds the updates of its blob up to its version in the store of that history, where the blob is and the version is published.
pub record Holds (f : DeskFixed) (log : List (ℕ × Event)) (r : Refresh) : Type 0 where
  pub there : IsThere f log r.blob
  pub published : version_of r ≤ published_in (desk_at f log) r.blob
  pub tells : TellUpdates f.page_size (updates_in (desk_at f log) r.blob) r.snapshot.rows

-- each of them does
abbrev pub AllHold : DeskFixed → List (ℕ × Event) → List Refresh → Type 0
AllHold f log rs = All (Holds f log) rs

-- a session has seen others' events and no event of its own, and all else of it stays, its doors too, but for its count of turns
pub record HasLooked {D : Type 0} (s s' : SessionState D) : Type 0 where
  pub others : List Event
  pub is_gap : AllOther s.caller others
  pub seen : session_of s' ≡ sees (session_of s) others
  pub rest : s' ≡ record s { log = s'.log; turns = s'.turns }

-- the version is the greatest published one of the blob in a history between what the session had seen and what it has seen
pub record IsRecent {D : Type 0} (s s' : SessionState D) (blob version : ℕ) : Type 0 where
  pub mid : List (ℕ × Event)
  pub begins : Begins s.log mid
  pub goes_on : Begins mid s'.log
  pub is : version ≡ published_in (desk_at s.store.fixed mid) blob

-- no memory was found, or the blob isn't there
pub data IsNotThere {D : Type 0} (s' : SessionState D) (blob : ℕ) (fault : Fault) : Type 0 where
  no_memory : fault ≡ Faults.NoMemory → IsNotThere s' blob fault
  no_blob : fault ≡ Faults.NoBlob blob → blob_at (store_of s'.store.fixed.limits (events s'.log)) blob ≡ None → IsNotThere s' blob fault

-- a refresh of the blob, of that version, was added and published with all that was pending
pub record Refreshed (k k' : KeeperState) (blob version : ℕ) : Type 0 where
  pub refresh : Refresh
  pub blob_is : refresh.blob ≡ blob
  pub version_is : version_of refresh ≡ version
  pub all : k'.all ≡ k.all ++ refresh ∷ []
  pub shown : k'.shown ≡ k'.all

-- nothing was published; the refresh may be pending
pub record LeftPending (k k' : KeeperState) (blob : ℕ) : Type 0 where
  pub shown : k'.shown ≡ k.shown
  pub all : (k'.all ≡ k.all) ⊎ ((r : Refresh) × (r.blob ≡ blob) × (k'.all ≡ k.all ++ r ∷ []))
