-- What the last session of a watch reads.
use Rattle.std.specs.Prelude.{◌≡◌, ◌⊎◌, ℕ, ◌*◌, ◌<◌, ◌≤◌, List, length, Some, None, Result, Ok, Err}
use Rattle.blob_model.specs.Content.{Update, content, size_of}
use Rattle.blob_model.specs.Limits.{greatest}
use Rattle.blob_model.specs.Store.{blob_at}
use Rattle.blob_model.specs.History.{store_of}
use Rattle.version_manager.specs.Desks.{updates_in}
use Rattle.version_manager.specs.Log.{events, desk_at}
use Rattle.request_form.specs.Answers.{max_read}
use Rattle.request_form.specs.declared.form.Fault.{Fault}
use Rattle.client_session.specs.Sessions.{SessionState}
use Rattle.read_board.specs.declared.refresh.Refresh.{Refresh}
use Rattle.read_board.specs.Keeping.{KeeperState}
use Rattle.read_board.specs.Refreshes.{version_of, on_board}
use Rattle.read_board.specs.Refreshing.{Holds, IsRecent}
use Rattle.workload_law.specs.Ends.{IsOutside}
use Rattle.workload_run.specs.Stops.{IsPageSeen}

-- blob 1's updates, in what the session has seen
abbrev pub updates_seen : {D : Type 0} → SessionState D → List Update
updates_seen s = updates_in (desk_at s.store.fixed s.log) 1

-- A version of these updates was read whole, or it is too long for a read, or the outside failed. A page has p bytes, and one that is lost begins within the version.
abbrev pub WholeRead : ℕ → List Update → ℕ → Result (List ℕ) Fault → Type 0
WholeRead p us version (Ok bytes) = (bytes ≡ content us version) × (length bytes ≤ max_read)
WholeRead p us version (Err fault) = IsOutside (λ page. p * page < size_of us version) fault ⊎ (max_read < size_of us version)

-- The last refresh of the keeper is of that version and published, its session has seen the version's updates, and these are its bytes.
pub record IsLast {D : Type 0} (k : KeeperState) (s s' : SessionState D) (version : ℕ) (bytes : List ℕ) : Type 0 where
  pub refresh : Refresh
  pub of_one : refresh.blob ≡ 1
  pub latest : on_board 1 k.all ≡ Some refresh
  pub shown : k.shown ≡ k.all
  pub version_is : version_of refresh ≡ version
  pub holds : Holds s'.store.fixed s'.log refresh
  pub recent : IsRecent s s' 1 version
  pub bytes_are : bytes ≡ content (updates_seen s') version
  pub few : length bytes ≤ max_read

-- why nothing was read: by the outside; or the blob isn't there; or its last version is too long for a read
pub data LastHindered {D : Type 0} (s s' : SessionState D) (fault : Fault) : Type 0 where
  outside : IsOutside (IsPageSeen s'.store.fixed s'.log) fault → LastHindered s s' fault
  missing : blob_at (store_of greatest (events s'.log)) 1 ≡ None → LastHindered s s' fault
  too_long : (version : ℕ) → IsRecent s s' 1 version → max_read < size_of (updates_seen s') version → LastHindered s s' fault
