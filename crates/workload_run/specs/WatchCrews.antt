-- Readers that are made, and that have read.
use Rattle.std.specs.Prelude.{◌≡◌, ◌⊎◌, ℕ, ◌-◌, ◌^◌, ◌<◌, ◌≤◌, List, [], ◌∷◌, ◌++◌, Ok, IfErr, sum_by}
use Rattle.turn_lock.specs.History.{Begins}
use Rattle.client_session.specs.Sessions.{StoreState}
use Rattle.read_board.specs.Fronts.{BoardId}
use Rattle.workload_run.specs.Updates.{told_faults}
use Rattle.workload_run.specs.Readers.{WatcherState}
use Rattle.workload_run.specs.WatchStages.{Entries, IsIdle}
use Rattle.workload_run.specs.Stops.{Stops}

-- `seen` is what the store's owner has seen
module _ {D : Type 0} (faults : D → ℕ) (store : StoreState) (seen : Entries) where
  -- A reader whose session may end: it entered nothing; and where the reader stopped, its doors counted the lost page, and the owner or its session has seen why.
  pub record IsEndable (w : WatcherState D) : Type 0 where
    pub idle : IsIdle store w.reader.session
    pub counted : sum_by faults w.reader.session.doors < 2 ^ 64 - 1 → told_faults w.told ≤ sum_by faults w.reader.session.doors
    pub stop : IfErr w.told (λ fault. Stops store.fixed seen fault ⊎ Stops store.fixed w.reader.session.log fault)

  module _ (board : BoardId) where
    -- a reader that hasn't read anything, with a session that has seen what the owner has
    pub record IsReadyToWatch (w : WatcherState D) : Type 0 where
      pub board_is : w.reader.board ≡ board
      pub log : w.reader.session.log ≡ seen
      pub idle : IsIdle store w.reader.session
      pub no_fault : sum_by faults w.reader.session.doors ≡ 0
      pub told : w.told ≡ Ok []

    -- a reader that has read, or stopped
    pub record IsDoneWatching (w : WatcherState D) : Type 0 where
      pub board_is : w.reader.board ≡ board
      pub endable : IsEndable w

-- ---- once readers came to their ends
module _ {D : Type 0} (seen : Entries) where
  -- that is what the reader read, and what its session saw was seen
  pub record CameToEnd (w : WatcherState D) (own : List ℕ) : Type 0 where
    pub told : w.told ≡ Ok own
    pub begins : Begins w.reader.session.log seen

  -- so it is of all of these, one reader's reads after another's
  abbrev pub AllCameToEnd : List (WatcherState D) → List ℕ → Type 0
  AllCameToEnd [] list = list ≡ []
  AllCameToEnd (w ∷ ws) list = (own : List ℕ) × ((rest : List ℕ) × (CameToEnd w own × (AllCameToEnd ws rest × (list ≡ own ++ rest))))
