-- Why a refresh was not done.
use Rattle.std.specs.Prelude.{◌≡◌, ⊤, ℕ}
use Rattle.client_session.specs.Sessions.{SessionState}
use Rattle.read_board.specs.declared.keeper.RefreshFault.{RefreshFault}
use Rattle.read_board.specs.declared.keeper.RefreshFault.TheVariants as Faults
use Rattle.read_board.specs.Keeping.{KeeperState}
use Rattle.read_board.specs.Refreshing.{IsNotThere}

-- of a full board another clause tells
abbrev pub RefreshCause : {D : Type 0} → SessionState D → ℕ → RefreshFault → Type 0
RefreshCause s' blob (Faults.Fault fault) = IsNotThere s' blob fault
RefreshCause s' blob Faults.BoardFull = Unit {0}

-- where the board is full, all stays as it was
abbrev pub FullLeaves : {D : Type 0} → KeeperState → KeeperState → SessionState D → SessionState D → RefreshFault → Type 0
FullLeaves k k' s s' (Faults.Fault fault) = ⊤
FullLeaves k k' s s' Faults.BoardFull = (k' ≡ k) × (s' ≡ s)
