-- What a keeper and its session keep from refresh to refresh.
use Rattle.std.specs.Prelude.{◌≡◌, [], ◌∷◌}
use Rattle.client_session.specs.Sessions.{SessionState}
use Rattle.read_board.specs.Keeping.{KeeperState}
use Rattle.read_board.specs.Refreshing.{AllHold}

-- the keeper may refresh by this session
pub record MayRefresh {D : Type 0} (k : KeeperState) (s : SessionState D) : Type 0 where
  pub store : k.board.store ≡ s.store ∷ []
  pub hold : AllHold s.store.fixed s.log k.all
