-- What the keeper and the readers keep.
use Rattle.std.specs.Prelude.{◌≡◌, ◌≤◌, ℕ, Bool, List, [], length, Option, None, Some}
use Rattle.std.specs.List.{All}
use mathlib.Core.List.{IsPrefix}
use Rattle.client_session.specs.Sessions.{SessionState}
use Rattle.read_board.specs.declared.refresh.Refresh.{Refresh}
use Rattle.read_board.specs.Refreshes.{IsOn, latest_of}
use Rattle.read_board.specs.Fronts.{BoardId, FrontState}

-- a keeper: all its refreshes, pending or published, and those that are published
pub record KeeperState : Type 0 where
  pub board : BoardId
  pub all : List Refresh
  pub shown : List Refresh

-- The keeper has each blob's last refresh, of 64 blobs at most; what is shown is a beginning.
pub record IsKeeping (front shown chart : FrontState) (on : List Refresh) : Type 0 where
  pub latest : on ≡ latest_of front.list
  pub few : length on ≤ 64
  pub of_store : All (IsOn front.board.store) on
  pub is_shown : chart ≡ shown
  pub one_board : shown.board ≡ front.board
  pub begun : IsPrefix shown.list front.list

-- a stand: its board, and how many readers may still come
pub record StandState : Type 0 where
  pub board : BoardId
  pub left : ℕ

-- what a reader has seen and learnt, and whether it has a place
pub record ReaderState : Type 0 where
  pub board : BoardId
  pub list : List Refresh
  pub has_place : Bool

-- the chart that it keeps stands for all that it has seen
abbrev pub ShowsFront : Option FrontState → FrontState → Type 0
ShowsFront None front = front.list ≡ []
ShowsFront (Some chart) front = chart ≡ front

-- a reader with its session
pub record StandingState (D : Type 0) : Type 0 where
  pub board : BoardId
  pub list : List Refresh
  pub has_place : Bool
  pub session : SessionState D
