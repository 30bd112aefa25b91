-- Which board it is, and beginnings of its one list of refreshes.
use Rattle.std.specs.Prelude.{List}
use Rattle.logbook.specs.Pages.{Book}
use Rattle.client_session.specs.Sessions.{StoreState}
use Rattle.read_board.specs.declared.refresh.Refresh.{Refresh}

-- a board: its list, and the store that it is of, alone in a list
pub record BoardId : Type 0 where
  pub book : Book
  pub store : List StoreState

-- a beginning of the board's list
pub record FrontState : Type 0 where
  pub board : BoardId
  pub list : List Refresh
