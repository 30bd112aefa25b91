-- What a reader that learnt of a refresh reads.
use Rattle.std.specs.Prelude.{◌≡◌, ℕ, ◌≤◌, List, Some}
use mathlib.Core.List.{IsPrefix}
use Rattle.blob_model.specs.Content.{content}
use Rattle.blob_model.specs.declared.call.Event.{Event}
use Rattle.turn_lock.specs.History.{Begins}
use Rattle.version_manager.specs.Desks.{updates_in}
use Rattle.version_manager.specs.Log.{desk_at}
use Rattle.version_manager.specs.declared.journal.DeskFixed.{DeskFixed}
use Rattle.read_board.specs.declared.refresh.Refresh.{Refresh}
use Rattle.read_board.specs.Refreshes.{version_of, updates_of, on_board, covering, IsRising}
use Rattle.read_board.specs.Refreshing.{Holds, AllHold}

-- a read of that version goes by a refresh, whose updates give the version's content in the store of that history
pub record Agrees (f : DeskFixed) (log : List (ℕ × Event)) (list : List Refresh) (blob version : ℕ) : Type 0 where
  pub refresh : Refresh
  pub on : on_board blob list ≡ Some refresh
  pub goes : covering (on_board blob list) version ≡ Some refresh
  pub content : content (updates_of refresh) version ≡ content (updates_in (desk_at f log) blob) version

-- Where a reader's list begins with what it learnt, and the blob's last refresh there holds its updates in a store, a read of a version up to it goes by the board, to
-- that store's content: a later refresh has the same updates.
abbrev pub ReadsAgree : Type 0
ReadsAgree = (f : DeskFixed) (log : List (ℕ × Event)) (learnt list : List Refresh) (blob version : ℕ) (a : Refresh) → IsPrefix learnt list → IsRising list → on_board blob learnt ≡ Some a
    → Holds f log a → version ≤ version_of a → Agrees f log list blob version

-- what refreshes hold in a history they hold as it goes on
abbrev pub RefreshesStay : Type 0
RefreshesStay = (f : DeskFixed) (log log' : List (ℕ × Event)) (rs : List Refresh) → Begins log log' → AllHold f log rs → AllHold f log' rs
