-- What the readers of a watch are compared with.
use Rattle.std.specs.Prelude.{◌≡◌, ℕ, ◌*◌, ◌<◌, ◌≤◌, List, length, Some}
use Rattle.blob_model.specs.Content.{content}
use Rattle.blob_model.specs.History.{store_of}
use Rattle.turn_lock.specs.History.{Begins}
use Rattle.version_manager.specs.Desks.{updates_in}
use Rattle.version_manager.specs.Log.{desk_at, events}
use Rattle.version_manager.specs.declared.journal.DeskFixed.{DeskFixed}
use Rattle.request_form.specs.Answers.{max_read}
use Rattle.request_form.specs.PublishedReads.{IsPublishedIn}
use Rattle.client_session.specs.Sessions.{SessionState}
use Rattle.read_board.specs.declared.refresh.Refresh.{Refresh}
use Rattle.read_board.specs.Refreshes.{version_of, on_board}
use Rattle.read_board.specs.Refreshing.{Holds}
use Rattle.workload_run.specs.declared.last.Last.{Last}
use Rattle.workload_run.specs.WatchStages.{Entries}

-- these are the bytes of blob 1's version in that history
pub record IsVersionIn (f : DeskFixed) (log : Entries) (last : Last) : Type 0 where
  pub bytes_are : last.bytes ≡ content (updates_in (desk_at f log) 1) last.version
  pub few : length last.bytes ≤ max_read

-- a page of p bytes that begins within them
abbrev pub IsPageOfLast : ℕ → Last → ℕ → Type 0
IsPageOfLast p last page = p * page < length last.bytes

-- the last of these refreshes of blob 1 is of that version, and holds its updates in a history in which these are the version's bytes
pub record IsToldBy (list : List Refresh) (last : Last) : Type 0 where
  pub fixed : DeskFixed
  pub log : Entries
  pub refresh : Refresh
  pub latest : on_board 1 list ≡ Some refresh
  pub version_is : version_of refresh ≡ last.version
  pub holds : Holds fixed log refresh
  pub is_version : IsVersionIn fixed log last

-- the version is published in a history that the session has seen, and these are its bytes there
pub record IsSeenBy {D : Type 0} (s : SessionState D) (last : Last) : Type 0 where
  pub before : Entries
  pub begins : Begins before s.log
  pub published : IsPublishedIn (store_of s.store.fixed.limits (events before)) 1 last.version
  pub is_version : IsVersionIn s.store.fixed before last

-- The version was published in a history of the store that the owner has seen, and these are its bytes there.
pub record IsSeenIn (f : DeskFixed) (seen : Entries) (last : Last) : Type 0 where
  pub before : Entries
  pub begins : Begins before seen
  pub published : IsPublishedIn (store_of f.limits (events before)) 1 last.version
  pub is_version : IsVersionIn f before last
