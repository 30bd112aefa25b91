-- What a session keeps between two calls.
use Rattle.std.specs.Prelude.{◌≡◌, ℕ, ◌+◌, ◌<◌, ◌≤◌, List, Bool, length, IfSome, All}
use Rattle.boxcar.specs.Table.{Shelves}
use Rattle.page_store.specs.House.{House}
use Rattle.page_store.specs.Stored.{LieAmong}
use Rattle.blob_model.specs.Content.{content}
use Rattle.blob_model.specs.declared.call.Event.{Event}
use Rattle.snapshot.specs.Versions.{Version, NodesLieIn, updates_of}
use Rattle.border_hints.specs.Numbered.{NumberedUpdate}
use Rattle.turn_lock.specs.Shown.{PassView}
use Rattle.version_manager.specs.Desks.{IsTicketOf, updates_in}
use Rattle.version_manager.specs.Log.{MayFinish, desk_at}
use Rattle.version_manager.specs.declared.journal.DeskFixed.{DeskFixed}
use Rattle.client_session.specs.Tickets.{OpenUpdate, Rise, tickets_of}
use Rattle.client_session.specs.Sessions.{StoreState, IsPassOf}
use Rattle.client_session.specs.Kept.{IsKept}

-- ---- what a held update keeps
-- the nodes of the ticket's snapshot lie in this house, and its pages in these
pub record IsHere (nodes : List Shelves) (houses : List House) (t : NumberedUpdate) : Type 0 where
  pub snapshot : NodesLieIn nodes t.snapshot
  pub pages : LieAmong houses t.pages.pages

-- The ticket's update was numbered in that history. Its pages, and what its hints name, lie in the store's houses, and the hints have
-- the bytes that the blob's updates leave at their version.
pub record IsTicketHere (f : DeskFixed) (log : List (ℕ × Event)) (t : NumberedUpdate) : Type 0 where
  pub ticket : IsTicketOf (desk_at f log) t
  pub here : IsHere f.nodes f.houses t
  pub below : length t.snapshot.rows < t.version
  pub bytes : content (updates_of t.snapshot) (length t.snapshot.rows) ≡ content (updates_in (desk_at f log) t.blob) (length t.snapshot.rows)

-- the update was numbered in that history, and where it has its row it may be finished by it
pub record IsOpen (f : DeskFixed) (log : List (ℕ × Event)) (o : OpenUpdate) : Type 0 where
  pub some : 1 ≤ o.ticket.version
  pub ticket : IsTicketOf (desk_at f log) o.ticket
  pub row : IfSome o.row (λ row. MayFinish o.ticket row log f)

-- Each held update is a numbered one. Their numbers rise to the next one, of which no more were drawn than there are events.
pub record IsHolding (f : DeskFixed) (log : List (ℕ × Event)) (held : List OpenUpdate) (next : ℕ) : Type 0 where
  pub open_ : All (IsOpen f log) held
  pub rise : Rise (tickets_of held) next
  pub drawn : next ≤ length log + 1

-- The pass is of the store, there is a true door to each of its providers, and room for a page's marks. The snapshots that are kept were
-- opened in what the session has seen.
pub record IsSession {D : Type 0} (is_true : D → Type 0) (store : StoreState) (pass : PassView Event DeskFixed) (held : List OpenUpdate) (next : ℕ) (doors : List D) (room : List Bool) (opened : List Version) : Type 0 where
  pub pass_is : IsPassOf store pass
  pub holding : IsHolding store.fixed pass.seen held next
  pub housed : length store.fixed.houses ≡ store.providers
  pub served : length doors ≡ store.providers
  pub true_doors : All is_true doors
  pub marks : length room ≡ store.fixed.page_size
  pub kept : All (IsKept store.fixed pass.seen) opened
