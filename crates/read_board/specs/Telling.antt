-- What a read by the board tells of the store.
use Rattle.std.specs.Prelude.{◌≡◌, ◌⊎◌, ℕ, Bool, List, ◌++◌, Some, Result, Ok}
use mathlib.Core.List.{IsPrefix}
use Rattle.blob_model.specs.History.{store_of}
use Rattle.blob_model.specs.declared.call.Event.{Event}
use Rattle.version_manager.specs.Log.{events}
use Rattle.version_manager.specs.declared.journal.DeskFixed.{DeskFixed}
use Rattle.request_form.specs.PublishedReads.{IsPublishedIn, Range, Tells, read_outcome}
use Rattle.request_form.specs.declared.form.Fault.{Fault}
use Rattle.request_form.specs.declared.form.Reply.TheVariants as Replies
use Rattle.client_session.specs.Opening.{ReadsRange}
use Rattle.client_session.specs.Results.{read_reply}
use Rattle.read_board.specs.declared.refresh.Refresh.{Refresh}
use Rattle.read_board.specs.Refreshes.{updates_of}
use Rattle.read_board.specs.Refreshing.{AllHold}
use Rattle.read_board.specs.Reads.{goes_by}

-- The reader's list is a beginning of the keeper's, all whose refreshes hold in this history. The reader read this range of a version by a refresh, and was told this.
pub record ReadsByList (f : DeskFixed) (log : List (ℕ × Event)) (all list : List Refresh) (range : Range) (said : Result (List ℕ) Fault) : Type 0 where
  pub hold : AllHold f log all
  pub begins : IsPrefix list all
  pub has_place : Bool
  pub on : Refresh
  pub goes : goes_by has_place list range.blob range.version ≡ Some on
  pub reads : ReadsRange f.page_size (updates_of on) range.version range.offset range.count said

-- another moment of the same store: it comes later, or earlier where the version is published there already
abbrev pub IsMoment : DeskFixed → List Event → Range → List Event → Type 0
IsMoment f log range history = (more : List Event) × ((history ≡ log ++ more) ⊎ ((log ≡ history ++ more) × IsPublishedIn (store_of f.limits history) range.blob range.version))

-- What a read by the board tells is what the store answers in every history of it in which the version is published, unless the read is too long or the outside failed.
abbrev pub BoardReadsTell : Type 0
BoardReadsTell = (f : DeskFixed) (log : List (ℕ × Event)) (all list : List Refresh) (range : Range) (said : Result (List ℕ) Fault) (history : List Event)
    → ReadsByList f log all list range said → IsMoment f (events log) range history → Tells (read_outcome (store_of f.limits history) range) range.count (read_reply said)

-- So it gives the bytes that a read by a turn gave or will give, which tells the same of a history in which the version is published.
abbrev pub BoardReadsAgree : Type 0
BoardReadsAgree = (f : DeskFixed) (log : List (ℕ × Event)) (all list : List Refresh) (range : Range) (history : List Event) (bytes others : List ℕ)
    → ReadsByList f log all list range (Ok bytes) → IsMoment f (events log) range history → Tells (read_outcome (store_of f.limits history) range) range.count (Replies.Content others) → bytes ≡ others
