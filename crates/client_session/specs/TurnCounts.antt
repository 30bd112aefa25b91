-- How many turns the calls of a session take.
use Rattle.std.specs.Prelude.{◌≡◌, ◌≢◌, ⊤, [], ℕ, ◌+◌, ◌<◌, ◌≤◌, nat_le, if◌then◌else◌, Bool, true, false, List, Option, Some, None, Result, Ok, Err}
use Rattle.node_store.specs.UpdateRows.{UpdateRow}
use Rattle.border_hints.specs.Numbered.{NumberedUpdate}
use Rattle.tree_weaver.specs.Anew.{StoresSomeAnew, StoresNoneAnew}
use Rattle.client_session.specs.Tickets.{OpenUpdate, IsHeldAt}
use Rattle.client_session.specs.declared.done.Updated.{Updated}
use Rattle.client_session.specs.declared.done.Updated.TheVariants as WholeUpdates
use Rattle.request_form.specs.Replies.{page_faults}
use Rattle.request_form.specs.declared.form.Fault.{Fault}
use Rattle.request_form.specs.declared.form.Fault.TheVariants as Faults
pub use Rattle.request_form.specs.TurnsTaken.{UpTo}

-- a call takes so many turns where it is done, and no more where it isn't
abbrev pub TakesTurns : {A E : Type 0} → Result A E → ℕ → ℕ → ℕ → Type 0
TakesTurns (Ok said) n before after = after ≡ before + n
TakesTurns (Err fault) n before after = UpTo n before after

-- neither a lost page nor want of memory
pub record IsPlainRefusal (fault : Fault) : Type 0 where
  pub no_page : page_faults fault ≡ 0
  pub memory : fault ≢ Faults.NoMemory

-- It is a refusal that came before the last of the n turns that the call takes where it is done.
pub record RefusedEarly (fault : Fault) (n before after : ℕ) : Type 0 where
  pub plain : IsPlainRefusal fault
  pub early : after < before + n

-- the turns of the first look at an update of that many bytes: none for one of one page, unless the session looks first at each
abbrev pub look_turns : Bool → ℕ → ℕ → ℕ
look_turns true page bytes = 1
look_turns false page bytes = (if nat_le bytes page then 0 else 1)

-- the turns until an update of that many bytes is numbered
abbrev pub numbering_turns : Bool → ℕ → ℕ → ℕ
numbering_turns looks_first page bytes = look_turns looks_first page bytes + 1

-- The turns of a finish that was done by the ticket of the numbering: its report, and a look for a fresh ticket before it where the update stores pages of
-- the blob anew.
pub data FinishTurns (t : NumberedUpdate) (before after : ℕ) : Type 0 where
  at_once : StoresNoneAnew t → after ≡ before + 1 → FinishTurns t before after
  anew : StoresSomeAnew t → after ≡ before + 2 → FinishTurns t before after

-- the turns of a finish of a held update that was done: one by its row, and two where it is woven by a fresh ticket
abbrev pub RowTurns : Option UpdateRow → ℕ → ℕ → Type 0
RowTurns (Some row) before after = after ≡ before + 1
RowTurns None before after = after ≡ before + 2

-- so it is with the update that is held under that number
pub record HeldTurns (held : List OpenUpdate) (number before after : ℕ) : Type 0 where
  pub index : ℕ
  pub at : IsHeldAt held number index
  pub turns : RowTurns at.update.row before after

-- An update that is finished at once takes one turn for the finish, or two where it stores pages of the blob anew. One that is held, and one that isn't
-- done, take no more.
abbrev pub UpdateTurns : Result Updated Fault → ℕ → ℕ → ℕ → Type 0
UpdateTurns (Ok (WholeUpdates.Done done)) n before after = (before + (n + 1) ≤ after) × (after ≤ before + (n + 2))
UpdateTurns (Ok (WholeUpdates.Held held)) n before after = (before + n ≤ after) × (after ≤ before + (n + 2))
UpdateTurns (Err fault) n before after = UpTo (n + 2) before after

-- the turns of a finish that was done by the ticket of the numbering, by the pages that the update stores anew
abbrev pub FoldTurns : List ℕ → ℕ → ℕ → Type 0
FoldTurns folds before after = (folds ≡ [] → after ≡ before + 1) × (folds ≢ [] → after ≡ before + 2)

-- An update that was finished at once took the turns of its numbering and of its finish. The pages that a version of the blob stores anew are given.
abbrev pub DoneTurns : Result Updated Fault → (ℕ → List ℕ) → ℕ → ℕ → ℕ → Type 0
DoneTurns (Ok (WholeUpdates.Done done)) folds n before after = FoldTurns (folds done.version) (before + n) after
DoneTurns (Ok (WholeUpdates.Held held)) folds n before after = ⊤
DoneTurns (Err fault) folds n before after = ⊤

-- it isn't finished
abbrev pub IsNotDone : Result Updated Fault → Type 0
IsNotDone (Ok (WholeUpdates.Done done)) = ⊥
IsNotDone (Ok (WholeUpdates.Held held)) = ⊤
IsNotDone (Err fault) = ⊤
