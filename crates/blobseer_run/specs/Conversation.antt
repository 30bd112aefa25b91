-- What a conversation over the input and the output comes to, whatever its items are.
use Rattle.std.specs.Prelude.{◌≡◌, ◌≢◌, ℕ, ◌<◌, ◌≤◌, Bool, true, false, List, [], ◌++◌, length}
use Rattle.std.specs.Io.KnownBytes.{Appends, IsAtEnd}
use Rattle.faults.specs.Counts.{RoseBy}
use Rattle.items.specs.Items.{ItemStream}
use Rattle.items.specs.Rounds.{has_last}
use Rattle.server_core.specs.declared.flow.End.{End}
use Rattle.server_core.specs.declared.flow.End.TheVariants as Ends
use Rattle.blobseer_run.specs.declared.status.Status.{Status}
use Rattle.blobseer_run.specs.declared.status.Status.TheVariants as Statuses
use Rattle.blobseer_run.specs.Status.{done, read_fault, write_fault, out_of_memory, input_too_long}
use Rattle.blobseer_run.specs.Outside.{Outside, TakesOff}

-- the most bytes that a command takes of its input
abbrev pub input_limit : ℕ
input_limit = 4294967296

-- how a command ends whose conversation ended so
abbrev pub status_after : End → Status
status_after Ends.Quit = Statuses.Done
status_after Ends.InputEnd = Statuses.Done
status_after Ends.Cut = Statuses.Done
status_after Ends.ReadFault = Statuses.ReadFault
status_after Ends.WriteFault = Statuses.WriteFault
status_after Ends.InputTooLong = Statuses.InputTooLong
status_after Ends.NoMemory = Statuses.OutOfMemory

-- What is heard in bytes, which item is the last one to be answered, and which texts are all the replies to items, up to a last one.
pub record Dialogue (Item : Type 0) : Type 1 where
  pub heard : List ℕ → ItemStream Item
  pub is_last : Item → Bool
  pub Says : List Item → List ℕ → Type 0

-- The items that are to be answered: all that are heard of an input that was read to its end, where nothing was left of it, else the whole ones, which don't wait for the end.
pub data IsDue {Item : Type 0} (heard : ItemStream Item) (taken : List ℕ) (old new : Outside) (due : List Item) : Type 0 where
  all : length taken < input_limit → RoseBy 1 old.ends new.ends → IsAtEnd new.left → (due ≡ heard.items) → IsDue heard taken old new due
  whole : (due ≡ heard.whole) → IsDue heard taken old new due

-- How a conversation ended, by the status: the bytes that were taken, the text that was written, what of the replies wasn't written, and the objects before
-- and after.
pub data Ended {Item : Type 0} (d : Dialogue Item) (taken text rest : List ℕ) (old new : Outside) (status : ℕ) : Type 0 where
  -- the input was read to its end, where nothing was left of it, and all of it was answered
  finished : (status ≡ done) → length taken < input_limit → RoseBy 1 old.ends new.ends → IsAtEnd new.left → ((d.heard taken).cut ≡ false) → (rest ≡ []) → d.Says (d.heard taken).items text →
      Ended d taken text rest old new status
  -- it was read to its end, where nothing was left of it, which is inside an item, and the whole items before it, none of them a last one, were answered
  cut : (status ≡ done) → length taken < input_limit → RoseBy 1 old.ends new.ends → IsAtEnd new.left → ((d.heard taken).cut ≡ true) → (has_last d.is_last (d.heard taken).whole ≡ false) → (rest ≡ []) →
      d.Says (d.heard taken).whole text → Ended d taken text rest old new status
  -- a last item was answered, and nothing after it
  quit : (status ≡ done) → (due : List Item) → IsDue (d.heard taken) taken old new due → (has_last d.is_last due ≡ true) → (rest ≡ []) → d.Says due text →
      Ended d taken text rest old new status
  -- a read failed, and the whole items before it, none of them a last one, were answered
  unread : (status ≡ read_fault) → length taken < input_limit → RoseBy 1 old.reads new.reads → (has_last d.is_last (d.heard taken).whole ≡ false) → (rest ≡ []) →
      d.Says (d.heard taken).whole text → Ended d taken text rest old new status
  -- a write failed before all was written
  unwritten : (status ≡ write_fault) → RoseBy 1 old.writes new.writes → (due : List Item) → IsDue (d.heard taken) taken old new due → (0 < length rest) →
      d.Says due (text ++ rest) → Ended d taken text rest old new status
  -- no memory was found
  starved : (status ≡ out_of_memory) → (due : List Item) → IsDue (d.heard taken) taken old new due → d.Says due (text ++ rest) →
      Ended d taken text rest old new status
  -- as many bytes as a command takes were taken, none of their whole items is a last one, and these were answered
  too_long : (status ≡ input_too_long) → (length taken ≡ input_limit) → (has_last d.is_last (d.heard taken).whole ≡ false) → (rest ≡ []) →
      d.Says (d.heard taken).whole text → Ended d taken text rest old new status

-- The input was answered: bytes were taken off it, never more than the limit, and text was written on the output, and the status tells how it ended. It is the
-- status of a full input exactly where as many bytes were taken, no whole item in them is a last one, and all the replies to these were written; want of
-- memory may come first.
pub record Conversed {Item : Type 0} (d : Dialogue Item) (old new : Outside) (status : ℕ) : Type 0 where
  pub taken : List ℕ
  pub text : List ℕ
  pub rest : List ℕ
  pub takes : TakesOff old new taken
  pub within : length taken ≤ input_limit
  pub adds : Appends old.written new.written text
  pub ended : Ended d taken text rest old new status
  pub full : length taken ≡ input_limit → has_last d.is_last (d.heard taken).whole ≡ false → rest ≡ [] → status ≢ out_of_memory → status ≡ input_too_long
