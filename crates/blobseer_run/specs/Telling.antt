-- Why words or a settings file come to nothing, by the status.
use Rattle.std.specs.Prelude.{◌≡◌, ℕ, List, Option, Some, None}
use Rattle.faults.specs.Counts.{RoseBy}
use Rattle.ports.specs.Files.{Files}
use Rattle.settings.specs.Words.{Bytes}
use Rattle.blobseer_run.specs.declared.status.Status.{Status}
use Rattle.blobseer_run.specs.declared.status.Status.TheVariants as Statuses
use Rattle.blobseer_run.specs.Told.{order_of_words, FileRefused}

-- the words are refused, or no memory was found
pub data WordsStop (words : List Bytes) (status : Status) : Type 0 where
  refused : (status ≡ Statuses.WordsRefused) → (order_of_words words ≡ None) → WordsStop words status
  starved : (status ≡ Statuses.OutOfMemory) → WordsStop words status

-- the file of that name couldn't be read, or is refused, or no memory was found
pub data FileStops (known : Files) (name : Option Bytes) (files files' : ℕ) (status : Status) : Type 0 where
  unread : (status ≡ Statuses.ReadFault) → (n : Bytes) → (name ≡ Some n) → RoseBy 1 files files' → FileStops known name files files' status
  refused : (status ≡ Statuses.SettingsRefused) → FileRefused known name → FileStops known name files files' status
  starved : (status ≡ Statuses.OutOfMemory) → FileStops known name files files' status
