-- What the program is told: the command of its words, and the settings that the words, the settings file and the defaults come to.
use Rattle.std.specs.Prelude.{◌≡◌, ◌≢◌, ℕ, ◌<◌, ◌≤◌, List, length, Option, Some, None}
use Rattle.faults.specs.Counts.{RoseBy}
use Rattle.ports.specs.Files.{Files, Reads}
use Rattle.ports.specs.declared.files.FileText.TheVariants as Texts
use Rattle.settings.specs.declared.table.Command.{Command}
use Rattle.settings.specs.Values.{GivenValues, SettingsValues, nothing}
use Rattle.settings.specs.Words.{Bytes, given_by_words}
use Rattle.settings.specs.File.{Gives}
use Rattle.settings.specs.Merged.{merged}
use Rattle.blobseer_run.specs.Status.{words_refused, settings_refused, read_fault, out_of_memory}

-- the most bytes of a settings file
abbrev pub file_limit : ℕ
file_limit = 65536

-- ---- the words

-- a command, and what its options give
abbrev pub Order : Type 0
Order = Command × GivenValues

-- what the words ask for, or none where they are refused
abbrev pub order_of_words : List Bytes → Option Order
order_of_words words = given_by_words words

-- the words are taken, and ask for that command
abbrev pub AsksFor : List Bytes → Command → Type 0
AsksFor words command = (given : GivenValues) × (order_of_words words ≡ Some (command, given))

-- ---- the settings file, by what is known of files

-- What the file of that name gives. Without a name nothing is given. Of a file of which nothing is known it may be what any text gives.
pub data FileGives (known : Files) (name : Option Bytes) (file : GivenValues) : Type 0 where
  unnamed : (name ≡ None) → (file ≡ nothing) → FileGives known name file
  named : (n text : Bytes) → (name ≡ Some n) → Reads (known n) file_limit (Texts.Text text) → length text ≤ file_limit → Gives text file → FileGives known name file

-- The file of that name is refused: it's longer than the limit, or its text isn't one of settings.
pub data FileRefused (known : Files) (name : Option Bytes) : Type 0 where
  too_long : (n : Bytes) → (name ≡ Some n) → Reads (known n) file_limit Texts.TooLong → FileRefused known name
  no_settings : (n text : Bytes) → (name ≡ Some n) → Reads (known n) file_limit (Texts.Text text) → length text ≤ file_limit → ((file : GivenValues) → ¬ Gives text file)
      → FileRefused known name

-- ---- both together

-- the words ask for the command, and its settings are theirs over the file's over the defaults; the replicas are at most the providers
pub record Settled (words : List Bytes) (known : Files) (command : Command) (settings : SettingsValues) : Type 0 where
  pub given : GivenValues
  pub file : GivenValues
  pub asks : order_of_words words ≡ Some (command, given)
  pub gives : FileGives known given.settings file
  pub merges : settings ≡ merged given file
  pub replicas_fit : settings.replicas ≤ settings.providers

-- The words are taken, and the settings aren't: the file is refused, or the replicas are more than the providers.
pub data SettingsRefused (words : List Bytes) (known : Files) : Type 0 where
  file_refused : (order : Order) → (order_of_words words ≡ Some order) → FileRefused known order.1.settings → SettingsRefused words known
  too_many_replicas : (order : Order) → (file : GivenValues) → (order_of_words words ≡ Some order) → FileGives known order.1.settings file
      → (merged order.1 file).providers < (merged order.1 file).replicas → SettingsRefused words known

-- the words are taken, and name a settings file
abbrev pub NamesFile : List Bytes → Type 0
NamesFile words = (order : Order) × (name : Bytes) × (order_of_words words ≡ Some order) × (order.1.settings ≡ Some name)

-- it's known whether there is the file that the words name, and what it has
abbrev pub IsFileKnown : List Bytes → Files → Type 0
IsFileKnown words known = (order : Order) → (name : Bytes) → order_of_words words ≡ Some order → order.1.settings ≡ Some name → known name ≢ None

-- Why there is nothing to do, by the first of these causes that came, the count of the files' faults before and after, and the status. Want of memory may
-- come at any time.
pub data Stopped (words : List Bytes) (known : Files) (files files' status : ℕ) : Type 0 where
  -- the words were refused, and no file was read
  unasked : (status ≡ words_refused) → (order_of_words words ≡ None) → (files' ≡ files) → Stopped words known files files' status
  -- the settings file couldn't be read
  unread : (status ≡ read_fault) → NamesFile words → RoseBy 1 files files' → Stopped words known files files' status
  -- its text, or what it and the words come to, was refused
  unsettled : (status ≡ settings_refused) → SettingsRefused words known → Stopped words known files files' status
  -- no memory was found for the words or for the text
  starved : (status ≡ out_of_memory) → Stopped words known files files' status
