-- A file session that nobody else was beside, and the names that one enters.
use Rattle.std.specs.Prelude.{◌≡◌, ◌≢◌, ℕ, List, [], ◌∷◌, ◌++◌, map}
use Rattle.std.specs.List.{All}
use Rattle.items.specs.Rounds.{Rounds}
use Rattle.turn_lock.specs.History.{entries_by}
use Rattle.request_form.specs.Session.{AllOwn}
use Rattle.request_form.specs.Transcript.{first_session}
use Rattle.request_form.specs.declared.form.Fault.TheVariants as Faults
use Rattle.file_names.specs.Tree.{NameLog}
use Rattle.file_names.specs.declared.tree.Named.TheVariants as Nameds
use Rattle.file_names.specs.declared.tree.Entered.{Entered}
use Rattle.file_names.specs.Lines.{AllWellHeard}
use Rattle.file_names.specs.declared.form.FileLine.{FileLine}
use Rattle.file_names.specs.declared.form.FileLine.TheVariants as Lines
use Rattle.file_names.specs.declared.form.FileReply.{FileReply}
use Rattle.file_names.specs.declared.form.FileReply.TheVariants as Says
use Rattle.file_names.specs.declared.form.FileHeard.{FileHeard}
use Rattle.file_names.specs.declared.form.FileHeard.TheVariants.{Asked, Wrong}
use Rattle.file_layer.specs.Files.{Files, among_others, nobody, store_fault, FileItemReply}
use Rattle.file_layer.specs.PathMap.{PathMap, new_map, MapItemReply}

-- ---- alone

-- entries of that caller alone
abbrev pub AllBy : ℕ → NameLog → Type 0
AllBy by [] = Unit {0}
AllBy by (e ∷ es) = (e.0 ≡ by) × AllBy by es

-- the session has seen nothing but its own in both histories
pub record SeesOwn (f : Files) : Type 0 where
  pub store : AllOwn f.store.caller f.store.seen
  pub names : AllBy f.by f.names

-- Where all that a file session has seen in the end is its own, each gap was empty, in the store's history and in the names'.
abbrev pub OwnFilesAreAlone : Type 0
OwnFilesAreAlone = (f : Files) (items : List FileHeard) (replies : List FileReply) (f' : Files) → SeesOwn f' → Rounds (FileItemReply among_others) f items replies f'
    → Rounds (FileItemReply nobody) f items replies f'

-- it has seen nothing yet, and holds no ticket
pub record IsFirst (f : Files) : Type 0 where
  pub store : f.store ≡ first_session f.store.fixed f.store.caller
  pub names : f.names ≡ []

-- the reply isn't that a blob isn't there
abbrev pub NamesNoBlob : FileReply → Type 0
NamesNoBlob reply = (blob : ℕ) → reply ≢ store_fault (Faults.NoBlob blob)

-- The replies are those of a map from paths to folders and files, at first `/` alone, and none of them is that a blob isn't there.
pub record AnsweredByMap (f : Files) (items : List FileHeard) (replies : List FileReply) : Type 0 where
  pub last : PathMap
  pub rounds : Rounds MapItemReply (new_map f.store.fixed f.providers f.store.caller) items replies last
  pub no_blob_missing : All NamesNoBlob replies

-- Where nobody else is there, a first session answers as a map does.
abbrev pub AloneAnswerByMap : Type 0
AloneAnswerByMap = (f : Files) (items : List FileHeard) (replies : List FileReply) (f' : Files) → IsFirst f → AllWellHeard items → Rounds (FileItemReply nobody) f items replies f'
    → AnsweredByMap f items replies

-- ---- what is entered

-- the entry that a reply to a new folder tells of
abbrev pub folder_made : List ℕ → FileReply → List Entered
folder_made path (Says.Folder made) = record { path = path; named = Nameds.Folder } ∷ []
folder_made path _ = []

-- and to a new file
abbrev pub file_made : List ℕ → FileReply → List Entered
file_made path (Says.File made blob) = record { path = path; named = Nameds.File blob } ∷ []
file_made path _ = []

-- the entry of a line that got this reply, if it made one
abbrev pub line_made : FileLine → FileReply → List Entered
line_made (Lines.Mkdir path) reply = folder_made path reply
line_made (Lines.Make path) reply = file_made path reply
line_made (Lines.Append path bytes) reply = []
line_made (Lines.Read path version offset count) reply = []
line_made (Lines.Stat path) reply = []
line_made (Lines.List path) reply = []
line_made (Lines.Where path version offset count) reply = []
line_made (Lines.Finish ticket) reply = []
line_made Lines.Quit reply = []

abbrev pub item_made : FileHeard → FileReply → List Entered
item_made (Asked line) reply = line_made line reply
item_made (Wrong fault) reply = []

-- the entries of some lines that got these replies, in their order
abbrev pub all_made : List FileHeard → List FileReply → List Entered
all_made [] replies = []
all_made (item ∷ items) [] = []
all_made (item ∷ items) (reply ∷ replies) = item_made item reply ++ all_made items replies

-- Of the names' history, the session's own entries grew by these, each once and in this order.
pub record Enters (f : Files) (made : List Entered) (f' : Files) : Type 0 where
  pub by : f'.by ≡ f.by
  pub own : entries_by f.by f'.names ≡ entries_by f.by f.names ++ map (λ (e : Entered). let x : ℕ × Entered = (f.by, e) in x) made
