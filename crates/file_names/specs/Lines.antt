-- What a line asks for.
use Rattle.std.specs.Prelude.{◌≡◌, ℕ, if◌then◌else◌, List, [], ◌∷◌, Option, Some, None, codes, refl}
use Rattle.std.specs.Str.{bytes_eq}
use Rattle.std.proofs.Common.{lit≤}
use Rattle.items.specs.Items.{ItemStream}
use Rattle.file_names.specs.Paths.{is_path}
use Rattle.items.specs.Lines.{Lining, IsLining, lined}
use Rattle.script_text.specs.Fields.{number_of, bytes_of}
use Rattle.script_text.specs.Lines.{max_line, fields_of}
use Rattle.file_names.specs.declared.command.FileCommand.{FileCommand}
use Rattle.file_names.specs.declared.command.FileCommand.TheVariants as Commands
use Rattle.file_names.specs.declared.form.FileLine.{FileLine}
use Rattle.file_names.specs.declared.form.FileLine.TheVariants as Asks
use Rattle.file_names.specs.declared.form.FileHeard.{FileHeard}
use Rattle.file_names.specs.declared.form.FileHeard.TheVariants.{Asked, Wrong}
use Rattle.request_form.specs.declared.form.Fault.TheVariants.{Malformed}

-- ---- what stands behind a command

-- the path that a field is
abbrev pub path_of : List ℕ → Option (List ℕ)
path_of field = if is_path field then Some field else None

-- one field and no other
abbrev pub only : {A : Type 0} → (List ℕ → Option A) → List (List ℕ) → Option A
only read [] = None
only read (field ∷ []) = read field
only read (field ∷ next ∷ fields) = None

-- both of two things, or neither
abbrev pub both : {A B : Type 0} → Option A → Option B → Option (A × B)
both (Some a) (Some b) = Some (a, b)
both (Some a) None = None
both None b = None

-- a field, and what those behind it are
abbrev pub first_and : {A B : Type 0} → (List ℕ → Option A) → (List (List ℕ) → Option B) → List (List ℕ) → Option (A × B)
first_and read others [] = None
first_and read others (field ∷ fields) = both (read field) (others fields)

abbrev pub one_path : List (List ℕ) → Option (List ℕ)
one_path fields = only path_of fields

abbrev pub one_number : List (List ℕ) → Option ℕ
one_number fields = only number_of fields

abbrev pub one_bytes : List (List ℕ) → Option (List ℕ)
one_bytes fields = only bytes_of fields

abbrev pub two_numbers : List (List ℕ) → Option (ℕ × ℕ)
two_numbers fields = first_and number_of one_number fields

abbrev pub before_two : {A B C : Type 0} → Option (A × (B × C)) → Option (A × B × C)
before_two (Some all) = Some (all.0, all.1.0, all.1.1)
before_two None = None

abbrev pub before_three : {A B C D : Type 0} → Option (A × (B × C × D)) → Option (A × B × C × D)
before_three (Some all) = Some (all.0, all.1.0, all.1.1, all.1.2)
before_three None = None

abbrev pub three_numbers : List (List ℕ) → Option (ℕ × ℕ × ℕ)
three_numbers fields = before_two (first_and number_of two_numbers fields)

-- a path, and bytes in hex digits
abbrev pub path_and_bytes : List (List ℕ) → Option (List ℕ × List ℕ)
path_and_bytes fields = first_and path_of one_bytes fields

-- a path, a version, and the first byte of a range and how many they are
abbrev pub path_and_range : List (List ℕ) → Option (List ℕ × ℕ × ℕ × ℕ)
path_and_range fields = before_three (first_and path_of three_numbers fields)

-- ---- lines

abbrev pub command_of : FileCommand → List ℕ
command_of Commands.Mkdir = codes "mkdir"
command_of Commands.Make = codes "make"
command_of Commands.Append = codes "append"
command_of Commands.Read = codes "read"
command_of Commands.Stat = codes "stat"
command_of Commands.List = codes "list"
command_of Commands.Where = codes "where"
command_of Commands.Finish = codes "finish"
command_of Commands.Quit = codes "quit"

-- the line, where there is what it is made of
abbrev pub made : {A : Type 0} → (A → FileLine) → Option A → Option FileLine
made line None = None
made line (Some a) = Some (line a)

abbrev pub alone : FileLine → List (List ℕ) → Option FileLine
alone line [] = Some line
alone line (field ∷ fields) = None

-- what the fields behind a command make of it
abbrev pub makes : FileCommand → List (List ℕ) → Option FileLine
makes Commands.Mkdir fields = made (λ path. Asks.Mkdir path) (one_path fields)
makes Commands.Make fields = made (λ path. Asks.Make path) (one_path fields)
makes Commands.Append fields = made (λ f. Asks.Append f.0 f.1) (path_and_bytes fields)
makes Commands.Read fields = made (λ f. Asks.Read f.0 f.1 f.2 f.3) (path_and_range fields)
makes Commands.Stat fields = made (λ path. Asks.Stat path) (one_path fields)
makes Commands.List fields = made (λ path. Asks.List path) (one_path fields)
makes Commands.Where fields = made (λ f. Asks.Where f.0 f.1 f.2 f.3) (path_and_range fields)
makes Commands.Finish fields = made (λ ticket. Asks.Finish ticket) (one_number fields)
makes Commands.Quit fields = alone Asks.Quit fields

-- no two have one word
abbrev pub commands : List FileCommand
commands =
    Commands.Mkdir ∷ Commands.Make ∷ Commands.Append ∷ Commands.Read ∷ Commands.Stat ∷ Commands.List ∷ Commands.Where ∷ Commands.Finish ∷ Commands.Quit ∷ []

-- what the command with that word makes of the fields behind it
abbrev pub line_in : List FileCommand → List ℕ → List (List ℕ) → Option FileLine
line_in [] word fields = None
line_in (command ∷ others) word fields = if bytes_eq word (command_of command) then makes command fields else line_in others word fields

-- the line that some fields spell, where they spell one
abbrev pub line_of : List (List ℕ) → Option FileLine
line_of [] = None
line_of (word ∷ fields) = line_in commands word fields

abbrev pub heard_as : Option FileLine → FileHeard
heard_as (Some line) = Asked line
heard_as None = Wrong Malformed

-- lines of files: as long as those of a script, and with the same spaces
abbrev pub file_lines : Lining FileHeard
file_lines = record { limit = max_line; bad = Wrong Malformed; spelled = λ line. heard_as (line_of (fields_of line)) }

-- no command begins with a space
pub file_lines_hold : IsLining file_lines
file_lines_hold = record { some = lit≤ tt; space = λ text. refl }

-- what a stream of lines says
abbrev pub heard : List ℕ → ItemStream FileHeard
heard bytes = lined file_lines bytes

-- a wrong line is malformed
abbrev pub IsWellHeard : FileHeard → Type 0
IsWellHeard (Asked line) = Unit {0}
IsWellHeard (Wrong fault) = fault ≡ Malformed

abbrev pub AllWellHeard : List FileHeard → Type 0
AllWellHeard [] = Unit {0}
AllWellHeard (item ∷ items) = IsWellHeard item × AllWellHeard items
