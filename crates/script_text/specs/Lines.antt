use Rattle.std.specs.Prelude.{ℕ, ◌==◌, List, Option, Some, None, refl}
use Rattle.std.specs.List.{slice_split}
use Rattle.std.proofs.Common.{lit≤}
use Rattle.request_form.specs.Stream.{Stream}
use Rattle.request_form.specs.declared.form.Request.{Request}
use Rattle.request_form.specs.declared.form.Heard.{Heard}
use Rattle.request_form.specs.declared.form.Heard.TheVariants.{Asked, Wrong}
use Rattle.request_form.specs.declared.form.Fault.TheVariants.{Malformed}
use Rattle.items.specs.Lines as Of
use Rattle.items.specs.Lines.{Lining, IsLining, lined}
use Rattle.script_text.specs.Requests.{request_of}
pub use Rattle.items.specs.Lines.{with_item}

-- the most bytes of a line, its end not counted
abbrev pub max_line : ℕ
max_line = 4194304

-- the fields of a line, with exactly one space between two of them
abbrev pub fields_of : List ℕ → List (List ℕ)
fields_of line = slice_split (λ b. b == 32) line

-- a line asks for the request that it spells, and is malformed where it spells none
abbrev pub heard_as : Option Request → Heard
heard_as (Some request) = Asked request
heard_as None = Wrong Malformed

-- what a line says that isn't too long
abbrev pub spelled : List ℕ → Heard
spelled line = heard_as (request_of (fields_of line))

-- the lines of a script
abbrev pub script_lines : Lining Heard
script_lines = record { limit = max_line; bad = Wrong Malformed; spelled = λ line. spelled line }

-- no command begins with a space
pub script_lines_hold : IsLining script_lines
script_lines_hold = record { some = lit≤ tt; space = λ text. refl }

-- the item of a line without its end: an empty line and one that begins with `#` have none
abbrev pub item_of_text : List ℕ → Option Heard
item_of_text text = Of.item_of_text script_lines text

-- the item of the bytes before a line feed, or behind the last one; a CR at their end isn't part of the line
abbrev pub item_of : List ℕ → Option Heard
item_of line = Of.item_of script_lines line

-- the stream of some lines: each is ended by a line feed, but the last, which the stream's end makes whole
abbrev pub stream_of : List (List ℕ) → Stream
stream_of lines = Of.stream_of script_lines lines

-- what a script says: its lines lie between its line feeds
abbrev pub heard : List ℕ → Stream
heard script = lined script_lines script
