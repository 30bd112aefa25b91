-- Whether words spell pairs of options and values at all, which is looked at before a parser gets them.
use Rattle.std.specs.Prelude.{◌==◌, Bool, true, false, List, [], length, Option, Some, None, is_some, if◌then◌else◌}
use Rattle.settings.specs.Words.{Bytes, is_plain, option_word, is_listed, pairs_of}

-- an option waits for its value; which one makes no difference
abbrev pub waiting_if : Bool → Option Bytes
waiting_if true = Some []
waiting_if false = None

abbrev pub waits_after_name : Option Bytes → Option Bool
waits_after_name None = Some true
waits_after_name (Some value) = if length value == 0 then None else Some false

abbrev pub waits_after_option : List Bytes → Option (Bytes × Option Bytes) → Option Bool
waits_after_option names None = None
waits_after_option names (Some o) = if is_listed names o.0 then waits_after_name o.1 else None

-- whether an option waits after the word, or none where the word may not stand there
abbrev pub waits_after : List Bytes → Bool → Bytes → Option Bool
waits_after names true word = if is_plain word then Some false else None
waits_after names false word = waits_after_option names (option_word word)

abbrev pub is_spelled : List Bytes → List Bytes → Bool → Bool
is_spelled names words waits = is_some (pairs_of names words (waiting_if waits))
