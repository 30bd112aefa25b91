-- Which texts of a settings file the program takes, and what they give.
use Rattle.std.specs.Prelude.{◌≡◌, ℕ, ℤ, pos, List, Option, Some, None, if◌then◌else◌, option_map, option_and_then}
use Rattle.std.specs.Str.{IsUtf8}
use Rattle.toml.specs.Data.{Data, integer, Members, no_members, member}
use Rattle.toml.specs.Parse.{parse_document}
use Rattle.settings.specs.declared.table.NumberRange.{NumberRange}
use Rattle.settings.specs.Table.{key_named, range_of, fits_in_file}
use Rattle.settings.specs.Values.{GivenValues, nothing, with_number}

-- an integer of the range
abbrev pub number_in : NumberRange → ℤ → Option ℕ
number_in range (pos n) = if fits_in_file range n then Some n else None
number_in range _ = None

-- a value that is one
abbrev pub number_by : NumberRange → Data → Option ℕ
number_by range (integer z) = number_in range z
number_by range _ = None

-- what is given with one key more, or none where the name isn't a key, or the value isn't an integer of its range
abbrev pub with_key : List ℕ → Data → GivenValues → Option GivenValues
with_key name value given = option_and_then (λ key. option_map (λ n. with_number key (Some n) given) (number_by (range_of key) value)) (key_named name)

-- and with all keys of a table
abbrev pub with_keys : Members → GivenValues → Option GivenValues
with_keys no_members given = Some given
with_keys (member name value rest) given = option_and_then (with_keys rest) (with_key name value given)

-- what a document gives, by the keys of its top table
abbrev pub given_by_document : List ℕ → Option GivenValues
given_by_document text = option_and_then (λ keys. with_keys keys nothing) (parse_document text)

-- the text is UTF-8 and a document, and its keys give this
pub record Gives (text : List ℕ) (given : GivenValues) : Type 0 where
  pub utf8 : IsUtf8 text
  pub keys : given_by_document text ≡ Some given
