-- What the fields of a line spell.
use Rattle.std.specs.Prelude.{ℕ, ◌==◌, if◌then◌else◌, List, [], length, Option, Some, None, codes}
use Rattle.std.specs.Str.{bytes_eq}
use Rattle.std.specs.Result.{result_ok}
use Rattle.hex.specs.Hex.{decode_of}
pub use Rattle.items.specs.Numerals.{max_number, is_numeral, number_of}

-- the bytes that a field spells: `-` is none of them, and pairs of hex digits of either case are one byte each, at least one
abbrev pub bytes_of : List ℕ → Option (List ℕ)
bytes_of field = if bytes_eq field (codes "-") then Some [] else (if length field == 0 then None else result_ok (decode_of field))
