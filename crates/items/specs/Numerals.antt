-- Numbers as decimal digits spell them.
use Rattle.std.specs.Prelude.{ℕ, ◌==◌, nat_le, Bool, false, not, ◌&&◌, if◌then◌else◌, List, [], ◌∷◌, Option, Some, None}
use Rattle.std.specs.Char.{is_ascii_digit}
use Rattle.std.specs.Str.{all_ascii_digits}
use Rattle.std.specs.Str.Parse.{digits_value}

-- the greatest number that a text may spell
abbrev pub max_number : ℕ
max_number = 18446744073709551615

-- one or more decimal digits, the first of which is `0` only where it is the only one
abbrev pub is_numeral : List ℕ → Bool
is_numeral [] = false
is_numeral (d ∷ []) = is_ascii_digit d
is_numeral (d ∷ e ∷ ds) = not (d == 48) && all_ascii_digits (d ∷ e ∷ ds)

-- the number that a text spells
abbrev pub number_of : List ℕ → Option ℕ
number_of text = if is_numeral text && nat_le (digits_value 10 text) max_number then Some (digits_value 10 text) else None
