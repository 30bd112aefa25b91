-- The numbers of options, one key after another.
use Rattle.std.specs.Prelude.{ℕ, List, [], ◌∷◌, Option, Some, None, if◌then◌else◌, option_and_then}
use Rattle.settings.specs.declared.table.Key.{Key}
use Rattle.settings.specs.Values.{GivenValues, with_number}
use Rattle.settings.specs.Words.{Bytes, is_number, number_said}

-- the number that is given to a key, if there is one; none where what is given isn't a number of the key's range
abbrev pub number_if : (Bytes → Option Bytes) → Key → Option (Option ℕ)
number_if said key = if is_number said key then Some (number_said said key) else None

-- what is given with the numbers of these keys
abbrev pub with_numbers : (Bytes → Option Bytes) → List Key → GivenValues → Option GivenValues
with_numbers said [] given = Some given
with_numbers said (key ∷ rest) given = option_and_then (λ number. with_numbers said rest (with_number key number given)) (number_if said key)
