-- A field that isn't UTF-8 is no number.
use Rattle.std.proofs.Common.{◌≡◌, ℕ, zero, suc, ◌<◌, Bool, true, false, List, [], ◌∷◌, None, refl, arith}
use Rattle.std.specs.Prelude.{IsUtf8, IsAscii}
use Rattle.std.specs.Char.{is_ascii_digit}
use Rattle.std.specs.Str.{all_ascii_digits}
use Rattle.std.proofs.lemmas.Bool.{and_parts, and_from, false≢true}
use Rattle.std.proofs.lemmas.Bool.Decides.{nat_tests}
use Rattle.std.proofs.lemmas.Str.{IsUtf8-from_ascii}
use Rattle.script_text.specs.Fields.{is_numeral, number_of}

digit_low : (b : ℕ) → is_ascii_digit b ≡ true → b < 128
digit_low b h = grind (arith, nat_tests)

digits_ascii : (ds : List ℕ) → all_ascii_digits ds ≡ true → IsAscii ds
digits_ascii [] h i = omega arith
digits_ascii (d ∷ ds) h zero = let parts = and_parts (is_ascii_digit d) (all_ascii_digits ds) h in digit_low d parts.0
digits_ascii (d ∷ ds) h (suc k) = let parts = and_parts (is_ascii_digit d) (all_ascii_digits ds) h in digits_ascii ds parts.1 k

numeral_digits : (field : List ℕ) → is_numeral field ≡ true → all_ascii_digits field ≡ true
numeral_digits [] h = absurd (false≢true h)
numeral_digits (d ∷ []) h = and_from (is_ascii_digit d) true h refl
numeral_digits (d ∷ e ∷ ds) h = let parts = and_parts _ (all_ascii_digits (d ∷ e ∷ ds)) h in parts.1

pub no_text : (field : List ℕ) → (IsUtf8 field → ⊥) → None ≡ number_of field
no_text field bad = go (is_numeral field) refl
  where
    go : (b : Bool) → is_numeral field ≡ b → None ≡ number_of field
    go true e = absurd (bad (IsUtf8-from_ascii field (digits_ascii field (numeral_digits field e))))
    go false e = rw e refl
