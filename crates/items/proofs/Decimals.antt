-- Numbers in decimal digits, as std reads them.
use Rattle.std.proofs.Common.{◌≡◌, ◌≢◌, ℕ, ◌^◌, ◌<◌, Bool, true, false, nat_le, List, [], ◌∷◌, length, get_or, Some, None, Result, Ok, Err, refl, sym, ap, ◌∙◌, arith}
use Rattle.std.specs.Str.{all_ascii_digits}
use Rattle.std.specs.Str.Parse.{digits_value, ParsesUnsigned}
use Rattle.std.specs.Result.{OkIff, result_ok}
use Rattle.std.proofs.lemmas.Bool.{ne_eqb}
use Rattle.std.proofs.Math.Bool.{and-true}
use Rattle.std.proofs.lemmas.Str.Parse.{IsNumeralModel, numerals_by_value, tells_all_ascii_digits, parse_plain}
use Rattle.std.proofs.lemmas.Bool.Decides.{nat_tests}
use Rattle.std.specs.List.{slice_get}
use Rattle.std.specs.Char.{is_ascii_digit}
use Rattle.items.specs.Numerals.{is_numeral, number_of, max_number}

own : IsNumeralModel (λ ds. all_ascii_digits ds ≡ true) (digits_value 10)
own = numerals_by_value (λ ds. all_ascii_digits ds ≡ true) tells_all_ascii_digits

-- a numeral that begins with no zero is one of digits
is_numeral-plain : (field : List ℕ) → 0 < length field → get_or field 0 0 ≢ 48 → is_numeral field ≡ all_ascii_digits field
is_numeral-plain [] some first = absurd (omega arith)
is_numeral-plain (d ∷ []) some first = sym (and-true (is_ascii_digit d))
is_numeral-plain (d ∷ e ∷ ds) some first = rw (ne_eqb d 48 first) refl

-- no digits, no number
no_digits : (field : List ℕ) → 0 < length field → get_or field 0 0 ≢ 48 → all_ascii_digits field ≡ false → number_of field ≡ None
no_digits field some first e = rw (is_numeral-plain field some first ∙ e) refl

in_range : (n : ℕ) → n < 2 ^ 64 → nat_le n max_number ≡ true
in_range n h = grind (arith, nat_tests)

out_of_range : (n : ℕ) → (n < 2 ^ 64 → ⊥) → nat_le n max_number ≡ false
out_of_range n h = grind (arith, nat_tests)

number_from_err : (field : List ℕ) → 0 < length field → get_or field 0 0 ≢ 48 →
    ¬ ((all_ascii_digits field ≡ true) × (0 < length field) × (digits_value 10 field < 2 ^ 64)) → (b : Bool) → all_ascii_digits field ≡ b → None ≡ number_of field
number_from_err field some first h true e =
    sym (rw (is_numeral-plain field some first ∙ e, out_of_range (digits_value 10 field) (λ small. h (e, some, small))) refl)
number_from_err field some first h false e = sym (no_digits field some first e)

number_from : {E : Type 0} (field : List ℕ) (r : Result ℕ E) → 0 < length field → get_or field 0 0 ≢ 48 →
    OkIff r ((all_ascii_digits field ≡ true) × (0 < length field) × (digits_value 10 field < 2 ^ 64)) (digits_value 10 field) → result_ok r ≡ number_of field
number_from field (Ok x) some first h =
    ap (λ (n : ℕ). Some n) h.1 ∙ sym (rw (is_numeral-plain field some first ∙ h.0.0, in_range (digits_value 10 field) h.0.2) refl)
number_from field (Err e) some first h = number_from_err field some first h (all_ascii_digits field) refl

-- what std's numbers read, where no sign and no zero comes first
pub number_of-parsed : {E : Type 0} (field : List ℕ) (r : Result ℕ E) → 0 < length field → get_or field 0 0 ≢ 48 → get_or field 0 0 ≢ 43 →
    ParsesUnsigned 64 10 field r → result_ok r ≡ number_of field
number_of-parsed field r some zero plus h = number_from field r some zero (parse_plain own 64 field r h plus)

-- ---- what std's calls gave

pub first_is : (field : List ℕ) (x : ℕ) → Some x ≡ slice_get field 0 → (0 < length field) × (get_or field 0 0 ≡ x)
first_is [] x e = absurd (cc)
first_is (b ∷ bs) x e = (omega arith, cc)
