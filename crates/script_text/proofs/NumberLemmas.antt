-- What decimal digits spell, digit by digit.
use Rattle.std.proofs.Common.{◌≡◌, ◌∙◌, ℕ, zero, suc, ◌+◌, ◌-◌, ◌*◌, ◌/◌, ◌%◌, ◌^◌, ◌<◌, ◌≤◌, nat_le, Bool, true, false, List, [], ◌∷◌, ◌++◌, length, get_or, Option, Some, None, refl, sym, ap, arith, append_assoc}
use Rattle.std.specs.Fmt.{decimal}
use Rattle.std.specs.Char.{is_ascii_digit, digit_value}
use Rattle.std.specs.Str.{all_ascii_digits}
use Rattle.std.specs.Str.Parse.{digits_value, digits_value_after}
use Rattle.std.proofs.lemmas.Bool.{ne_eqb, and_parts, and_from, and_right, false≢true}
use Rattle.std.proofs.lemmas.Bool.Decides.{nat_tests}
use Rattle.std.proofs.lemmas.Str.{digit_value_digit}
use Rattle.std.proofs.lemmas.Str.Parse.{IsNumeralModel, numerals_by_value, tells_all_ascii_digits}
use Rattle.std.proofs.lemmas.Fmt.{decimal_digit, decimal_step, decimal_nonempty, first_decimal, digits_decimal, digits_value-decimal}
use Rattle.std.specs.Option.{MatchOption, SomeIff}
use Rattle.script_text.specs.Fields.{is_numeral, number_of, max_number}
use Rattle.script_text.specs.Decoded.{SpellsNoNumber}

own : IsNumeralModel (λ ds. all_ascii_digits ds ≡ true) (digits_value 10)
own = numerals_by_value (λ ds. all_ascii_digits ds ≡ true) tells_all_ascii_digits

in_range : (n : ℕ) → n < 2 ^ 64 → nat_le n max_number ≡ true
in_range n h = grind (arith, nat_tests)

out_of_range : (n : ℕ) → max_number < n → nat_le n max_number ≡ false
out_of_range n h = grind (arith, nat_tests)

is_numeral-by : (ds : List ℕ) → 0 < length ds → 48 < get_or ds 0 0 → all_ascii_digits ds ≡ true → is_numeral ds ≡ true
is_numeral-by [] some first h = absurd (omega arith)
is_numeral-by (d ∷ []) some first h = let parts = and_parts (is_ascii_digit d) true h in parts.0
is_numeral-by (d ∷ e ∷ ds) some first h = rw (ne_eqb d 48 (λ z. omega arith)) h

decimal_numeral : (n : ℕ) → n < 2 ^ 64 → is_numeral (decimal n) ≡ true
decimal_numeral zero h = ap (λ (l : List ℕ). is_numeral l) (decimal_digit 0 (omega arith))
decimal_numeral (suc n) h = is_numeral-by (decimal (suc n)) (decimal_nonempty (suc n) h) (first_decimal (suc n) (omega arith) h) (digits_decimal own (suc n) h)

-- the digits of a number spell it
pub number_of-decimal : (n : ℕ) → n < 2 ^ 64 → number_of (decimal n) ≡ Some n
number_of-decimal n h = rw (decimal_numeral n h, digits_value-decimal own n h, in_range n h) refl

numeral_digits : (field : List ℕ) → is_numeral field ≡ true → all_ascii_digits field ≡ true
numeral_digits [] h = absurd (false≢true h)
numeral_digits (d ∷ []) h = and_from (is_ascii_digit d) true h refl
numeral_digits (d ∷ e ∷ ds) h = let parts = and_parts _ (all_ascii_digits (d ∷ e ∷ ds)) h in parts.1

none_from : (field : List ℕ) → (is_numeral field ≡ true → max_number < digits_value 10 field) → number_of field ≡ None
none_from field h = go (is_numeral field) refl
  where
    go : (b : Bool) → is_numeral field ≡ b → number_of field ≡ None
    go true e = rw (e, out_of_range (digits_value 10 field) (h e)) refl
    go false e = rw e refl

all_digits-bad : (xs : List ℕ) (b : ℕ) (ys : List ℕ) → is_ascii_digit b ≡ false → all_ascii_digits (xs ++ b ∷ ys) ≡ false
all_digits-bad [] b ys h = rw h refl
all_digits-bad (x ∷ xs) b ys h = and_right (is_ascii_digit x) (all_ascii_digits (xs ++ b ∷ ys)) (all_digits-bad xs b ys h)

-- what is no digit
pub no_digit : (digits : List ℕ) (b : ℕ) → is_ascii_digit b ≡ false → SpellsNoNumber (digits ++ b ∷ [])
no_digit digits b h more =
    ap (λ (l : List ℕ). number_of l) (append_assoc digits (b ∷ []) more)
    ∙ none_from (digits ++ b ∷ more) (λ e. absurd (false≢true (sym (all_digits-bad digits b more h) ∙ numeral_digits (digits ++ b ∷ more) e)))

-- a digit behind a zero
pub zero_more : (b : ℕ) → SpellsNoNumber (decimal 0 ++ b ∷ [])
zero_more b more = ap (λ (l : List ℕ). number_of ((l ++ b ∷ []) ++ more)) (decimal_digit 0 (omega arith))

value_after-append : (n : ℕ) (xs ys : List ℕ) → digits_value_after 10 n (xs ++ ys) ≡ digits_value_after 10 (digits_value_after 10 n xs) ys
value_after-append n [] ys = refl
value_after-append n (x ∷ xs) ys = value_after-append (n * 10 + digit_value x) xs ys

le_value_after : (n : ℕ) (ds : List ℕ) → n ≤ digits_value_after 10 n ds
le_value_after n [] = omega arith
le_value_after n (c ∷ cs) = omega (arith, le_value_after (n * 10 + digit_value c) cs)

digit_range : (b : ℕ) → is_ascii_digit b ≡ true → (48 ≤ b) × (b ≤ 57)
digit_range b h = grind (arith, nat_tests)

-- a digit that makes the number too great
pub too_great : (n b : ℕ) → n < 2 ^ 64 → is_ascii_digit b ≡ true → max_number < n * 10 + (b - 48) → SpellsNoNumber (decimal n ++ b ∷ [])
too_great n b h digit great more =
    let range = digit_range b digit in
    let value : digit_value b ≡ b - 48 = omega (arith, digit_value_digit b range) in
    let is : digits_value 10 (decimal n ++ b ∷ more) ≡ digits_value_after 10 (n * 10 + digit_value b) more =
    value_after-append 0 (decimal n) (b ∷ more) ∙ ap (λ (m : ℕ). digits_value_after 10 m (b ∷ more)) (digits_value-decimal own n h) in
    let least = le_value_after (n * 10 + digit_value b) more in
    ap (λ (l : List ℕ). number_of l) (append_assoc (decimal n) (b ∷ []) more)
    ∙ none_from (decimal n ++ b ∷ more) (λ _. omega arith)

-- a first digit
pub one_digit : (b : ℕ) → is_ascii_digit b ≡ true → b ∷ [] ≡ decimal (b - 48)
one_digit b h =
    let range = digit_range b h in
    let is : b ≡ 48 + (b - 48) = omega arith in
    ap (λ (n : ℕ). n ∷ []) is ∙ sym (decimal_digit (b - 48) (omega arith))

-- one more digit
pub more_digit : (n b : ℕ) → 0 < n → is_ascii_digit b ≡ true → n * 10 + (b - 48) < 2 ^ 64 → decimal n ++ b ∷ [] ≡ decimal (n * 10 + (b - 48))
more_digit n b some h fits =
    let range = digit_range b h in
    let m : ℕ = n * 10 + (b - 48) in
    let front : m / 10 ≡ n = omega arith in
    let end : 48 + m % 10 ≡ b = omega arith in
    sym (decimal_step m (omega arith) fits ∙ (λ i. decimal (front i) ++ (end i ∷ [])))

-- one more digit, if the number still fits
pub checked_digit : (n b digit product : ℕ) (r : Option ℕ) → 0 < n → n < 2 ^ 64 → is_ascii_digit b ≡ true → digit ≡ b - 48 → product ≡ n * 10 → SomeIff r (product + digit < 2 ^ 64) (product + digit)
    → MatchOption r (SpellsNoNumber (decimal n ++ b ∷ [])) (λ more. decimal n ++ b ∷ [] ≡ decimal more)
checked_digit n b digit product (Some m) some fits is d p h =
    let sum : n * 10 + (b - 48) ≡ m = omega (arith, h.1) in
    more_digit n b some is (omega (arith, h.0)) ∙ ap (λ (k : ℕ). decimal k) sum
checked_digit n b digit product None some fits is d p h = too_great n b fits is (omega (arith, h))

pub digit_in : (b : ℕ) → 48 ≤ b → b ≤ 57 → is_ascii_digit b ≡ true
digit_in b low high = grind (arith, nat_tests)
