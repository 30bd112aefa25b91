-- The fields of a text, taken apart at its spaces, and what a command makes of them.
use Rattle.std.proofs.Common.{◌≡◌, ◌∙◌, ℕ, zero, suc, ◌+◌, ◌^◌, ◌<◌, ◌==◌, Bool, cond, true, false, List, [], ◌∷◌, ◌++◌, length, map, Option, Some, None, refl, ap, arith, rules, append_assoc}
use Rattle.std.specs.Fmt.{decimal}
use Rattle.std.specs.Str.Parse.{AllDigits}
use Rattle.std.specs.List.{All}
use Rattle.std.proofs.lemmas.Bool.{ne_eqb}
use Rattle.std.proofs.lemmas.Bool.Decides.{nat_tests}
use Rattle.std.proofs.lemmas.Fmt.{decimal_is_IsNumeral}
use Rattle.std.proofs.lemmas.Str.Parse.{digit_from_value}
use Rattle.std.proofs.lemmas.List.Elements.{All-nil, All-cons, All-head, All-tail, All-weaker}
use Rattle.std.proofs.lemmas.List.Splits.{slice_split_at, slice_split_none}
use Rattle.request_form.specs.declared.operation.Operation.{Operation}
use Rattle.request_form.specs.Operations.{numbers_of, has_bytes, HasWord}
use Rattle.request_form.proofs.Rows.{word_is, word_found}
use Rattle.script_text.specs.Requests.{with_number, read, ask, request_in, request_of}
use Rattle.script_text.specs.Lines.{fields_of}
use Rattle.script_text.specs.Begun.{IsWithout, IsLetter}
use Rattle.script_text.specs.Decoded.{command_of, numbers_text, part_text, fields_text}
use Rattle.script_text.specs.declared.fields.Part.{Part}
use Rattle.script_text.proofs.NumberLemmas.{number_of-decimal}

-- a text with a space has the field before it first
pub fields_of-cut : (front back : List ℕ) → IsWithout 32 front → fields_of (front ++ 32 ∷ back) ≡ front ∷ fields_of back
fields_of-cut front back without = slice_split_at (λ b. b == 32) front 32 back without refl

-- a text without a space is one field
pub fields_of-one : (text : List ℕ) → IsWithout 32 text → fields_of text ≡ text ∷ []
fields_of-one text without = slice_split_none (λ b. b == 32) text without

-- ---- bytes without a space

abbrev pub IsSolid : List ℕ → Type 0
IsSolid bytes = All (λ b. 35 < b) bytes

solid_byte : (b : ℕ) → 35 < b → (b == 32) ≡ false
solid_byte b h = ne_eqb b 32 (λ e. omega arith)

pub solid_without : (bytes : List ℕ) → IsSolid bytes → IsWithout 32 bytes
solid_without bytes h = All-weaker (λ b. 35 < b) (λ b. (b == 32) ≡ false) solid_byte bytes h

digits_solid : (ds : List ℕ) → AllDigits 10 ds → IsSolid ds
digits_solid [] h = All-nil (λ b. 35 < b)
digits_solid (c ∷ cs) h = let range = digit_from_value c h.0 in All-cons (λ b. 35 < b) c cs (omega arith) (digits_solid cs h.1)

pub decimal_solid : (n : ℕ) → n < 2 ^ 64 → IsSolid (decimal n)
decimal_solid n h = let numeral = decimal_is_IsNumeral n h in digits_solid (decimal n) numeral.0.1

abbrev is_letter : ℕ → Bool
is_letter b = cond (b == 45) true (cond (b == 97) true (cond (b == 98) true (cond (b == 99) true (cond (b == 100) true (cond (b == 101) true (cond (b == 102) true (cond (b == 104) true (cond (b == 105) true (cond (b == 110) true
    (cond (b == 112) true (cond (b == 113) true (cond (b == 114) true (cond (b == 115) true (cond (b == 116) true (cond (b == 117) true (cond (b == 119) true (cond (b == 121) true (b == 122))))))))))))))))))

abbrev all_letters : List ℕ → Bool
all_letters [] = true
all_letters (b ∷ bs) = cond (is_letter b) (all_letters bs) false

letter_from : (b : ℕ) → is_letter b ≡ true → IsLetter b
letter_from b h = grind (arith, nat_tests)

letters_from : (bs : List ℕ) → all_letters bs ≡ true → All IsLetter bs
letters_from [] h = All-nil IsLetter
letters_from (b ∷ bs) h = go (is_letter b) refl h (letters_from bs)
  where
    go : (t : Bool) → is_letter b ≡ t → cond t (all_letters bs) false ≡ true → (all_letters bs ≡ true → All IsLetter bs) → All IsLetter (b ∷ bs)
    go true e k on = All-cons IsLetter b bs (letter_from b e) (on k)
    go false e k on = absurd (cc)

pub command_letters : (operation : Operation) → All IsLetter (command_of operation)
command_letters operation = letters_from (command_of operation) (search rules)

pub letter_solid : (b : ℕ) → IsLetter b → 35 < b
letter_solid b h = grind arith

pub letters_solid : (bs : List ℕ) → All IsLetter bs → IsSolid bs
letters_solid bs h = All-weaker IsLetter (λ b. 35 < b) letter_solid bs h

-- ---- what commands make of fields

pub with_number-none : (o : Option ℕ) → with_number o None ≡ None
with_number-none (Some n) = refl
with_number-none None = refl

-- what is no command makes no request
pub no_command : (word : List ℕ) (fs : List (List ℕ)) → ((operation : Operation) → HasWord operation word → ⊥) → request_of (word ∷ fs) ≡ None
no_command word fs h = ap (λ (o : Option Operation). request_in o fs) (word_is None word h)

-- a word that is an operation's command
pub is_command : (operation : Operation) (word : List ℕ) → HasWord operation word → word ≡ command_of operation
is_command operation word h = search rules

-- ---- a line up to the field that has begun

-- numbers that have come in front of what is read
abbrev pub with_numbers : List ℕ → Option (List ℕ × List ℕ) → Option (List ℕ × List ℕ)
with_numbers [] p = p
with_numbers (n ∷ ns) p = with_number (Some n) (with_numbers ns p)

pub with_numbers-none : (ns : List ℕ) → with_numbers ns None ≡ None
with_numbers-none [] = refl
with_numbers-none (n ∷ ns) = ap (λ (p : Option (List ℕ × List ℕ)). with_number (Some n) p) (with_numbers-none ns)

pub with_numbers-some : (ns ms bytes : List ℕ) → with_numbers ns (Some (ms, bytes)) ≡ Some (ns ++ ms, bytes)
with_numbers-some [] ms bytes = refl
with_numbers-some (n ∷ ns) ms bytes = ap (λ (p : Option (List ℕ × List ℕ)). with_number (Some n) p) (with_numbers-some ns ms bytes)

abbrev pub AllSmall : List ℕ → Type 0
AllSmall ns = All (λ n. n < 2 ^ 64) ns

small_head : (n : ℕ) (ns : List ℕ) → AllSmall (n ∷ ns) → n < 2 ^ 64
small_head n ns h = All-head (λ n. n < 2 ^ 64) n ns h

small_tail : (n : ℕ) (ns : List ℕ) → AllSmall (n ∷ ns) → AllSmall ns
small_tail n ns h = All-tail (λ n. n < 2 ^ 64) n ns h

fields_numbers : (ns text : List ℕ) → AllSmall ns → fields_of (numbers_text ns ++ text) ≡ map decimal ns ++ fields_of text
fields_numbers [] text h = refl
fields_numbers (n ∷ ns) text h =
    ap (λ (l : List ℕ). fields_of l) (append_assoc (decimal n) (32 ∷ numbers_text ns) text)
    ∙ fields_of-cut (decimal n) (numbers_text ns ++ text) (solid_without (decimal n) (decimal_solid n (small_head n ns h)))
    ∙ ap (λ (fs : List (List ℕ)). decimal n ∷ fs) (fields_numbers ns text (small_tail n ns h))

read_numbers : (ns : List ℕ) (k total : ℕ) (bytes : Bool) (fs : List (List ℕ)) → AllSmall ns → length ns + k ≡ total → read total bytes (map decimal ns ++ fs) ≡ with_numbers ns (read k bytes fs)
read_numbers [] k total bytes fs h e = let same : total ≡ k = omega arith in ap (λ (n : ℕ). read n bytes fs) same
read_numbers (n ∷ ns) k zero bytes fs h e = absurd (omega arith)
read_numbers (n ∷ ns) k (suc total) bytes fs h e =
    ap (λ (o : Option ℕ). with_number o (read total bytes (map decimal ns ++ fs))) (number_of-decimal n (small_head n ns h))
    ∙ ap (λ (p : Option (List ℕ × List ℕ)). with_number (Some n) p) (read_numbers ns k total bytes fs (small_tail n ns h) (omega arith))

-- where the field stands that has begun
pub text_splits : (operation : Operation) (ns : List ℕ) (part : Part) (bytes more : List ℕ) → fields_text operation ns part bytes ++ more ≡ command_of operation ++ 32 ∷ (numbers_text ns ++ (part_text part bytes ++ more))
unfolding fields_text
text_splits operation ns part bytes more =
    append_assoc (command_of operation) (32 ∷ (numbers_text ns ++ part_text part bytes)) more
    ∙ ap (λ (l : List ℕ). command_of operation ++ 32 ∷ l) (append_assoc (numbers_text ns) (part_text part bytes) more)

pub command_cut : (operation : Operation) (back : List ℕ) → HasWord operation (command_of operation) → request_of (fields_of (command_of operation ++ 32 ∷ back)) ≡ request_in (Some operation) (fields_of back)
command_cut operation back worded =
    ap (λ (fs : List (List ℕ)). request_of fs) (fields_of-cut (command_of operation) back (solid_without (command_of operation) (letters_solid (command_of operation) (command_letters operation))))
    ∙ ap (λ (o : Option Operation). request_in o (fields_of back)) (word_found operation (command_of operation) worded)

-- such a line asks for what its numbers and the fields from there on are read as
pub asks : (operation : Operation) (ns : List ℕ) (part : Part) (bytes more : List ℕ) (k : ℕ) → HasWord operation (command_of operation) → AllSmall ns → length ns + k ≡ numbers_of operation
    → request_of (fields_of (fields_text operation ns part bytes ++ more)) ≡ ask operation (with_numbers ns (read k (has_bytes operation) (fields_of (part_text part bytes ++ more))))
asks operation ns part bytes more k worded small e =
    ap (λ (l : List ℕ). request_of (fields_of l)) (text_splits operation ns part bytes more)
    ∙ command_cut operation (numbers_text ns ++ (part_text part bytes ++ more)) worded
    ∙ ap (λ (fs : List (List ℕ)). request_in (Some operation) fs) (fields_numbers ns (part_text part bytes ++ more) small)
    ∙ ap (λ (p : Option (List ℕ × List ℕ)). ask operation p) (read_numbers ns k (numbers_of operation) (has_bytes operation) (fields_of (part_text part bytes ++ more)) small e)
