-- What operations and their fields ask for.
use Rattle.std.proofs.Common.{◌≡◌, ◌∙◌, ℕ, suc, ◌+◌, ◌*◌, ◌^◌, ◌<◌, ◌≤◌, ◌==◌, nat_le, Bool, cond, true, false, true≢false, List, [], ◌∷◌, ◌++◌, length, drop, slice_index, Option, Some, None, refl, sym, ap, arith, rules, append_assoc, length-append, inl, inr}
use Rattle.std.proofs.Math.Seq.{drop-append-add}
use Rattle.std.proofs.lemmas.Bool.{cases_lt}
use Rattle.std.proofs.lemmas.Bool.Decides.{nat_tests}
use Rattle.byteorder.specs.Endian.{big_number}
use Rattle.byteorder.specs.Numbers.{big_number-reads_back, length-bytes_high_first}
use Rattle.request_form.specs.declared.operation.Operation.{Operation}
use Rattle.request_form.specs.Operations.{number_of, since_of, numbers_of, has_bytes, has_ranges, IsSince, request_with}
use Rattle.request_form.proofs.Rows.{number_found, since_more}
use Rattle.frame_wire.specs.Requests.{number_at, numbers_in, fits_by, fits, made, request_in, request_of}
use Rattle.frame_wire.specs.Said.{field, wide_field, fields}
use Rattle.frame_wire.specs.Decoded.{IsDecoded}

-- ---- numbers as fields

pub field-length : (n : ℕ) → length (field n) ≡ 8
unfolding field
field-length n = length-bytes_high_first 8 n

pub wide_field-length : (n : ℕ) → length (wide_field n) ≡ 16
unfolding wide_field
wide_field-length n = length-bytes_high_first 16 n

pub field-number : (n : ℕ) (rest : List ℕ) → n < 2 ^ 64 → big_number 8 (field n ++ rest) ≡ n
unfolding field
field-number n rest small = big_number-reads_back 8 n rest small

pub fields-append : (ns ms : List ℕ) → fields (ns ++ ms) ≡ fields ns ++ fields ms
fields-append [] ms = refl
fields-append (n ∷ ns) ms = ap (λ (l : List ℕ). field n ++ l) (fields-append ns ms) ∙ sym (append_assoc (field n) (fields ns) (fields ms))

pub fields-length : (ns : List ℕ) → length (fields ns) ≡ 8 * length ns
fields-length [] = refl
fields-length (n ∷ ns) = let l = length-append (field n) (fields ns) in let e = field-length n in let on = fields-length ns in omega arith

abbrev pub AllSmall : List ℕ → Type 0
AllSmall ns = (i : ℕ) → slice_index ns i < 2 ^ 64

fields-split : (n : ℕ) (ns bytes : List ℕ) → fields (n ∷ ns) ++ bytes ≡ field n ++ (fields ns ++ bytes)
fields-split n ns bytes = append_assoc (field n) (fields ns) bytes

drop_past : (n start : ℕ) (rest : List ℕ) → drop (8 + start) (field n ++ rest) ≡ drop start rest
drop_past n start rest = ap (λ (m : ℕ). drop (m + start) (field n ++ rest)) (sym (field-length n)) ∙ drop-append-add (field n) rest start

-- numbers are read where they stand
pub numbers_back : (ns bytes : List ℕ) → AllSmall ns → numbers_in (length ns) (fields ns ++ bytes) ≡ ns
numbers_back [] bytes small = refl
numbers_back (n ∷ ns) bytes small =
    let rest : List ℕ = fields ns ++ bytes in
    ap (λ (l : List ℕ). number_at 0 l ∷ numbers_in (length ns) (drop 8 l)) (fields-split n ns bytes)
    ∙ ap (λ (m : ℕ). m ∷ numbers_in (length ns) (drop 8 (field n ++ rest))) (field-number n rest (small 0))
    ∙ ap (λ (l : List ℕ). n ∷ numbers_in (length ns) l) (drop_past n 0 rest)
    ∙ ap (λ (l : List ℕ). n ∷ l) (numbers_back ns bytes (λ i. small (suc i)))

-- and behind the numbers are the bytes
pub drop_fields : (start : ℕ) (ns bytes : List ℕ) → start ≡ 8 * length ns → drop start (fields ns ++ bytes) ≡ bytes
drop_fields start [] bytes e = let none : start ≡ 0 = omega arith in rw none refl
drop_fields start (n ∷ ns) bytes e =
    let on : start ≡ 8 + 8 * length ns = omega arith in
    rw (on, fields-split n ns bytes, drop_past n (8 * length ns) (fields ns ++ bytes)) (drop_fields (8 * length ns) ns bytes refl)

-- ---- operations

-- an operation whose fields are cut short, or followed by more bytes, asks for nothing
pub misfit : (operation : Operation) (bytes : List ℕ) → fits operation (length bytes) ≡ false → request_in (Some operation) bytes ≡ None
misfit operation bytes h = ap (λ (b : Bool). cond b (made operation bytes) None) h

-- frames of the version since which an operation is there have it
pub known : (operation : Operation) (version : ℕ) (bytes : List ℕ) → IsSince (since_of operation) version → request_of version (number_of operation ∷ bytes) ≡ request_in (Some operation) bytes
known operation version bytes since = ap (λ (o : Option Operation). request_in o bytes) (number_found operation (number_of operation) version (refl, since))

-- what frames of version 1 have begins no ranges
first_plain : (operation : Operation) → IsSince (since_of operation) 1 → has_ranges operation ≡ false
first_plain operation since = search rules

exactly : (m n : ℕ) → n ≡ m → (n == m) ≡ true
exactly m n e = grind (arith, nat_tests, e)

pub at_least : (m n : ℕ) → m ≤ n → nat_le m n ≡ true
at_least m n h = grind (arith, nat_tests, h)

both_length : (ns bytes : List ℕ) → length (fields ns ++ bytes) ≡ 8 * length ns + length bytes
both_length ns bytes = let l = length-append (fields ns) bytes in let n = fields-length ns in omega arith

none_behind : (ns bytes : List ℕ) → bytes ≡ [] → length (fields ns ++ bytes) ≡ 8 * length ns
none_behind ns bytes e = let l = both_length ns bytes in let none : length bytes ≡ 0 = ap (λ (l : List ℕ). length l) e in omega arith

-- what is made of numbers, and of bytes behind them
pub made_plain : (operation : Operation) (fields : List ℕ) → has_ranges operation ≡ false
    → made operation fields ≡ request_with operation (numbers_in (numbers_of operation) fields) (drop (8 * numbers_of operation) fields)
made_plain operation fields plain = rw plain refl

whole_by : (bytes ranges : Bool) (k n : ℕ) → ranges ≡ false → 8 * k ≤ n → (bytes ≡ false → n ≡ 8 * k) → fits_by bytes ranges k n ≡ true
whole_by true ranges k n plain least exact = at_least (8 * k) n least
whole_by false true k n plain least exact = absurd (true≢false plain)
whole_by false false k n plain least exact = exactly (8 * k) n (exact refl)

-- the fields of whole requests
pub asks : (operation : Operation) (ns bytes : List ℕ) → has_ranges operation ≡ false → length ns ≡ numbers_of operation → (has_bytes operation ≡ false → bytes ≡ []) → AllSmall ns
    → request_in (Some operation) (fields ns ++ bytes) ≡ request_with operation ns bytes
asks operation ns bytes plain count only small =
    let all : List ℕ = fields ns ++ bytes in
    let whole = both_length ns bytes in
    let k = numbers_of operation in
    ap (λ (b : Bool). cond b (made operation all) None)
    (whole_by (has_bytes operation) (has_ranges operation) k (length all) plain (omega (arith, whole, count)) (λ e. none_behind ns bytes (only e) ∙ ap (λ (n : ℕ). 8 * n) count))
    ∙ made_plain operation all plain
    ∙ ap (λ (n : ℕ). request_with operation (numbers_in n all) (drop (8 * n) all)) (sym count)
    ∙ ap (λ (l : List ℕ). request_with operation l (drop (8 * length ns) all)) (numbers_back ns bytes small)
    ∙ ap (λ (l : List ℕ). request_with operation ns l) (drop_fields (8 * length ns) ns bytes refl)

-- ---- what was decoded, once nothing more is to come

pub whole_count : (operation : Operation) (ns part bytes : List ℕ) (left : ℕ) → IsDecoded operation ns part bytes left → left ≡ 0 → length ns ≡ numbers_of operation
whole_count operation ns part bytes left d none = elim (cases_lt (length ns) (numbers_of operation)) [
  | inr done ↦ let fit = d.numbers_fit in omega arith
  | inl fewer ↦
      let no_bytes : length bytes ≡ 0 = ap (λ (l : List ℕ). length l) (d.bytes_wait fewer) in
      let few = d.part_fits in
      let all = d.least in
      absurd (omega arith)
]

-- what is kept is the request's bytes, and asks for it in frames of each version
pub decoded_asks : (operation : Operation) (ns part bytes : List ℕ) (left version : ℕ) → IsDecoded operation ns part bytes left → left ≡ 0 → AllSmall ns → 1 ≤ version
    → request_of version (number_of operation ∷ (fields ns ++ (part ++ bytes))) ≡ request_with operation ns bytes
decoded_asks operation ns part bytes left version d none small later =
    let count : length ns ≡ numbers_of operation = whole_count operation ns part bytes left d none in
    let no_part : part ≡ [] = d.no_part count in
    ap (λ (l : List ℕ). request_of version (number_of operation ∷ (fields ns ++ (l ++ bytes)))) no_part
    ∙ known operation version (fields ns ++ bytes) (since_more (since_of operation) 1 version d.since later)
    ∙ asks operation ns bytes (first_plain operation d.since) count (λ h. empty bytes (let all = d.exact h in let parts : length part ≡ 0 = ap (λ (l : List ℕ). length l) no_part in omega arith)) small
  where
    empty : (l : List ℕ) → length l ≡ 0 → l ≡ []
    empty [] h = refl
    empty (b ∷ bs) h = absurd (omega arith)
