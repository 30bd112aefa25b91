-- What hex digits spell, pair by pair.
use Rattle.std.proofs.Common.{◌≡◌, ◌≢◌, ◌∙◌, ℕ, suc, ◌+◌, ◌*◌, ◌/◌, ◌%◌, ◌<◌, ◌==◌, Bool, cond, true, false, List, [], ◌∷◌, ◌++◌, length, slice_index, Option, Some, None, is_some, Result, Ok, Err, MatchResult, refl, sym, ap, subst, arith, append_assoc, append-nil}
use Rattle.std.specs.Result.{result_ok}
use Rattle.std.proofs.lemmas.Bool.{eqb-true, ne_eqb}
use Rattle.std.proofs.lemmas.Bool.Decides.{nat_tests}
use Rattle.hex.specs.Hex.{lower_digits, encode_with, encode_lower, hex_digit_value, is_hex_digit, digit_or_error, value_at, ◌>>=◌, pair_value, decode_pairs, decode_of, decode_sized, IsBytes}
use Rattle.hex.specs.declared.error.FromHexError.{FromHexError}
use Rattle.hex.specs.declared.error.FromHexError.TheVariants.{OddLength}
use Rattle.hex.proofs.HexLemmas.{IsDigits-lower_digits}
use Rattle.script_text.specs.Fields.{bytes_of}

-- a byte in front of bytes, where there are both
abbrev pub with_byte : Option ℕ → Option (List ℕ) → Option (List ℕ)
with_byte (Some b) (Some bs) = Some (b ∷ bs)
with_byte (Some b) None = None
with_byte None o = None

with_byte-none : (o : Option ℕ) → with_byte o None ≡ None
with_byte-none (Some b) = refl
with_byte-none None = refl

-- the bytes of pairs of digits
abbrev pub pairs : List ℕ → Option (List ℕ)
pairs [] = Some []
pairs (digit ∷ []) = None
pairs (high ∷ low ∷ rest) = with_byte (result_ok (pair_value high low 0)) (pairs rest)

pair_by : (a b i : ℕ) (oa ob : Option ℕ) → result_ok (digit_or_error a i oa >>= (λ h. digit_or_error b (i + 1) ob >>= (λ l. Ok (h * 16 + l))))
    ≡ result_ok (digit_or_error a 0 oa >>= (λ h. digit_or_error b 1 ob >>= (λ l. Ok (h * 16 + l))))
pair_by a b i (Some x) (Some y) = refl
pair_by a b i (Some x) None = refl
pair_by a b i None ob = refl

-- a pair spells the same wherever it stands
pair_value-index : (a b i : ℕ) → result_ok (pair_value a b i) ≡ result_ok (pair_value a b 0)
pair_value-index a b i = pair_by a b i (hex_digit_value a) (hex_digit_value b)

bind_pairs : (r : Result ℕ FromHexError) (q : Result (List ℕ) FromHexError) → result_ok (r >>= (λ byte. q >>= (λ bytes. Ok (byte ∷ bytes)))) ≡ with_byte (result_ok r) (result_ok q)
bind_pairs (Ok b) (Ok bs) = refl
bind_pairs (Ok b) (Err e) = refl
bind_pairs (Err e) q = refl

decode_pairs-is : (i : ℕ) (s : List ℕ) → result_ok (decode_pairs i s) ≡ pairs s
unfolding decode_pairs
decode_pairs-is i [] = refl
decode_pairs-is i (digit ∷ []) = refl
decode_pairs-is i (high ∷ low ∷ rest) =
    bind_pairs (pair_value high low i) (decode_pairs (i + 2) rest)
    ∙ ap (λ (o : Option ℕ). with_byte o (result_ok (decode_pairs (i + 2) rest))) (pair_value-index high low i)
    ∙ ap (λ (o : Option (List ℕ)). with_byte (result_ok (pair_value high low 0)) o) (decode_pairs-is (i + 2) rest)

pairs-odd : (s : List ℕ) → length s % 2 ≡ 1 → pairs s ≡ None
pairs-odd [] h = absurd (omega arith)
pairs-odd (digit ∷ []) h = refl
pairs-odd (high ∷ low ∷ rest) h =
    ap (λ (o : Option (List ℕ)). with_byte (result_ok (pair_value high low 0)) o) (pairs-odd rest (omega arith)) ∙ with_byte-none (result_ok (pair_value high low 0))

pub decode_of-is : (s : List ℕ) → result_ok (decode_of s) ≡ pairs s
decode_of-is s = go (length s % 2 == 1) refl
  where
    go : (b : Bool) → (length s % 2 == 1) ≡ b → result_ok (cond b (Err OddLength) (decode_pairs 0 s)) ≡ pairs s
    go true e = sym (pairs-odd s (eqb-true (length s % 2) 1 e))
    go false e = decode_pairs-is 0 s

some_length : (c : ℕ) (cs : List ℕ) → (length (c ∷ cs) == 0) ≡ false
some_length c cs = grind (arith, nat_tests)

-- a field that doesn't begin with `-` spells bytes by its pairs
bytes_of-pairs : (c : ℕ) (cs : List ℕ) → c ≢ 45 → bytes_of (c ∷ cs) ≡ pairs (c ∷ cs)
bytes_of-pairs c cs h = rw (ne_eqb c 45 h, some_length c cs) (decode_of-is (c ∷ cs))

-- and one that does is nothing else
pub dash_more : (b : ℕ) (cs : List ℕ) → bytes_of (45 ∷ b ∷ cs) ≡ None
dash_more b cs = rw (some_length 45 (b ∷ cs)) (decode_of-is (45 ∷ b ∷ cs))

no_value : (o : Option ℕ) → is_some o ≡ false → o ≡ None
no_value (Some v) h = absurd (cc)
no_value None h = refl

pairs-no_digit : (b : ℕ) (cs : List ℕ) → hex_digit_value b ≡ None → pairs (b ∷ cs) ≡ None
pairs-no_digit b [] h = refl
pairs-no_digit b (c ∷ cs) h =
    ap (λ (o : Option ℕ). with_byte (result_ok (digit_or_error b 0 o >>= (λ v. value_at c 1 >>= (λ l. Ok (v * 16 + l))))) (pairs cs)) h

-- bytes in front of bytes
abbrev onto_bytes : List ℕ → Option (List ℕ) → Option (List ℕ)
onto_bytes bs (Some cs) = Some (bs ++ cs)
onto_bytes bs None = None

onto_none : (o : Option (List ℕ)) → o ≡ onto_bytes [] o
onto_none (Some cs) = refl
onto_none None = refl

onto_more : (b : ℕ) (bs : List ℕ) (o : Option (List ℕ)) → with_byte (Some b) (onto_bytes bs o) ≡ onto_bytes (b ∷ bs) o
onto_more b bs (Some cs) = refl
onto_more b bs None = refl

onto_last : (bs : List ℕ) (b : ℕ) (o : Option (List ℕ)) → onto_bytes bs (with_byte (Some b) o) ≡ onto_bytes (bs ++ b ∷ []) o
onto_last bs b (Some cs) = ap (λ (l : List ℕ). Some l) (sym (append_assoc bs (b ∷ []) cs))
onto_last bs b None = refl

-- the two digits of a byte spell it
pair_glyphs : (b : ℕ) → b < 256 → result_ok (pair_value (slice_index lower_digits (b / 16)) (slice_index lower_digits (b % 16)) 0) ≡ Some b
pair_glyphs b h =
    let x : ℕ = slice_index lower_digits (b / 16) in
    let y : ℕ = slice_index lower_digits (b % 16) in
    let whole : b / 16 * 16 + b % 16 ≡ b = omega arith in
    ap (λ (o : Option ℕ). result_ok (digit_or_error x 0 o >>= (λ v. value_at y 1 >>= (λ l. Ok (v * 16 + l))))) (IsDigits-lower_digits (b / 16) (omega arith))
    ∙ ap (λ (o : Option ℕ). result_ok (digit_or_error y 1 o >>= (λ l. Ok (b / 16 * 16 + l)))) (IsDigits-lower_digits (b % 16) (omega arith))
    ∙ ap (λ (n : ℕ). Some n) whole

pairs-encoded : (bs rest : List ℕ) → IsBytes bs → pairs (encode_lower bs ++ rest) ≡ onto_bytes bs (pairs rest)
unfolding encode_with
pairs-encoded [] rest h = onto_none (pairs rest)
pairs-encoded (b ∷ bs) rest h =
    ap (λ (o : Option ℕ). with_byte o (pairs (encode_lower bs ++ rest))) (pair_glyphs b (h 0))
    ∙ ap (λ (o : Option (List ℕ)). with_byte (Some b) o) (pairs-encoded bs rest (λ i. h (suc i)))
    ∙ onto_more b bs (pairs rest)

digit_no_dash : (c v : ℕ) → hex_digit_value c ≡ Some v → c ≢ 45
digit_no_dash c v h e = absurd (none_some (sym (ap (λ (n : ℕ). hex_digit_value n) e) ∙ h))
  where
    none_some : None ≡ Some v → ⊥
    none_some k = cc

bytes_of-behind : (b : ℕ) (bs rest : List ℕ) → IsBytes (b ∷ bs) → bytes_of (encode_lower (b ∷ bs) ++ rest) ≡ onto_bytes (b ∷ bs) (pairs rest)
unfolding encode_with
bytes_of-behind b bs rest h =
    let fits : b < 256 = h 0 in
    bytes_of-pairs (slice_index lower_digits (b / 16)) (slice_index lower_digits (b % 16) ∷ (encode_lower bs ++ rest)) (digit_no_dash _ (b / 16) (IsDigits-lower_digits (b / 16) (omega arith)))
    ∙ pairs-encoded (b ∷ bs) rest h

bytes_of-from : (bs : List ℕ) (c : ℕ) (rest : List ℕ) → IsBytes bs → c ≢ 45 → bytes_of (encode_lower bs ++ c ∷ rest) ≡ onto_bytes bs (pairs (c ∷ rest))
unfolding encode_with
bytes_of-from [] c rest h other = bytes_of-pairs c rest other ∙ onto_none (pairs (c ∷ rest))
bytes_of-from (b ∷ bs) c rest h other = bytes_of-behind b bs (c ∷ rest) h

-- what is no digit behind pairs, or behind one digit more
pub no_digit : (bs : List ℕ) (b : ℕ) (cs : List ℕ) → IsBytes bs → is_hex_digit b ≡ false → (bs ≡ [] → b ≢ 45) → bytes_of (encode_lower bs ++ b ∷ cs) ≡ None
unfolding encode_with
no_digit [] b cs h bad other = bytes_of-pairs b cs (other refl) ∙ pairs-no_digit b cs (no_value (hex_digit_value b) bad)
no_digit (x ∷ bs) b cs h bad other =
    bytes_of-behind x bs (b ∷ cs) h ∙ ap (λ (o : Option (List ℕ)). onto_bytes (x ∷ bs) o) (pairs-no_digit b cs (no_value (hex_digit_value b) bad))

some_value : (c : ℕ) (o : Option ℕ) → hex_digit_value c ≡ o → is_some o ≡ true → c ≢ 45
some_value c (Some v) e h = digit_no_dash c v e
some_value c None e h = absurd (cc)

pub digit_is_no_dash : (c : ℕ) → is_hex_digit c ≡ true → c ≢ 45
digit_is_no_dash c h = some_value c (hex_digit_value c) refl h

pub no_second : (bs : List ℕ) (high b : ℕ) (cs : List ℕ) → IsBytes bs → is_hex_digit high ≡ true → result_ok (pair_value high b 0) ≡ None → bytes_of (encode_lower bs ++ high ∷ b ∷ cs) ≡ None
no_second bs high b cs h digit bad =
    bytes_of-from bs high (b ∷ cs) h (digit_is_no_dash high digit)
    ∙ ap (λ (o : Option ℕ). onto_bytes bs (with_byte o (pairs cs))) bad

-- a whole pair stands for its byte
pub pair_stands : (bs : List ℕ) (high low v : ℕ) (cs : List ℕ) → IsBytes bs → v < 256 → is_hex_digit high ≡ true → result_ok (pair_value high low 0) ≡ Some v → IsBytes (bs ++ v ∷ [])
    → bytes_of (encode_lower bs ++ high ∷ low ∷ cs) ≡ bytes_of (encode_lower (bs ++ v ∷ []) ++ cs)
pair_stands bs high low v cs h fits digit is all =
    bytes_of-from bs high (low ∷ cs) h (digit_is_no_dash high digit)
    ∙ ap (λ (o : Option ℕ). onto_bytes bs (with_byte o (pairs cs))) is
    ∙ onto_last bs v (pairs cs)
    ∙ sym (behind bs all)
  where
    behind : (xs : List ℕ) → IsBytes (xs ++ v ∷ []) → bytes_of (encode_lower (xs ++ v ∷ []) ++ cs) ≡ onto_bytes (xs ++ v ∷ []) (pairs cs)
    behind [] k = bytes_of-behind v [] cs k
    behind (x ∷ xs) k = bytes_of-behind x (xs ++ v ∷ []) cs k

-- all digits have come
pub whole_pairs : (b : ℕ) (bs : List ℕ) → IsBytes (b ∷ bs) → bytes_of (encode_lower (b ∷ bs) ++ []) ≡ Some (b ∷ bs)
whole_pairs b bs h = bytes_of-behind b bs [] h ∙ ap (λ (l : List ℕ). Some l) (append-nil (b ∷ bs))

pub odd_pairs : (bs : List ℕ) (high : ℕ) → IsBytes bs → is_hex_digit high ≡ true → bytes_of (encode_lower bs ++ high ∷ []) ≡ None
odd_pairs bs high h digit = bytes_of-from bs high [] h (digit_is_no_dash high digit)

-- ---- what std's call decoded

-- what decoding two digits into one byte answered
abbrev Decoded : Result (Unit {0}) FromHexError → List ℕ → List ℕ → ℕ → Type 0
Decoded r digits out size = MatchResult (decode_sized digits size) (λ bytes. (r ≡ Ok tt) × (out ≡ bytes)) (λ e. r ≡ Err e)

sized_is : (high low : ℕ) → decode_sized (high ∷ low ∷ []) 1 ≡ (pair_value high low 0 >>= (λ byte. Ok (byte ∷ [])))
unfolding decode_pairs
sized_is high low = refl

pub pair_decoded : (high low : ℕ) (r : Result (Unit {0}) FromHexError) (digits room out : List ℕ) (u : Unit {0}) → digits ≡ high ∷ low ∷ [] → room ≡ 0 ∷ [] → r ≡ Ok u
    → MatchResult (decode_sized digits (length room)) (λ bytes. (r ≡ Ok tt) × (out ≡ bytes)) (λ e. r ≡ Err e) → Some (slice_index out 0) ≡ result_ok (pair_value high low 0)
pair_decoded high low r digits room out u d m ok h =
    let one : length room ≡ 1 = ap (λ (l : List ℕ). length l) m in
    let is = subst (λ (n : ℕ). Decoded r digits out n) one h in
    let two = subst (λ (l : List ℕ). Decoded r l out 1) d is in
    let P : Result (List ℕ) FromHexError → Type 0 = λ q. MatchResult q (λ bytes. (r ≡ Ok tt) × (out ≡ bytes)) (λ e. r ≡ Err e) in
    go (pair_value high low 0) (subst P (sized_is high low) two)
  where
    go : (q : Result ℕ FromHexError) → MatchResult (q >>= (λ byte. Ok (byte ∷ []))) (λ bytes. (r ≡ Ok tt) × (out ≡ bytes)) (λ e. r ≡ Err e) → Some (slice_index out 0) ≡ result_ok q
    go (Ok v) k = ap (λ (l : List ℕ). Some (slice_index l 0)) k.1
    go (Err e) k = absurd (cc)

pub pair_refused : (high low : ℕ) (r : Result (Unit {0}) FromHexError) (digits room out : List ℕ) (x : FromHexError) → digits ≡ high ∷ low ∷ [] → room ≡ 0 ∷ [] → r ≡ Err x
    → MatchResult (decode_sized digits (length room)) (λ bytes. (r ≡ Ok tt) × (out ≡ bytes)) (λ e. r ≡ Err e) → None ≡ result_ok (pair_value high low 0)
pair_refused high low r digits room out x d m err h =
    let one : length room ≡ 1 = ap (λ (l : List ℕ). length l) m in
    let is = subst (λ (n : ℕ). Decoded r digits out n) one h in
    let two = subst (λ (l : List ℕ). Decoded r l out 1) d is in
    let P : Result (List ℕ) FromHexError → Type 0 = λ q. MatchResult q (λ bytes. (r ≡ Ok tt) × (out ≡ bytes)) (λ e. r ≡ Err e) in
    go (pair_value high low 0) (subst P (sized_is high low) two)
  where
    go : (q : Result ℕ FromHexError) → MatchResult (q >>= (λ byte. Ok (byte ∷ []))) (λ bytes. (r ≡ Ok tt) × (out ≡ bytes)) (λ e. r ≡ Err e) → None ≡ result_ok q
    go (Ok v) k = absurd (cc)
    go (Err e) k = refl
