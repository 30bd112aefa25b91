-- Pairs of hex digits behind what has come of a line.
use Rattle.std.proofs.Common.{◌≡◌, ◌∙◌, ℕ, suc, ◌+◌, ◌*◌, ◌%◌, ◌/◌, ◌<◌, ◌≤◌, ◌&&◌, not, Bool, true, false, List, [], ◌∷◌, ◌++◌, length, take, get_or, unwrap_or, Option, Some, None, is_some, Result, Ok, refl, sym, ap, subst, arith, append_assoc, append-nil}
use Rattle.std.specs.Bool.{MatchBool, OnTrue}
use Rattle.std.specs.List.{AllPass}
use Rattle.std.specs.Result.{result_ok}
use Rattle.std.proofs.lemmas.Bool.Decides.{nat_tests}
use Rattle.std.proofs.lemmas.List.{take_all}
use Rattle.std.proofs.lemmas.List.Elements.{All-head, All-tail, All-more}
use Rattle.hex.specs.Hex.{hex_digit_value, is_hex_digit, pair_value, IsBytes}
use Rattle.hex.proofs.HexLemmas.{decode_of-ok}
use Rattle.request_form.specs.declared.operation.Operation.{Operation}
use Rattle.script_text.specs.Requests.{request_of}
use Rattle.script_text.specs.Lines.{fields_of}
use Rattle.script_text.specs.Decoded.{AsksAs, fields_text, IsDecoded, Decodes, TakesRun}
use Rattle.script_text.specs.declared.fields.Part.{Part}
use Rattle.script_text.specs.declared.fields.Part.TheVariants.{Digits}
use Rattle.script_text.proofs.BytesLemmas.{with_byte, pairs, decode_of-is}
use Rattle.script_text.proofs.DecodedLemmas.{pair_begins, pair_comes}

-- more of a text behind what stands for its beginning
pub asks_after : (text front mid back new : List ℕ) → AsksAs (text ++ front) mid → AsksAs (mid ++ back) new → AsksAs (text ++ (front ++ back)) new
asks_after text front mid back new first second more =
    ap (λ (l : List ℕ). request_of (fields_of l)) (append_assoc text (front ++ back) more)
    ∙ ap (λ (l : List ℕ). request_of (fields_of (text ++ l))) (append_assoc front back more)
    ∙ ap (λ (l : List ℕ). request_of (fields_of l)) (sym (append_assoc text front (back ++ more)))
    ∙ first (back ++ more)
    ∙ ap (λ (l : List ℕ). request_of (fields_of l)) (sym (append_assoc mid back more))
    ∙ second more

asks_same : (text : List ℕ) → AsksAs (text ++ []) text
asks_same text more = ap (λ (l : List ℕ). request_of (fields_of (l ++ more))) (append-nil text)

-- both a byte and the bytes behind it
record Split (first : Option ℕ) (others : Option (List ℕ)) (all : List ℕ) : Type 0 where
  byte : ℕ
  bytes : List ℕ
  byte_is : first ≡ Some byte
  bytes_are : others ≡ Some bytes
  whole : byte ∷ bytes ≡ all

split : (first : Option ℕ) (others : Option (List ℕ)) (all : List ℕ) → with_byte first others ≡ Some all → Split first others all
split (Some b) (Some bs) all h = record { byte = b; bytes = bs; byte_is = refl; bytes_are = refl; whole = ap (λ (o : Option (List ℕ)). unwrap_or o []) h }
split (Some b) None all h = absurd (cc)
split None others all h = absurd (cc)

-- the text that all digits of some bytes are
abbrev text : Operation → List ℕ → List ℕ → List ℕ
text operation ns bytes = fields_text operation ns (Digits None) bytes

-- the digits have come
record Come (operation : Operation) (ns bytes digits bytes' : List ℕ) : Type 0 where
  asks : AsksAs (text operation ns bytes ++ digits) (text operation ns bytes')
  decoded : IsDecoded operation ns (Digits None) bytes'
  longer : length (text operation ns bytes') ≡ length (text operation ns bytes) + length digits

none_come : (operation : Operation) (ns bytes more : List ℕ) → IsDecoded operation ns (Digits None) bytes → [] ≡ more → Come operation ns bytes [] (bytes ++ more)
none_come operation ns bytes more d e =
    let same : bytes ≡ bytes ++ more = sym (append-nil bytes) ∙ ap (λ (l : List ℕ). bytes ++ l) e in
    subst (λ (l : List ℕ). Come operation ns bytes [] l) same (record { asks = asks_same (text operation ns bytes); decoded = d; longer = omega arith })

pairs_come : (operation : Operation) (ns bytes digits more : List ℕ) → IsDecoded operation ns (Digits None) bytes → AllPass is_hex_digit digits → IsBytes more → pairs digits ≡ Some more
    → Come operation ns bytes digits (bytes ++ more)
pairs_come operation ns bytes [] more d all fit h = none_come operation ns bytes more d (ap (λ (o : Option (List ℕ)). unwrap_or o []) h)
pairs_come operation ns bytes (digit ∷ []) more d all fit h = absurd (cc)
pairs_come operation ns bytes (high ∷ low ∷ rest) more d all fit h =
    let s = split (result_ok (pair_value high low 0)) (pairs rest) more h in
    let fit_all : IsBytes (s.byte ∷ s.bytes) = subst IsBytes (sym s.whole) fit in
    let first = pair_begins operation ns bytes high d (All-head (λ c. is_hex_digit c ≡ true) high (low ∷ rest) all) in
    let second = pair_comes operation ns bytes high low s.byte first.1 (fit_all 0) s.byte_is in
    let tail = All-tail (λ c. is_hex_digit c ≡ true) low rest (All-tail (λ c. is_hex_digit c ≡ true) high (low ∷ rest) all) in
    let behind = pairs_come operation ns (bytes ++ s.byte ∷ []) rest s.bytes second.1 tail (λ i. fit_all (suc i)) s.bytes_are in
    let same : (bytes ++ s.byte ∷ []) ++ s.bytes ≡ bytes ++ more = append_assoc bytes (s.byte ∷ []) s.bytes ∙ ap (λ (l : List ℕ). bytes ++ l) s.whole in
    let a = first.2 in
    let b = second.2 in
    let c = behind.longer in
    subst (λ (l : List ℕ). Come operation ns bytes (high ∷ low ∷ rest) l) same
    (record {
      asks = asks_after (text operation ns bytes) (high ∷ []) (fields_text operation ns (Digits (Some high)) bytes) (low ∷ rest) (text operation ns ((bytes ++ s.byte ∷ []) ++ s.bytes)) first.0
          (asks_after (fields_text operation ns (Digits (Some high)) bytes) (low ∷ []) (text operation ns (bytes ++ s.byte ∷ [])) rest (text operation ns ((bytes ++ s.byte ∷ []) ++ s.bytes)) second.0 behind.asks);
      decoded = behind.decoded;
      longer = omega arith;
    })

come : (operation : Operation) (ns bytes digits bytes' : List ℕ) → IsDecoded operation ns (Digits None) bytes → Decodes bytes digits bytes' → Come operation ns bytes digits bytes'
come operation ns bytes digits bytes' d h =
    let ok = decode_of-ok digits h.spelled h.spells in
    let is : pairs digits ≡ Some h.spelled = sym (decode_of-is digits) ∙ ap (λ (r : Result (List ℕ) _). result_ok r) h.spells in
    subst (λ (l : List ℕ). Come operation ns bytes digits l) (sym h.behind) (pairs_come operation ns bytes digits h.spelled d ok.1 ok.3 is)

-- what is decoded then
pub pairs_decoded : (operation : Operation) (ns : List ℕ) (part : Part) (bytes digits bytes' : List ℕ) → part ≡ Digits None → IsDecoded operation ns part bytes → Decodes bytes digits bytes'
    → IsDecoded operation ns part bytes'
pairs_decoded operation ns part bytes digits bytes' e d h =
    let is = subst (λ (p : Part). IsDecoded operation ns p bytes) e d in
    subst (λ (p : Part). IsDecoded operation ns p bytes') (sym e) (come operation ns bytes digits bytes' is h).decoded

-- pairs are taken off the front of a piece
pub pairs_taken : (operation : Operation) (ns : List ℕ) (part : Part) (bytes digits bytes' piece : List ℕ) (count : ℕ) → part ≡ Digits None → IsDecoded operation ns part bytes → Decodes bytes digits bytes'
    → digits ≡ take count piece → count ≡ length digits → count ≤ length piece → TakesRun (fields_text operation ns part bytes) piece (fields_text operation ns part bytes') count
pairs_taken operation ns part bytes digits bytes' piece count e d h front all within =
    let is = subst (λ (p : Part). IsDecoded operation ns p bytes) e d in
    let c = come operation ns bytes digits bytes' is h in
    subst (λ (p : Part). TakesRun (fields_text operation ns p bytes) piece (fields_text operation ns p bytes') count) (sym e)
    (record {
      within = within;
      asks = subst (λ (l : List ℕ). AsksAs (text operation ns bytes ++ l) (text operation ns bytes')) front c.asks;
      longer = c.longer ∙ ap (λ (n : ℕ). length (text operation ns bytes) + n) (sym all);
    })

-- or none are
pub none_taken : (line piece line' : List ℕ) → line' ≡ line → TakesRun line piece line' 0
none_taken line piece line' e =
    subst (λ (l : List ℕ). TakesRun line piece l 0) (sym e)
    (record { within = omega arith; asks = asks_same line; longer = omega arith })

-- ---- digits that decode

value_is : (c v : ℕ) → hex_digit_value c ≡ Some v → v ≡ c % 16 + c / 64 * 9
value_is c v h = grind (arith, nat_tests)

counts_by : (c : ℕ) (o : Option ℕ) → hex_digit_value c ≡ o → is_some o ≡ true → hex_digit_value c ≡ Some (c % 16 + c / 64 * 9)
counts_by c (Some v) e h = e ∙ ap (λ (x : ℕ). Some x) (value_is c v e)
counts_by c None e h = absurd (cc)

-- what a digit counts
pub digit_counts : (c : ℕ) → is_hex_digit c ≡ true → hex_digit_value c ≡ Some (c % 16 + c / 64 * 9)
digit_counts c h = counts_by c (hex_digit_value c) refl h

-- and is less than 16
pub digit_few : (c v : ℕ) → hex_digit_value c ≡ Some v → v < 16
digit_few c v h = grind arith

-- two digits spell a byte
pub digits_pair : (high low h l index : ℕ) → hex_digit_value high ≡ Some h → hex_digit_value low ≡ Some l → pair_value high low index ≡ Ok (h * 16 + l)
digits_pair high low h l index a b = rw (a, b) refl

-- of one byte more, all are digits
pub digits_more : (digits other : Bool) (bytes : List ℕ) (i : ℕ) → i < length bytes → MatchBool other (is_hex_digit (get_or bytes i 0) ≡ false) (is_hex_digit (get_or bytes i 0) ≡ true)
    → OnTrue digits (AllPass is_hex_digit (take i bytes)) → OnTrue (digits && not other) (AllPass is_hex_digit (take (i + 1) bytes))
digits_more false other bytes i lt is before = tt
digits_more true true bytes i lt is before = tt
digits_more true false bytes i lt is before = All-more (λ c. is_hex_digit c ≡ true) bytes i 0 lt before is

-- all were looked at
pub digits_all : (digits : Bool) (bytes : List ℕ) (i : ℕ) → length bytes ≤ i → OnTrue digits (AllPass is_hex_digit (take i bytes)) → OnTrue digits (AllPass is_hex_digit bytes)
digits_all digits bytes i le h = subst (λ (l : List ℕ). OnTrue digits (AllPass is_hex_digit l)) (take_all i bytes le) h
