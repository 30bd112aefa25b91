-- One more byte behind what has come of a line.
use Rattle.std.proofs.Common.{◌≡◌, ◌≢◌, ◌∙◌, ◌⊎◌, inl, inr, ℕ, zero, suc, ◌+◌, ◌-◌, ◌*◌, ◌/◌, ◌%◌, ◌^◌, ◌<◌, ◌==◌, Bool, true, false, List, [], ◌∷◌, ◌++◌, length, slice_index, Option, Some, None, is_some, refl, sym, ap, subst, arith, append_assoc, append-nil, length-append, Ok}
use Rattle.std.specs.Fmt.{decimal}
use Rattle.std.specs.List.{All}
use Rattle.std.specs.Result.{result_ok}
use Rattle.std.proofs.lemmas.Bool.{ne_eqb, eqb-true, true≢false}
use Rattle.std.proofs.lemmas.List.Elements.{All-nil, All-cons, All-head, All-tail, All-append, All-push, All-weaker}
use Rattle.std.proofs.lemmas.Bool.Decides.{nat_tests}
use Rattle.hex.specs.Hex.{encode_with, lower_digits, encode_lower, hex_digit_value, is_hex_digit, digit_or_error, ◌>>=◌, pair_value, IsBytes}
use Rattle.script_text.proofs.NumberLemmas.{number_of-decimal}
use Rattle.hex.proofs.HexLemmas.{length-encode_with, IsDigits-lower_digits}
use Rattle.request_form.specs.declared.form.Request.{Request}
use Rattle.request_form.specs.declared.operation.Operation.{Operation}
use Rattle.request_form.specs.Operations.{numbers_of, has_bytes, HasWord, request_with}
use Rattle.script_text.specs.Fields.{number_of, bytes_of}
use Rattle.script_text.specs.Requests.{with_number, read_last, read, ask, request_of}
use Rattle.script_text.specs.Lines.{fields_of}
use Rattle.script_text.specs.Begun.{IsWithout, IsLetter, IsPlain}
use Rattle.script_text.specs.Decoded.{command_of, AsksAs, AsksNothing, SpellsNoNumber, numbers_text, digits_of, part_text, fields_text, IsPart, IsDecoded, IsFieldBehind, BeginsPair, EndsNumber, Adds}
use Rattle.script_text.specs.declared.fields.Part.{Part}
use Rattle.script_text.specs.declared.fields.Part.TheVariants.{Number, Dash, Digits}
use Rattle.items.proofs.LinesHeard.{HasFirst, slice_split_has, split_behind}
use Rattle.script_text.proofs.BytesLemmas.{dash_more, no_digit, no_second, pair_stands, whole_pairs, odd_pairs}
use Rattle.script_text.proofs.FieldLemmas.{fields_of-cut, fields_of-one, IsSolid, solid_without, decimal_solid, command_letters, letters_solid, with_number-none, with_numbers, with_numbers-none, with_numbers-some, AllSmall, text_splits, command_cut, asks}

-- ---- no request

-- fields that are read as nothing make no request
asks_nothing : (operation : Operation) (ns : List ℕ) (part : Part) (bytes : List ℕ) (byte k : ℕ) → HasWord operation (command_of operation) → AllSmall ns → length ns + k ≡ numbers_of operation
    → ((more : List ℕ) → read k (has_bytes operation) (fields_of (part_text part bytes ++ byte ∷ more)) ≡ None) → AsksNothing (fields_text operation ns part bytes ++ byte ∷ [])
asks_nothing operation ns part bytes byte k worded small e none more =
    ap (λ (l : List ℕ). request_of (fields_of l)) (append_assoc (fields_text operation ns part bytes) (byte ∷ []) more)
    ∙ asks operation ns part bytes (byte ∷ more) k worded small e
    ∙ ap (λ (p : Option (List ℕ × List ℕ)). ask operation (with_numbers ns p)) (none more)
    ∙ ap (λ (p : Option (List ℕ × List ℕ)). ask operation p) (with_numbers-none ns)

two_fields : (field text : List ℕ) → read_last true (field ∷ fields_of text) ≡ None
two_fields field text = let first = slice_split_has 32 text in ap (λ (fs : List (List ℕ)). read_last true (field ∷ fs)) first.is

last_none : (field : List ℕ) (fs : List (List ℕ)) → bytes_of field ≡ None → read_last true (field ∷ fs) ≡ None
last_none field [] e = rw e refl
last_none field (f ∷ fs) e = refl

-- a byte that no bytes may have, or a space behind them
dead_last : (text : List ℕ) (byte : ℕ) → IsWithout 32 text → ((field : List ℕ) → byte ≢ 32 → bytes_of (text ++ byte ∷ field) ≡ None) → (more : List ℕ) → read 0 true (fields_of (text ++ byte ∷ more)) ≡ None
dead_last text byte without none more = go (byte == 32) refl
  where
    go : (b : Bool) → (byte == 32) ≡ b → read 0 true (fields_of (text ++ byte ∷ more)) ≡ None
    go true e =
        let is : byte ≡ 32 = eqb-true byte 32 e in
        ap (λ (b : ℕ). read 0 true (fields_of (text ++ b ∷ more))) is
        ∙ ap (λ (fs : List (List ℕ)). read_last true fs) (fields_of-cut text more without)
        ∙ two_fields text more
    go false e =
        let first = slice_split_has 32 more in
        let other : byte ≢ 32 = λ is. true≢false (sym (ap (λ (b : ℕ). b == 32) is) ∙ e) in
        let joined : IsWithout 32 (text ++ byte ∷ []) = All-push (λ b. (b == 32) ≡ false) text byte without e in
        ap (λ (l : List ℕ). read_last true (fields_of l)) (sym (append_assoc text (byte ∷ []) more))
        ∙ ap (λ (fs : List (List ℕ)). read_last true fs) (split_behind 32 (text ++ byte ∷ []) more first joined)
        ∙ last_none ((text ++ byte ∷ []) ++ first.first) first.others (ap (λ (l : List ℕ). bytes_of l) (append_assoc text (byte ∷ []) first.first) ∙ none first.first other)

read_some : (k : ℕ) (bytes : Bool) (field : List ℕ) (fs : List (List ℕ)) → 0 < k → number_of field ≡ None → read k bytes (field ∷ fs) ≡ None
read_some zero bytes field fs h e = absurd (omega arith)
read_some (suc k) bytes field fs h e = rw e refl

-- a byte that makes no number
dead_number : (digits : List ℕ) (byte k : ℕ) (bytes : Bool) → 0 < k → IsWithout 32 digits → byte ≢ 32 → SpellsNoNumber (digits ++ byte ∷ []) → (more : List ℕ) → read k bytes (fields_of (digits ++ byte ∷ more)) ≡ None
dead_number digits byte k bytes some_more without other none more =
    let first = slice_split_has 32 more in
    let joined : IsWithout 32 (digits ++ byte ∷ []) = All-push (λ b. (b == 32) ≡ false) digits byte without (ne_eqb byte 32 other) in
    ap (λ (l : List ℕ). read k bytes (fields_of l)) (sym (append_assoc digits (byte ∷ []) more))
    ∙ ap (λ (fs : List (List ℕ)). read k bytes fs) (split_behind 32 (digits ++ byte ∷ []) more first joined)
    ∙ read_some k bytes ((digits ++ byte ∷ []) ++ first.first) first.others some_more (none first.first)

number_without : (operation : Operation) (ns : List ℕ) (n : Option ℕ) (bytes : List ℕ) → IsPart operation ns (Number n) bytes → IsWithout 32 (digits_of n)
number_without operation ns None bytes h = All-nil (λ b. (b == 32) ≡ false)
number_without operation ns (Some n) bytes h = solid_without (decimal n) (decimal_solid n h.1)

to_come : (ns : List ℕ) (total : ℕ) → length ns < total → (length ns + (total - length ns) ≡ total) × (0 < total - length ns)
to_come ns total h = (omega arith, omega arith)

pub number_stops : (operation : Operation) (ns : List ℕ) (n : Option ℕ) (bytes : List ℕ) (byte : ℕ) → IsDecoded operation ns (Number n) bytes → byte ≢ 32 → SpellsNoNumber (digits_of n ++ byte ∷ [])
    → AsksNothing (fields_text operation ns (Number n) bytes ++ byte ∷ [])
number_stops operation ns n bytes byte d other none =
    let left = to_come ns (numbers_of operation) d.part_fits.0 in
    asks_nothing operation ns (Number n) bytes byte (numbers_of operation - length ns) d.worded d.numbers_fit left.0
    (dead_number (digits_of n) byte (numbers_of operation - length ns) (has_bytes operation) left.1 (number_without operation ns n bytes d.part_fits) other none)

-- no number stands before the space
pub number_missing : (operation : Operation) (ns bytes : List ℕ) → IsDecoded operation ns (Number None) bytes → AsksNothing (fields_text operation ns (Number None) bytes ++ 32 ∷ [])
number_missing operation ns bytes d =
    let left = to_come ns (numbers_of operation) d.part_fits.0 in
    asks_nothing operation ns (Number None) bytes 32 (numbers_of operation - length ns) d.worded d.numbers_fit left.0
    (λ more. read_some (numbers_of operation - length ns) (has_bytes operation) [] (fields_of more) left.1 refl)

read_one_more : (bytes : Bool) (o : Option ℕ) (field : List ℕ) (fs : List (List ℕ)) → number_of field ≡ o → read_last bytes fs ≡ None → read 1 bytes (field ∷ fs) ≡ None
read_one_more bytes (Some n) field fs e none = rw (e, none) refl
read_one_more bytes None field fs e none = rw e refl

some_field : (text : List ℕ) → read_last false (fields_of text) ≡ None
some_field text = let first = slice_split_has 32 text in ap (λ (fs : List (List ℕ)). read_last false fs) first.is

-- nothing may stand behind the last number
pub numbers_over : (operation : Operation) (ns bytes : List ℕ) (n : ℕ) → IsDecoded operation ns (Number (Some n)) bytes → numbers_of operation ≡ length ns + 1 → has_bytes operation ≡ false
    → AsksNothing (fields_text operation ns (Number (Some n)) bytes ++ 32 ∷ [])
numbers_over operation ns bytes n d last none =
    asks_nothing operation ns (Number (Some n)) bytes 32 1 d.worded d.numbers_fit (omega arith)
    (λ more.
    ap (λ (fs : List (List ℕ)). read 1 (has_bytes operation) fs) (fields_of-cut (decimal n) more (solid_without (decimal n) (decimal_solid n d.part_fits.1)))
    ∙ ap (λ (b : Bool). read 1 b (decimal n ∷ fields_of more)) none
    ∙ read_one_more false (number_of (decimal n)) (decimal n) (fields_of more) refl (some_field more))

-- bytes come last
pub bytes_stop : (operation : Operation) (ns : List ℕ) (part : Part) (bytes : List ℕ) (byte : ℕ) → HasWord operation (command_of operation) → AllSmall ns → length ns ≡ numbers_of operation → has_bytes operation ≡ true
    → IsWithout 32 (part_text part bytes) → ((field : List ℕ) → byte ≢ 32 → bytes_of (part_text part bytes ++ byte ∷ field) ≡ None) → AsksNothing (fields_text operation ns part bytes ++ byte ∷ [])
bytes_stop operation ns part bytes byte worded small count has without none =
    asks_nothing operation ns part bytes byte 0 worded small (omega arith)
    (λ more. ap (λ (b : Bool). read 0 b (fields_of (part_text part bytes ++ byte ∷ more))) has ∙ dead_last (part_text part bytes) byte without none more)

-- ---- hex digits

digit_solid_by : (c v : ℕ) → hex_digit_value c ≡ Some v → 35 < c
digit_solid_by c v h = grind (arith, nat_tests)

some_digit : (c : ℕ) (o : Option ℕ) → hex_digit_value c ≡ o → is_some o ≡ true → 35 < c
some_digit c (Some v) e h = digit_solid_by c v e
some_digit c None e h = absurd (cc)

pub digit_solid : (c : ℕ) → is_hex_digit c ≡ true → 35 < c
digit_solid c h = some_digit c (hex_digit_value c) refl h

glyph_solid : (d : ℕ) → d < 16 → 35 < slice_index lower_digits d
glyph_solid d h = digit_solid_by (slice_index lower_digits d) d (IsDigits-lower_digits d h)

encoded_solid : (bs : List ℕ) → IsBytes bs → IsSolid (encode_lower bs)
unfolding encode_with
encoded_solid [] h = All-nil (λ b. 35 < b)
encoded_solid (b ∷ bs) h =
    let fits : b < 256 = h 0 in
    All-cons (λ b. 35 < b) (slice_index lower_digits (b / 16)) (slice_index lower_digits (b % 16) ∷ encode_lower bs) (glyph_solid (b / 16) (omega arith))
    (All-cons (λ b. 35 < b) (slice_index lower_digits (b % 16)) (encode_lower bs) (glyph_solid (b % 16) (omega arith)) (encoded_solid bs (λ i. h (suc i))))

part_solid : (operation : Operation) (ns : List ℕ) (part : Part) (bytes : List ℕ) → IsDecoded operation ns part bytes → IsSolid (part_text part bytes)
part_solid operation ns (Number None) bytes d = All-nil (λ b. 35 < b)
part_solid operation ns (Number (Some n)) bytes d = decimal_solid n d.part_fits.1
part_solid operation ns Dash bytes d = All-cons (λ b. 35 < b) 45 [] (omega arith) (All-nil (λ b. 35 < b))
part_solid operation ns (Digits None) bytes d = All-append (λ b. 35 < b) (encode_lower bytes) [] (encoded_solid bytes d.bytes_fit) (All-nil (λ b. 35 < b))
part_solid operation ns (Digits (Some c)) bytes d =
    All-push (λ b. 35 < b) (encode_lower bytes) c (encoded_solid bytes d.bytes_fit) (digit_solid c d.part_fits.2)

part_without : (operation : Operation) (ns : List ℕ) (part : Part) (bytes : List ℕ) → IsDecoded operation ns part bytes → IsWithout 32 (part_text part bytes)
part_without operation ns part bytes d = solid_without (part_text part bytes) (part_solid operation ns part bytes d)

-- behind `-` nothing may stand
pub dash_stops : (operation : Operation) (ns bytes : List ℕ) (byte : ℕ) → IsDecoded operation ns Dash bytes → AsksNothing (fields_text operation ns Dash bytes ++ byte ∷ [])
dash_stops operation ns bytes byte d =
    bytes_stop operation ns Dash bytes byte d.worded d.numbers_fit d.part_fits.0 d.part_fits.1 (part_without operation ns Dash bytes d) (λ field _. dash_more byte field)

none_behind : (bytes : List ℕ) (c : ℕ) (cs : List ℕ) → (encode_lower bytes ++ []) ++ c ∷ cs ≡ encode_lower bytes ++ c ∷ cs
none_behind bytes c cs = ap (λ (l : List ℕ). l ++ c ∷ cs) (append-nil (encode_lower bytes))

pub digit_stops : (operation : Operation) (ns bytes : List ℕ) (byte : ℕ) → IsDecoded operation ns (Digits None) bytes → is_hex_digit byte ≡ false → (bytes ≡ [] → byte ≢ 45)
    → AsksNothing (fields_text operation ns (Digits None) bytes ++ byte ∷ [])
digit_stops operation ns bytes byte d bad other =
    bytes_stop operation ns (Digits None) bytes byte d.worded d.numbers_fit d.part_fits.0 d.part_fits.1 (part_without operation ns (Digits None) bytes d)
    (λ field _. ap (λ (l : List ℕ). bytes_of l) (none_behind bytes byte field) ∙ no_digit bytes byte field d.bytes_fit bad other)

one_behind : (bytes : List ℕ) (high c : ℕ) (cs : List ℕ) → (encode_lower bytes ++ high ∷ []) ++ c ∷ cs ≡ encode_lower bytes ++ high ∷ c ∷ cs
one_behind bytes high c cs = append_assoc (encode_lower bytes) (high ∷ []) (c ∷ cs)

pub pair_stops : (operation : Operation) (ns bytes : List ℕ) (high byte : ℕ) → IsDecoded operation ns (Digits (Some high)) bytes → result_ok (pair_value high byte 0) ≡ None
    → AsksNothing (fields_text operation ns (Digits (Some high)) bytes ++ byte ∷ [])
pair_stops operation ns bytes high byte d bad =
    bytes_stop operation ns (Digits (Some high)) bytes byte d.worded d.numbers_fit d.part_fits.0 d.part_fits.1 (part_without operation ns (Digits (Some high)) bytes d)
    (λ field _. ap (λ (l : List ℕ). bytes_of l) (one_behind bytes high byte field) ∙ no_second bytes high byte field d.bytes_fit d.part_fits.2 bad)

-- ---- texts that are the same

pub numbers_text-push : (ns : List ℕ) (n : ℕ) (more : List ℕ) → numbers_text (ns ++ n ∷ []) ++ more ≡ numbers_text ns ++ (decimal n ++ 32 ∷ more)
numbers_text-push [] n more = append_assoc (decimal n) (32 ∷ []) more
numbers_text-push (m ∷ ns) n more =
    append_assoc (decimal m) (32 ∷ numbers_text (ns ++ n ∷ [])) more
    ∙ ap (λ (l : List ℕ). decimal m ++ 32 ∷ l) (numbers_text-push ns n more)
    ∙ sym (append_assoc (decimal m) (32 ∷ numbers_text ns) (decimal n ++ 32 ∷ more))

-- the same line asks the same
pub same_asks : (text other : List ℕ) → text ≡ other → AsksAs text other
same_asks text other e more = ap (λ (l : List ℕ). request_of (fields_of (l ++ more))) e

one_longer : (text other : List ℕ) (byte : ℕ) → text ++ byte ∷ [] ≡ other → length other ≡ length text + 1
one_longer text other byte e = ap (λ (l : List ℕ). length l) (sym e) ∙ length-append text (byte ∷ [])

-- a part behind which more bytes have come
pub text_grows : (operation : Operation) (ns : List ℕ) (part part' : Part) (bytes bytes' more : List ℕ) → part_text part bytes ++ more ≡ part_text part' bytes'
    → fields_text operation ns part bytes ++ more ≡ fields_text operation ns part' bytes'
unfolding fields_text
text_grows operation ns part part' bytes bytes' more e =
    text_splits operation ns part bytes more ∙ ap (λ (l : List ℕ). command_of operation ++ 32 ∷ (numbers_text ns ++ l)) e

grows : (operation : Operation) (ns : List ℕ) (part part' : Part) (bytes : List ℕ) (byte : ℕ) → part_text part bytes ++ byte ∷ [] ≡ part_text part' bytes → IsDecoded operation ns part' bytes
    → Adds operation ns part bytes byte ns bytes (Some part')
grows operation ns part part' bytes byte e d =
    let same = text_grows operation ns part part' bytes bytes (byte ∷ []) e in
    (same_asks (fields_text operation ns part bytes ++ byte ∷ []) (fields_text operation ns part' bytes) same, d, one_longer (fields_text operation ns part bytes) (fields_text operation ns part' bytes) byte same)

-- one more digit of a number
pub number_grows : (operation : Operation) (ns bytes : List ℕ) (n : Option ℕ) (m byte : ℕ) → IsDecoded operation ns (Number n) bytes → m < 2 ^ 64 → digits_of n ++ byte ∷ [] ≡ decimal m
    → Adds operation ns (Number n) bytes byte ns bytes (Some (Number (Some m)))
number_grows operation ns bytes n m byte d fits e =
    grows operation ns (Number n) (Number (Some m)) bytes byte e record { worded = d.worded; numbers_fit = d.numbers_fit; bytes_fit = d.bytes_fit; part_fits = (d.part_fits.0, fits, d.part_fits.2) }

-- the first digit of a pair
pub pair_begins : (operation : Operation) (ns bytes : List ℕ) (byte : ℕ) → IsDecoded operation ns (Digits None) bytes → is_hex_digit byte ≡ true
    → Adds operation ns (Digits None) bytes byte ns bytes (Some (Digits (Some byte)))
pair_begins operation ns bytes byte d digit =
    grows operation ns (Digits None) (Digits (Some byte)) bytes byte (none_behind bytes byte []) record { worded = d.worded; numbers_fit = d.numbers_fit; bytes_fit = d.bytes_fit; part_fits = (d.part_fits.0, d.part_fits.1, digit) }

-- `-` where no digit has come
nothing_encoded : (bs rest : List ℕ) → bs ≡ [] → encode_lower bs ++ rest ≡ rest
unfolding encode_with
nothing_encoded [] rest e = refl
nothing_encoded (b ∷ bs) rest e = absurd (cc)

pub dash_comes : (operation : Operation) (ns bytes : List ℕ) → IsDecoded operation ns (Digits None) bytes → bytes ≡ [] → Adds operation ns (Digits None) bytes 45 ns bytes (Some Dash)
dash_comes operation ns bytes d none =
    grows operation ns (Digits None) Dash bytes 45 (none_behind bytes 45 [] ∙ nothing_encoded bytes (45 ∷ []) none) record { worded = d.worded; numbers_fit = d.numbers_fit; bytes_fit = d.bytes_fit; part_fits = (d.part_fits.0, d.part_fits.1, none) }

-- ---- the field behind a number

behind_text : (operation : Operation) (count : ℕ) (part : Part) → IsFieldBehind operation count (Some part) → part_text part [] ≡ []
unfolding encode_with
behind_text operation count part (inl h) = ap (λ (p : Part). part_text p []) h.1
behind_text operation count part (inr h) = ap (λ (p : Part). part_text p []) h.2

pub behind_decoded : (operation : Operation) (ns : List ℕ) (part : Part) (count : ℕ) → HasWord operation (command_of operation) → AllSmall ns → count ≡ length ns → IsFieldBehind operation count (Some part) → IsDecoded operation ns part []
behind_decoded operation ns part count worded small e (inl h) =
    subst (λ (p : Part). IsDecoded operation ns p []) (sym h.1) record { worded = worded; numbers_fit = small; bytes_fit = λ i. omega arith; part_fits = (omega (arith, h.0), tt, refl) }
behind_decoded operation ns part count worded small e (inr h) =
    subst (λ (p : Part). IsDecoded operation ns p []) (sym h.2) record { worded = worded; numbers_fit = small; bytes_fit = λ i. omega arith; part_fits = (omega (arith, h.0), h.1, tt) }

-- a number is whole, and the next field begins
pub number_ends : (operation : Operation) (ns bytes : List ℕ) (n : ℕ) (part : Part) → IsDecoded operation ns (Number (Some n)) bytes → IsFieldBehind operation (length ns + 1) (Some part)
    → Adds operation ns (Number (Some n)) bytes 32 (ns ++ n ∷ []) bytes (Some part)
unfolding fields_text
number_ends operation ns bytes n part d behind =
    let none : bytes ≡ [] = d.part_fits.2 in
    let text : part_text part bytes ≡ [] = ap (λ (l : List ℕ). part_text part l) none ∙ behind_text operation (length ns + 1) part behind in
    let same : fields_text operation ns (Number (Some n)) bytes ++ 32 ∷ [] ≡ fields_text operation (ns ++ n ∷ []) part bytes =
    text_splits operation ns (Number (Some n)) bytes (32 ∷ [])
    ∙ ap (λ (l : List ℕ). command_of operation ++ 32 ∷ l) (sym (numbers_text-push ns n []))
    ∙ ap (λ (l : List ℕ). command_of operation ++ 32 ∷ (numbers_text (ns ++ n ∷ []) ++ l)) (sym text) in
    let small : AllSmall (ns ++ n ∷ []) = All-push (λ m. m < 2 ^ 64) ns n d.numbers_fit d.part_fits.1 in
    let count : length ns + 1 ≡ length (ns ++ n ∷ []) = sym (length-append ns (n ∷ [])) in
    let decoded = behind_decoded operation (ns ++ n ∷ []) part (length ns + 1) d.worded small count behind in (
      same_asks (fields_text operation ns (Number (Some n)) bytes ++ 32 ∷ []) (fields_text operation (ns ++ n ∷ []) part bytes) same,
      subst (λ (l : List ℕ). IsDecoded operation (ns ++ n ∷ []) part l) (sym none) decoded,
      one_longer (fields_text operation ns (Number (Some n)) bytes) (fields_text operation (ns ++ n ∷ []) part bytes) 32 same,
    )

-- ---- a whole pair

last_same : (field other : List ℕ) (fs : List (List ℕ)) → bytes_of field ≡ bytes_of other → read_last true (field ∷ fs) ≡ read_last true (other ∷ fs)
last_same field other [] e = rw e refl
last_same field other (f ∷ fs) e = refl

bytes_same : (operation : Operation) (ns : List ℕ) (part part' : Part) (bytes bytes' more more' : List ℕ) → HasWord operation (command_of operation) → AllSmall ns → length ns ≡ numbers_of operation → has_bytes operation ≡ true
    → read 0 true (fields_of (part_text part bytes ++ more)) ≡ read 0 true (fields_of (part_text part' bytes' ++ more'))
    → request_of (fields_of (fields_text operation ns part bytes ++ more)) ≡ request_of (fields_of (fields_text operation ns part' bytes' ++ more'))
bytes_same operation ns part part' bytes bytes' more more' worded small count has e =
    asks operation ns part bytes more 0 worded small (omega arith)
    ∙ ap (λ (p : Option (List ℕ × List ℕ)). ask operation (with_numbers ns p))
    (ap (λ (b : Bool). read 0 b (fields_of (part_text part bytes ++ more))) has ∙ e ∙ sym (ap (λ (b : Bool). read 0 b (fields_of (part_text part' bytes' ++ more'))) has))
    ∙ sym (asks operation ns part' bytes' more' 0 worded small (omega arith))

pair_length : (bytes : List ℕ) (v : ℕ) → length (encode_lower (bytes ++ v ∷ []) ++ []) ≡ 2 * length bytes + 2
pair_length bytes v =
    let a = length-append (encode_lower (bytes ++ v ∷ [])) [] in
    let b = length-encode_with lower_digits (bytes ++ v ∷ []) in
    let c = length-append bytes (v ∷ []) in
    omega arith

odd_length : (bytes : List ℕ) (high : ℕ) → length (encode_lower bytes ++ high ∷ []) ≡ 2 * length bytes + 1
odd_length bytes high =
    let a = length-append (encode_lower bytes) (high ∷ []) in
    let b = length-encode_with lower_digits bytes in
    omega arith

text_length : (operation : Operation) (ns : List ℕ) (part : Part) (bytes : List ℕ) → length (fields_text operation ns part bytes) ≡ length (command_of operation) + 1 + length (numbers_text ns) + length (part_text part bytes)
unfolding fields_text
text_length operation ns part bytes =
    let a = length-append (command_of operation) (32 ∷ (numbers_text ns ++ part_text part bytes)) in
    let b = length-append (numbers_text ns) (part_text part bytes) in
    omega arith

second_by : (high byte v : ℕ) (oh ob : Option ℕ) → result_ok (digit_or_error high 0 oh >>= (λ h. digit_or_error byte 1 ob >>= (λ l. Ok (h * 16 + l)))) ≡ Some v → is_some ob ≡ true
second_by high byte v (Some h) (Some l) e = refl
second_by high byte v (Some h) None e = absurd (cc)
second_by high byte v None ob e = absurd (cc)

-- the second digit of a pair is a digit
second_digit : (high byte v : ℕ) → result_ok (pair_value high byte 0) ≡ Some v → is_hex_digit byte ≡ true
second_digit high byte v e = second_by high byte v (hex_digit_value high) (hex_digit_value byte) e

IsBytes-push : (bytes : List ℕ) (v : ℕ) → IsBytes bytes → v < 256 → IsBytes (bytes ++ v ∷ [])
IsBytes-push [] v h fits zero = fits
IsBytes-push [] v h fits (suc i) = omega arith
IsBytes-push (b ∷ bytes) v h fits zero = h 0
IsBytes-push (b ∷ bytes) v h fits (suc i) = IsBytes-push bytes v (λ j. h (suc j)) fits i

pair_read : (bytes : List ℕ) (high byte v : ℕ) (more : List ℕ) → HasFirst (fields_of more) → IsWithout 32 ((encode_lower bytes ++ high ∷ []) ++ byte ∷ []) → IsWithout 32 (encode_lower (bytes ++ v ∷ []) ++ [])
    → IsBytes bytes → v < 256 → is_hex_digit high ≡ true → result_ok (pair_value high byte 0) ≡ Some v
    → read 0 true (fields_of ((encode_lower bytes ++ high ∷ []) ++ byte ∷ more)) ≡ read 0 true (fields_of ((encode_lower (bytes ++ v ∷ []) ++ []) ++ more))
pair_read bytes high byte v more first old_without new_without fit small digit is =
    let f : List ℕ = first.first in
    let old : List ℕ = (encode_lower bytes ++ high ∷ []) ++ byte ∷ [] in
    let new : List ℕ = encode_lower (bytes ++ v ∷ []) ++ [] in
    let old_is : old ++ f ≡ encode_lower bytes ++ high ∷ byte ∷ f = append_assoc (encode_lower bytes ++ high ∷ []) (byte ∷ []) f ∙ append_assoc (encode_lower bytes) (high ∷ []) (byte ∷ f) in
    let new_is : new ++ f ≡ encode_lower (bytes ++ v ∷ []) ++ f = ap (λ (l : List ℕ). l ++ f) (append-nil (encode_lower (bytes ++ v ∷ []))) in
    ap (λ (l : List ℕ). read_last true (fields_of l)) (sym (append_assoc (encode_lower bytes ++ high ∷ []) (byte ∷ []) more))
    ∙ ap (λ (fs : List (List ℕ)). read_last true fs) (split_behind 32 old more first old_without)
    ∙ last_same (old ++ f) (new ++ f) first.others
    (ap (λ (l : List ℕ). bytes_of l) old_is ∙ pair_stands bytes high byte v f fit small digit is (IsBytes-push bytes v fit small) ∙ ap (λ (l : List ℕ). bytes_of l) (sym new_is))
    ∙ sym (ap (λ (fs : List (List ℕ)). read_last true fs) (split_behind 32 new more first new_without))

pub pair_comes : (operation : Operation) (ns bytes : List ℕ) (high byte v : ℕ) → IsDecoded operation ns (Digits (Some high)) bytes → v < 256 → result_ok (pair_value high byte 0) ≡ Some v
    → Adds operation ns (Digits (Some high)) bytes byte ns (bytes ++ v ∷ []) (Some (Digits None))
pair_comes operation ns bytes high byte v d fits is =
    let all : IsBytes (bytes ++ v ∷ []) = IsBytes-push bytes v d.bytes_fit fits in
    let decoded : IsDecoded operation ns (Digits None) (bytes ++ v ∷ []) = record { worded = d.worded; numbers_fit = d.numbers_fit; bytes_fit = all; part_fits = (d.part_fits.0, d.part_fits.1, tt) } in
    let old = text_length operation ns (Digits (Some high)) bytes in
    let new = text_length operation ns (Digits None) (bytes ++ v ∷ []) in
    let old_part = odd_length bytes high in
    let new_part = pair_length bytes v in
    let solid = digit_solid byte (second_digit high byte v is) in
    let space : byte ≢ 32 = λ e. omega arith in
    let old_without : IsWithout 32 ((encode_lower bytes ++ high ∷ []) ++ byte ∷ []) = All-push (λ b. (b == 32) ≡ false) (encode_lower bytes ++ high ∷ []) byte (part_without operation ns (Digits (Some high)) bytes d) (ne_eqb byte 32 space) in
    let new_without : IsWithout 32 (encode_lower (bytes ++ v ∷ []) ++ []) = part_without operation ns (Digits None) (bytes ++ v ∷ []) decoded in (
      λ more.
          ap (λ (l : List ℕ). request_of (fields_of l)) (append_assoc (fields_text operation ns (Digits (Some high)) bytes) (byte ∷ []) more)
          ∙ bytes_same operation ns (Digits (Some high)) (Digits None) bytes (bytes ++ v ∷ []) (byte ∷ more) more d.worded d.numbers_fit d.part_fits.0 d.part_fits.1
          (pair_read bytes high byte v more (slice_split_has 32 more) old_without new_without d.bytes_fit fits d.part_fits.2 is),
      decoded,
      omega arith,
    )

-- ---- the request of a whole line

asks_whole : (operation : Operation) (ns : List ℕ) (part : Part) (bytes : List ℕ) (k : ℕ) (ms bs : List ℕ) → HasWord operation (command_of operation) → AllSmall ns → length ns + k ≡ numbers_of operation
    → read k (has_bytes operation) (fields_of (part_text part bytes)) ≡ Some (ms, bs) → request_of (fields_of (fields_text operation ns part bytes)) ≡ request_with operation (ns ++ ms) bs
asks_whole operation ns part bytes k ms bs worded small e h =
    ap (λ (l : List ℕ). request_of (fields_of l)) (sym (append-nil (fields_text operation ns part bytes)))
    ∙ asks operation ns part bytes [] k worded small e
    ∙ ap (λ (l : List ℕ). ask operation (with_numbers ns (read k (has_bytes operation) (fields_of l)))) (append-nil (part_text part bytes))
    ∙ ap (λ (p : Option (List ℕ × List ℕ)). ask operation (with_numbers ns p)) h
    ∙ ap (λ (p : Option (List ℕ × List ℕ)). ask operation p) (with_numbers-some ns ms bs)

asks_none : (operation : Operation) (ns : List ℕ) (part : Part) (bytes : List ℕ) (k : ℕ) → HasWord operation (command_of operation) → AllSmall ns → length ns + k ≡ numbers_of operation
    → read k (has_bytes operation) (fields_of (part_text part bytes)) ≡ None → request_of (fields_of (fields_text operation ns part bytes)) ≡ None
asks_none operation ns part bytes k worded small e h =
    ap (λ (l : List ℕ). request_of (fields_of l)) (sym (append-nil (fields_text operation ns part bytes)))
    ∙ asks operation ns part bytes [] k worded small e
    ∙ ap (λ (l : List ℕ). ask operation (with_numbers ns (read k (has_bytes operation) (fields_of l)))) (append-nil (part_text part bytes))
    ∙ ap (λ (p : Option (List ℕ × List ℕ)). ask operation (with_numbers ns p)) h
    ∙ ap (λ (p : Option (List ℕ × List ℕ)). ask operation p) (with_numbers-none ns)

one_field : (operation : Operation) (ns : List ℕ) (part : Part) (bytes : List ℕ) → IsDecoded operation ns part bytes → fields_of (part_text part bytes) ≡ part_text part bytes ∷ []
one_field operation ns part bytes d = fields_of-one (part_text part bytes) (part_without operation ns part bytes d)

-- the last number is whole, and there are no bytes
pub numbers_whole : (operation : Operation) (ns bytes : List ℕ) (n : ℕ) → IsDecoded operation ns (Number (Some n)) bytes → numbers_of operation ≡ length ns + 1 → has_bytes operation ≡ false
    → request_of (fields_of (fields_text operation ns (Number (Some n)) bytes)) ≡ request_with operation (ns ++ n ∷ []) []
numbers_whole operation ns bytes n d last none =
    asks_whole operation ns (Number (Some n)) bytes 1 (n ∷ []) [] d.worded d.numbers_fit (omega arith)
    (ap (λ (fs : List (List ℕ)). read 1 (has_bytes operation) fs) (one_field operation ns (Number (Some n)) bytes d)
    ∙ ap (λ (b : Bool). read 1 b (decimal n ∷ [])) none
    ∙ rw (number_of-decimal n d.part_fits.1) refl)

read_short : (k : ℕ) (bytes : Bool) (field : List ℕ) → 0 < k → read (k - 1) bytes [] ≡ None → read k bytes (field ∷ []) ≡ None
read_short zero bytes field h e = absurd (omega arith)
read_short (suc k) bytes field h e =
    let less : k ≡ suc k - 1 = omega arith in
    ap (λ (m : ℕ). with_number (number_of field) (read m bytes [])) less
    ∙ ap (λ (p : Option (List ℕ × List ℕ)). with_number (number_of field) p) e
    ∙ with_number-none (number_of field)

pub read_nothing : (k : ℕ) (bytes : Bool) → (0 < k) ⊎ (bytes ≡ true) → read k bytes [] ≡ None
read_nothing zero bytes (inl h) = absurd (omega arith)
read_nothing zero bytes (inr h) = rw h refl
read_nothing (suc k) bytes h = refl

-- a field lacks behind the number
pub field_lacks : (operation : Operation) (ns bytes : List ℕ) (n : ℕ) (part : Part) → IsDecoded operation ns (Number (Some n)) bytes → IsFieldBehind operation (length ns + 1) (Some part)
    → request_of (fields_of (fields_text operation ns (Number (Some n)) bytes)) ≡ None
field_lacks operation ns bytes n part d behind =
    let left = to_come ns (numbers_of operation) d.part_fits.0 in
    asks_none operation ns (Number (Some n)) bytes (numbers_of operation - length ns) d.worded d.numbers_fit left.0
    (ap (λ (fs : List (List ℕ)). read (numbers_of operation - length ns) (has_bytes operation) fs) (one_field operation ns (Number (Some n)) bytes d)
    ∙ read_short (numbers_of operation - length ns) (has_bytes operation) (decimal n) left.1 (read_nothing (numbers_of operation - length ns - 1) (has_bytes operation) (lacks behind)))
  where
    lacks : IsFieldBehind operation (length ns + 1) (Some part) → (0 < numbers_of operation - length ns - 1) ⊎ (has_bytes operation ≡ true)
    lacks (inl h) = inl (omega (arith, h.0))
    lacks (inr h) = inr h.1

pub number_lacks : (operation : Operation) (ns bytes : List ℕ) → IsDecoded operation ns (Number None) bytes → request_of (fields_of (fields_text operation ns (Number None) bytes)) ≡ None
number_lacks operation ns bytes d =
    let left = to_come ns (numbers_of operation) d.part_fits.0 in
    asks_none operation ns (Number None) bytes (numbers_of operation - length ns) d.worded d.numbers_fit left.0
    (ap (λ (fs : List (List ℕ)). read (numbers_of operation - length ns) (has_bytes operation) fs) (one_field operation ns (Number None) bytes d)
    ∙ read_some (numbers_of operation - length ns) (has_bytes operation) [] [] left.1 refl)

bytes_whole : (operation : Operation) (ns : List ℕ) (part : Part) (bytes bs : List ℕ) → IsDecoded operation ns part bytes → length ns ≡ numbers_of operation → has_bytes operation ≡ true
    → bytes_of (part_text part bytes) ≡ Some bs → request_of (fields_of (fields_text operation ns part bytes)) ≡ request_with operation ns bs
bytes_whole operation ns part bytes bs d count has h =
    asks_whole operation ns part bytes 0 [] bs d.worded d.numbers_fit (omega arith)
    (ap (λ (fs : List (List ℕ)). read 0 (has_bytes operation) fs) (one_field operation ns part bytes d)
    ∙ ap (λ (b : Bool). read 0 b (part_text part bytes ∷ [])) has
    ∙ rw h refl)
    ∙ ap (λ (l : List ℕ). request_with operation l bs) (append-nil ns)

bytes_none : (operation : Operation) (ns : List ℕ) (part : Part) (bytes : List ℕ) → IsDecoded operation ns part bytes → length ns ≡ numbers_of operation → has_bytes operation ≡ true
    → bytes_of (part_text part bytes) ≡ None → request_of (fields_of (fields_text operation ns part bytes)) ≡ None
bytes_none operation ns part bytes d count has h =
    asks_none operation ns part bytes 0 d.worded d.numbers_fit (omega arith)
    (ap (λ (fs : List (List ℕ)). read 0 (has_bytes operation) fs) (one_field operation ns part bytes d)
    ∙ ap (λ (b : Bool). read 0 b (part_text part bytes ∷ [])) has
    ∙ rw h refl)

pub dash_whole : (operation : Operation) (ns bytes : List ℕ) → IsDecoded operation ns Dash bytes → request_of (fields_of (fields_text operation ns Dash bytes)) ≡ request_with operation ns bytes
dash_whole operation ns bytes d =
    bytes_whole operation ns Dash bytes [] d d.part_fits.0 d.part_fits.1 refl ∙ ap (λ (l : List ℕ). request_with operation ns l) (sym d.part_fits.2)

pub pairs_whole : (operation : Operation) (ns bytes : List ℕ) → IsDecoded operation ns (Digits None) bytes → 0 < length bytes
    → request_of (fields_of (fields_text operation ns (Digits None) bytes)) ≡ request_with operation ns bytes
pairs_whole operation ns [] d some_bytes = absurd (omega arith)
pairs_whole operation ns (b ∷ bytes) d some_bytes = bytes_whole operation ns (Digits None) (b ∷ bytes) (b ∷ bytes) d d.part_fits.0 d.part_fits.1 (whole_pairs b bytes d.bytes_fit)

pub pairs_lack : (operation : Operation) (ns bytes : List ℕ) → IsDecoded operation ns (Digits None) bytes → length bytes ≡ 0 → request_of (fields_of (fields_text operation ns (Digits None) bytes)) ≡ None
pairs_lack operation ns [] d none = bytes_none operation ns (Digits None) [] d d.part_fits.0 d.part_fits.1 (ap (λ (l : List ℕ). bytes_of l) (nothing_encoded [] [] refl))
pairs_lack operation ns (b ∷ bytes) d none = absurd (omega arith)

pub digit_lacks : (operation : Operation) (ns bytes : List ℕ) (high : ℕ) → IsDecoded operation ns (Digits (Some high)) bytes → request_of (fields_of (fields_text operation ns (Digits (Some high)) bytes)) ≡ None
digit_lacks operation ns bytes high d =
    bytes_none operation ns (Digits (Some high)) bytes d d.part_fits.0 d.part_fits.1 (odd_pairs bytes high d.bytes_fit d.part_fits.2)

-- ---- by the parts that were found

pub ends_number : (operation : Operation) (ns bytes : List ℕ) (n : Option ℕ) (ns' : List ℕ) (next : Option Part) → IsDecoded operation ns (Number n) bytes → EndsNumber operation ns n ns' next
    → Adds operation ns (Number n) bytes 32 ns' bytes next
ends_number operation ns bytes None ns' None d h = (number_missing operation ns bytes d, h.1, refl)
ends_number operation ns bytes None ns' (Some part) d h = absurd (cc)
ends_number operation ns bytes (Some n) ns' None d h = (numbers_over operation ns bytes n d h.0 h.1, h.2, refl)
ends_number operation ns bytes (Some n) ns' (Some part) d h =
    subst (λ (l : List ℕ). Adds operation ns (Number (Some n)) bytes 32 l bytes (Some part)) (sym h.0) (number_ends operation ns bytes n part d h.1)

pub begins_pair : (operation : Operation) (ns bytes : List ℕ) (none : Bool) (byte : ℕ) (next : Option Part) → IsDecoded operation ns (Digits None) bytes → (none ≡ true → bytes ≡ []) → (bytes ≡ [] → none ≡ true)
    → BeginsPair none byte next → Adds operation ns (Digits None) bytes byte ns bytes next
begins_pair operation ns bytes none byte None d to from h = (digit_stops operation ns bytes byte d h.0 (λ e. h.1 (from e)), refl, refl)
begins_pair operation ns bytes none byte (Some part) d to from (inl h) =
    subst (λ (p : Part). Adds operation ns (Digits None) bytes byte ns bytes (Some p)) (sym h.1) (pair_begins operation ns bytes byte d h.0)
begins_pair operation ns bytes none byte (Some part) d to from (inr h) =
    subst (λ (p : Part). Adds operation ns (Digits None) bytes byte ns bytes (Some p)) (sym h.2)
    (subst (λ (b : ℕ). Adds operation ns (Digits None) bytes b ns bytes (Some Dash)) (sym h.1) (dash_comes operation ns bytes d (to h.0)))

-- ---- no end of a line stands in it

abbrev IsInk : ℕ → Type 0
IsInk b = ((b == 10) ≡ false) × ((b == 13) ≡ false) × ((b == 35) ≡ false)

solid_ink : (b : ℕ) → 35 < b → IsInk b
solid_ink b h = (ne_eqb b 10 (λ e. omega arith), ne_eqb b 13 (λ e. omega arith), ne_eqb b 35 (λ e. omega arith))

ink_solid : (bytes : List ℕ) → IsSolid bytes → All IsInk bytes
ink_solid bytes h = All-weaker (λ b. 35 < b) IsInk solid_ink bytes h

ink_plain : (text : List ℕ) → All IsInk text → IsPlain text
ink_plain text h = record {
  no_feed = All-weaker IsInk (λ b. (b == 10) ≡ false) (λ b i. i.0) text h;
  no_return = All-weaker IsInk (λ b. (b == 13) ≡ false) (λ b i. i.1) text h;
  no_mark = mark text h;
}
  where
    mark : (t : List ℕ) → All IsInk t → slice_index t 0 ≢ 35
    mark [] k e = omega arith
    mark (b ∷ bs) k e = let first = All-head IsInk b bs k in true≢false (sym (ap (λ (x : ℕ). x == 35) e) ∙ first.2)

space_ink : (bytes : List ℕ) → All IsInk bytes → All IsInk (32 ∷ bytes)
space_ink bytes h = All-cons IsInk 32 bytes (refl, refl, refl) h

numbers_ink : (ns : List ℕ) → AllSmall ns → All IsInk (numbers_text ns)
numbers_ink [] h = All-nil IsInk
numbers_ink (n ∷ ns) h =
    All-append IsInk (decimal n) (32 ∷ numbers_text ns) (ink_solid (decimal n) (decimal_solid n (All-head (λ m. m < 2 ^ 64) n ns h)))
    (space_ink (numbers_text ns) (numbers_ink ns (All-tail (λ m. m < 2 ^ 64) n ns h)))

command_ink : (operation : Operation) → All IsInk (command_of operation)
command_ink operation = ink_solid (command_of operation) (letters_solid (command_of operation) (command_letters operation))

pub fields_plain : (operation : Operation) (ns : List ℕ) (part : Part) (bytes : List ℕ) → IsDecoded operation ns part bytes → IsPlain (fields_text operation ns part bytes)
unfolding fields_text
fields_plain operation ns part bytes d =
    ink_plain (command_of operation ++ 32 ∷ (numbers_text ns ++ part_text part bytes))
    (All-append IsInk (command_of operation) (32 ∷ (numbers_text ns ++ part_text part bytes)) (command_ink operation)
    (space_ink (numbers_text ns ++ part_text part bytes) (All-append IsInk (numbers_text ns) (part_text part bytes) (numbers_ink ns d.numbers_fit) (ink_solid (part_text part bytes) (part_solid operation ns part bytes d)))))

-- letters of a command, and the space behind them
pub letters_plain : (word : List ℕ) → All IsLetter word → IsPlain word
letters_plain word letters = ink_plain word (ink_solid word (letters_solid word letters))

pub command_plain : (word : List ℕ) → All IsLetter word → IsPlain (word ++ 32 ∷ [])
command_plain word letters = ink_plain (word ++ 32 ∷ []) (All-append IsInk word (32 ∷ []) (ink_solid word (letters_solid word letters)) (space_ink [] (All-nil IsInk)))

-- ---- a command alone

pub of_text : (operation : Operation) (part : Part) → IsFieldBehind operation 0 (Some part) → fields_text operation [] part [] ≡ command_of operation ++ 32 ∷ []
unfolding fields_text
of_text operation part h = ap (λ (l : List ℕ). command_of operation ++ 32 ∷ l) (behind_text operation 0 part h)

-- one that has no fields may have none
pub bare_stops : (operation : Operation) → HasWord operation (command_of operation) → numbers_of operation ≡ 0 → has_bytes operation ≡ false → AsksNothing (command_of operation ++ 32 ∷ [])
bare_stops operation worded none no_bytes more =
    ap (λ (l : List ℕ). request_of (fields_of l)) (append_assoc (command_of operation) (32 ∷ []) more)
    ∙ command_cut operation more worded
    ∙ ap (λ (n : ℕ). ask operation (read n (has_bytes operation) (fields_of more))) none
    ∙ ap (λ (b : Bool). ask operation (read_last b (fields_of more))) no_bytes
    ∙ ap (λ (p : Option (List ℕ × List ℕ)). ask operation p) (some_field more)

-- ---- what a step leaves

pub empty_is : (bytes : List ℕ) (none : Bool) → none ≡ (length bytes == 0) → none ≡ true → bytes ≡ []
empty_is [] none e h = refl
empty_is (b ∷ bytes) none e h = let zero_length = eqb-true (length (b ∷ bytes)) 0 (sym e ∙ h) in absurd (omega arith)

pub some_length : (bytes : List ℕ) → (length bytes == 0) ≡ false → 0 < length bytes
some_length [] e = absurd (cc)
some_length (b ∷ bytes) e = omega arith

pub empty_from : (bytes : List ℕ) (none : Bool) → none ≡ (length bytes == 0) → bytes ≡ [] → none ≡ true
empty_from bytes none e h = e ∙ ap (λ (l : List ℕ). length l == 0) h

pub plain_same : (operation : Operation) (ns : List ℕ) (part : Part) (bytes ns' bytes' : List ℕ) → IsDecoded operation ns part bytes → ns' ≡ ns → bytes' ≡ bytes → IsPlain (fields_text operation ns' part bytes')
plain_same operation ns part bytes ns' bytes' d e f =
    subst (λ (l : List ℕ). IsPlain (fields_text operation l part bytes')) (sym e) (subst (λ (l : List ℕ). IsPlain (fields_text operation ns part l)) (sym f) (fields_plain operation ns part bytes d))

-- ---- the request of a line, by its last part

pub lacks_by : (operation : Operation) (ns : List ℕ) (part : Part) (bytes : List ℕ) (n' : Option ℕ) (n count : ℕ) (next : Option Part) → IsDecoded operation ns part bytes → part ≡ Number n' → n' ≡ Some n → count ≡ length ns
    → IsFieldBehind operation (count + 1) next → is_some next ≡ true → request_of (fields_of (fields_text operation ns part bytes)) ≡ None
lacks_by operation ns part bytes n' n count None d e k c behind there = absurd (cc)
lacks_by operation ns part bytes n' n count (Some p) d e k c behind there =
    let is : part ≡ Number (Some n) = e ∙ ap (λ (m : Option ℕ). Number m) k in
    subst (λ (q : Part). request_of (fields_of (fields_text operation ns q bytes)) ≡ None) (sym is)
    (field_lacks operation ns bytes n p (subst (λ (q : Part). IsDecoded operation ns q bytes) is d) (subst (λ (m : ℕ). IsFieldBehind operation (m + 1) (Some p)) c behind))

pub whole_by : (operation : Operation) (ns : List ℕ) (part : Part) (bytes : List ℕ) (n' : Option ℕ) (n count : ℕ) (next : Option Part) → IsDecoded operation ns part bytes → part ≡ Number n' → n' ≡ Some n → count ≡ length ns
    → IsFieldBehind operation (count + 1) next → is_some next ≡ false → request_of (fields_of (fields_text operation ns part bytes)) ≡ request_with operation (ns ++ n ∷ []) bytes
whole_by operation ns part bytes n' n count (Some p) d e k c behind there = absurd (cc)
whole_by operation ns part bytes n' n count None d e k c behind there =
    let is : part ≡ Number (Some n) = e ∙ ap (λ (m : Option ℕ). Number m) k in
    let decoded : IsDecoded operation ns (Number (Some n)) bytes = subst (λ (q : Part). IsDecoded operation ns q bytes) is d in
    subst (λ (q : Part). request_of (fields_of (fields_text operation ns q bytes)) ≡ request_with operation (ns ++ n ∷ []) bytes) (sym is)
    (numbers_whole operation ns bytes n decoded (omega (arith, behind.0)) behind.1 ∙ ap (λ (l : List ℕ). request_with operation (ns ++ n ∷ []) l) (sym decoded.part_fits.2))

pub part_asks : (operation : Operation) (ns : List ℕ) (part part' : Part) (bytes : List ℕ) (r : Option Request) → part ≡ part' → IsDecoded operation ns part bytes
    → (IsDecoded operation ns part' bytes → request_of (fields_of (fields_text operation ns part' bytes)) ≡ r) → request_of (fields_of (fields_text operation ns part bytes)) ≡ r
part_asks operation ns part part' bytes r e d h =
    subst (λ (q : Part). request_of (fields_of (fields_text operation ns q bytes)) ≡ r) (sym e) (h (subst (λ (q : Part). IsDecoded operation ns q bytes) e d))
