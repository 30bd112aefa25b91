-- Bytes of a line that were taken off the front of a piece.
use Rattle.std.proofs.Common.{◌≡◌, ◌≢◌, ◌∙◌, ◌⊎◌, inl, inr, ℕ, ◌+◌, ◌-◌, ◌<◌, ◌≤◌, ◌==◌, false, List, [], ◌∷◌, ◌++◌, length, take, drop, slice_index, Option, None, Some, sym, ap, subst, arith, append_assoc, append-nil, take-add, take-append-drop, length-append, length-drop}
use Rattle.std.specs.List.{All}
use Rattle.std.proofs.lemmas.List.{drop_more, length-take-le, take_more}
use Rattle.std.proofs.lemmas.List.Elements.{All-drop}
use Rattle.items.specs.Text.{IsWithout, SpellsBad, TakesText, Takes}
use Rattle.items.proofs.Texts.{strip-plain}
use Rattle.request_form.specs.declared.form.Request.{Request}
use Rattle.script_text.specs.Requests.{request_of}
use Rattle.script_text.specs.Lines.{fields_of, heard_as, script_lines}
use Rattle.script_text.specs.Begun.{IsPlain, IsLetter}
use Rattle.script_text.specs.Decoded.{AsksAs, AsksNothing, AddsByte, TakesRun}
use Rattle.script_text.proofs.TextLemmas.{word_stops}
use Rattle.script_text.proofs.DecodedLemmas.{letters_plain, command_plain}

-- one byte behind a run that has none
byte_asks : (text mid rest : List ℕ) (b : ℕ) → AsksAs (text ++ []) mid → (more : List ℕ) → request_of (fields_of ((text ++ b ∷ []) ++ more)) ≡ request_of (fields_of ((mid ++ b ∷ []) ++ more))
byte_asks text mid rest b asks more =
    ap (λ (l : List ℕ). request_of (fields_of l)) (append_assoc text (b ∷ []) more ∙ ap (λ (l : List ℕ). l ++ b ∷ more) (sym (append-nil text)))
    ∙ asks (b ∷ more)
    ∙ ap (λ (l : List ℕ). request_of (fields_of l)) (sym (append_assoc mid (b ∷ []) more))

-- a text that is no request with a byte is none with more
bad_behind : (text rest : List ℕ) (b : ℕ) → AsksNothing (text ++ b ∷ []) → Takes script_lines text (b ∷ rest) [] None
bad_behind text rest b none more =
    ap (λ (l : List ℕ). heard_as (request_of (fields_of (l ++ more)))) (sym (append_assoc text (b ∷ []) rest))
    ∙ ap (λ (l : List ℕ). heard_as (request_of (fields_of l))) (append_assoc (text ++ b ∷ []) rest more)
    ∙ ap (λ (r : Option Request). heard_as r) (none (rest ++ more))

pub byte_stops : (text piece mid text' : List ℕ) (run : ℕ) → 0 < length piece → run ≡ 0 → TakesRun text piece mid run → AddsByte mid (slice_index piece 0) text' false → Takes script_lines text piece text' None
byte_stops text [] mid text' run some none t a = absurd (omega arith)
byte_stops text (b ∷ rest) mid text' run some none t a =
    let asks : AsksAs (text ++ []) mid = subst (λ (n : ℕ). AsksAs (text ++ take n (b ∷ rest)) mid) none t.asks in
    bad_behind text rest b (λ more. byte_asks text mid rest b asks more ∙ a more)

-- ---- bytes behind others of one piece

-- so many bytes have been taken off the front of a piece, or none yet
abbrev pub HasTaken : List ℕ → List ℕ → List ℕ → ℕ → Type 0
HasTaken text piece text' count = ((count ≡ 0) × (text' ≡ text)) ⊎ TakesText script_lines text piece text' count

-- and more behind them
pub takes_more : (text piece now slice text' : List ℕ) (taken count : ℕ) → taken ≤ length piece → slice ≡ drop taken piece → HasTaken text piece now taken
    → TakesText script_lines now slice text' count → (taken + count ≤ length piece) × HasTaken text piece text' (taken + count)
takes_more text piece now slice text' taken count within is (inl none) t =
    let whole : slice ≡ piece = is ∙ ap (λ (n : ℕ). drop n piece) none.0 in
    let same : count ≡ taken + count = omega (arith, none.0) in
    let first = subst (λ (l : List ℕ). TakesText script_lines l slice text' count) none.1 t in
    let here : TakesText script_lines text piece text' count = subst (λ (l : List ℕ). TakesText script_lines text l text' count) whole first in
    let few = here.within in
    (omega arith, inr (subst (λ (n : ℕ). TakesText script_lines text piece text' n) same here))
takes_more text piece now slice text' taken count within is (inr before) t =
    let there : length slice ≡ length piece - taken = ap (λ (l : List ℕ). length l) is ∙ length-drop taken piece in
    let part : take taken piece ++ take count slice ≡ take (taken + count) piece = ap (λ (l : List ℕ). take taken piece ++ take count l) is ∙ sym (take-add taken count piece) in
    let few = t.within in
    let some_count = t.some in
    let longer = t.longer in
    let long = before.longer in (
      omega arith,
      inr (record {
        some = omega arith;
        within = omega arith;
        longer = omega arith;
        spells = λ more.
            ap (λ (l : List ℕ). script_lines.spelled ((text ++ l) ++ more)) (sym part)
            ∙ ap (λ (l : List ℕ). script_lines.spelled (l ++ more)) (sym (append_assoc text (take taken piece) (take count slice)))
            ∙ ap (λ (l : List ℕ). script_lines.spelled l) (append_assoc (text ++ take taken piece) (take count slice) more)
            ∙ before.spells (take count slice ++ more)
            ∙ ap (λ (l : List ℕ). script_lines.spelled l) (sym (append_assoc now (take count slice) more))
            ∙ t.spells more;
        is_text = t.is_text;
        ends = λ out. t.ends (subst (IsWithout 13) (sym is) (All-drop (λ b. (b == 13) ≡ false) taken piece out));
      }),
    )

-- or the line is bad with them
pub takes_none : (text piece now slice : List ℕ) (taken : ℕ) → slice ≡ drop taken piece → HasTaken text piece now taken → SpellsBad script_lines (now ++ slice) → SpellsBad script_lines (text ++ piece)
takes_none text piece now slice taken is (inl none) bad =
    let whole : slice ≡ piece = is ∙ ap (λ (n : ℕ). drop n piece) none.0 in
    subst (λ (l : List ℕ). SpellsBad script_lines (text ++ l)) whole (subst (λ (l : List ℕ). SpellsBad script_lines (l ++ slice)) none.1 bad)
takes_none text piece now slice taken is (inr before) bad = λ more.
    ap (λ (l : List ℕ). script_lines.spelled ((text ++ l) ++ more)) (sym (take-append-drop taken piece))
    ∙ ap (λ (l : List ℕ). script_lines.spelled (l ++ more)) (sym (append_assoc text (take taken piece) (drop taken piece)))
    ∙ ap (λ (l : List ℕ). script_lines.spelled l) (append_assoc (text ++ take taken piece) (drop taken piece) more)
    ∙ before.spells (drop taken piece ++ more)
    ∙ ap (λ (l : List ℕ). script_lines.spelled l) (sym (append_assoc now (drop taken piece) more))
    ∙ ap (λ (l : List ℕ). script_lines.spelled ((now ++ l) ++ more)) (sym is)
    ∙ bad more

-- all bytes of a piece were taken
pub takes_all : (text piece text' : List ℕ) (taken : ℕ) → 0 < length piece → length piece ≤ taken → HasTaken text piece text' taken → TakesText script_lines text piece text' taken
takes_all text piece text' taken some_bytes all (inl none) = absurd (omega (arith, none.0))
takes_all text piece text' taken some_bytes all (inr t) = t

-- ---- words

-- letters come to those of a command
pub letters_come : (word word' piece : List ℕ) (count : ℕ) → 0 < count → count ≤ length piece → word' ≡ word ++ take count piece → All IsLetter word' → Takes script_lines word piece word' (Some count)
letters_come word word' piece count some_bytes within is letters =
    let plain = letters_plain word' letters in
    let front = length-take-le count piece within in
    record {
      some = some_bytes;
      within = within;
      longer = ap (λ (l : List ℕ). length l) is ∙ length-append word (take count piece) ∙ ap (λ (n : ℕ). length word + n) front;
      spells = λ more. ap (λ (l : List ℕ). script_lines.spelled (l ++ more)) (sym is);
      is_text = record { no_feed = plain.no_feed; no_mark = plain.no_mark };
      ends = λ _. strip-plain word' plain.no_return;
    }

-- one letter more
pub letter_more : (old piece word word' : List ℕ) (count : ℕ) → count < length piece → word ≡ old ++ take count piece → word' ≡ word ++ slice_index piece count ∷ []
    → word' ≡ old ++ take (count + 1) piece
letter_more old piece word word' count within is pushed =
    pushed
    ∙ ap (λ (l : List ℕ). l ++ slice_index piece count ∷ []) is
    ∙ append_assoc old (take count piece) (slice_index piece count ∷ [])
    ∙ ap (λ (l : List ℕ). old ++ l) (sym (take_more piece count 0 within))

-- where a word stops inside a piece
word_cut : (word word' piece : List ℕ) (count : ℕ) → count < length piece → word' ≡ word ++ take count piece → word ++ piece ≡ word' ++ slice_index piece count ∷ drop (count + 1) piece
word_cut word word' piece count within is =
    ap (λ (l : List ℕ). word ++ l) (sym (take-append-drop count piece))
    ∙ sym (append_assoc word (take count piece) (drop count piece))
    ∙ ap (λ (l : List ℕ). l ++ drop count piece) (sym is)
    ∙ ap (λ (l : List ℕ). word' ++ l) (drop_more piece count 0 within)

letter_stops : (word word' piece : List ℕ) (count : ℕ) → count < length piece → word' ≡ word ++ take count piece → AsksNothing (word' ++ slice_index piece count ∷ []) → SpellsBad script_lines (word ++ piece)
letter_stops word word' piece count within is none =
    subst (λ (l : List ℕ). SpellsBad script_lines l) (sym (word_cut word word' piece count within is)) (bad_behind word' (drop (count + 1) piece) (slice_index piece count) none)

-- a byte that is no letter, or for which there is no room
pub word_ends : (word word' piece : List ℕ) (count : ℕ) → count < length piece → word' ≡ word ++ take count piece → All IsLetter word'
    → (count < length piece → (IsLetter (slice_index piece count) → ⊥) ⊎ (12 ≤ length word')) → slice_index piece count ≢ 32 → SpellsBad script_lines (word ++ piece)
word_ends word word' piece count within is letters stops other =
    letter_stops word word' piece count within is (word_stops word' (slice_index piece count) letters other (stops within))

-- a space behind what is no command with fields
pub unknown_ends : (word word' piece : List ℕ) (count : ℕ) → count < length piece → word' ≡ word ++ take count piece → slice_index piece count ≡ 32
    → AsksNothing (word' ++ 32 ∷ []) → SpellsBad script_lines (word ++ piece)
unknown_ends word word' piece count within is space asks =
    letter_stops word word' piece count within is (subst (λ (b : ℕ). AsksNothing (word' ++ b ∷ [])) (sym space) asks)

-- the space behind a command
pub space_comes : (word word' piece text : List ℕ) (count : ℕ) → count < length piece → word' ≡ word ++ take count piece → All IsLetter word' → slice_index piece count ≡ 32
    → text ≡ word' ++ 32 ∷ [] → Takes script_lines word piece text (Some (count + 1))
space_comes word word' piece text count within is letters space behind =
    let same : word ++ take (count + 1) piece ≡ text = sym (letter_more word piece word' text count within is (behind ∙ ap (λ (b : ℕ). word' ++ b ∷ []) (sym space))) in
    let plain : IsPlain text = subst IsPlain (sym behind) (command_plain word' letters) in
    let front = length-take-le (count + 1) piece (omega arith) in
    record {
      some = omega arith;
      within = omega arith;
      longer = ap (λ (l : List ℕ). length l) (sym same) ∙ length-append word (take (count + 1) piece) ∙ ap (λ (n : ℕ). length word + n) front;
      spells = λ more. ap (λ (l : List ℕ). script_lines.spelled (l ++ more)) same;
      is_text = record { no_feed = plain.no_feed; no_mark = plain.no_mark };
      ends = λ _. strip-plain text plain.no_return;
    }
