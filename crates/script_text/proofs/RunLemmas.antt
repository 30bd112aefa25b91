-- A run of a number's digits, and the space that ends it.
use Rattle.std.proofs.Common.{◌≡◌, ◌∙◌, ℕ, suc, ◌+◌, ◌-◌, ◌^◌, ◌<◌, ◌≤◌, List, [], ◌∷◌, ◌++◌, length, take, drop, slice_index, Option, Some, None, true, sym, ap, subst, arith, length-append}
use Rattle.std.specs.Option.{IfSome}
use Rattle.std.specs.Fmt.{decimal}
use Rattle.std.specs.Char.{is_ascii_digit}
use Rattle.std.proofs.lemmas.List.{length-take-le, take_more}
use Rattle.request_form.specs.declared.operation.Operation.{Operation}
use Rattle.script_text.specs.Decoded.{AsksAs, digits_of, fields_text, IsDecoded, EndsNumber, TakesRun, TakesNumber}
use Rattle.script_text.specs.declared.fields.Part.{Part}
use Rattle.script_text.specs.declared.fields.Part.TheVariants.{Number}
use Rattle.script_text.proofs.NumberLemmas.{one_digit}
use Rattle.items.proofs.Texts.{tail_is}
use Rattle.script_text.proofs.DecodedLemmas.{same_asks, text_grows, ends_number}
use Rattle.script_text.proofs.PairLemmas.{asks_after}

-- digits have come
pub digits_come : (operation : Operation) (ns piece : List ℕ) (n n' : Option ℕ) (count : ℕ) → IsDecoded operation ns (Number n) [] → IfSome n' (λ m. m < 2 ^ 64) → count ≤ length piece
    → digits_of n ++ take count piece ≡ digits_of n' → TakesNumber operation ns n piece ns (Number n') count
digits_come operation ns piece n n' count d fits within e =
    let text : List ℕ = fields_text operation ns (Number n) [] in
    let text' : List ℕ = fields_text operation ns (Number n') [] in
    let same : text ++ take count piece ≡ text' = text_grows operation ns (Number n) (Number n') [] [] (take count piece) e in
    record {
      run = record {
        within = within;
        asks = same_asks (text ++ take count piece) text' same;
        longer = ap (λ (l : List ℕ). length l) (sym same) ∙ length-append text (take count piece) ∙ ap (λ (m : ℕ). length text + m) (length-take-le count piece within);
      };
      decoded = record { worded = d.worded; numbers_fit = d.numbers_fit; bytes_fit = d.bytes_fit; part_fits = (d.part_fits.0, fits, d.part_fits.2) };
    }

-- a number's first digit, and those behind it
pub first_comes : (number n : Option ℕ) (piece : List ℕ) (d count : ℕ) → number ≡ None → 0 < length piece → is_ascii_digit (slice_index piece 0) ≡ true → d ≡ slice_index piece 0 - 48
    → decimal d ++ take count (take (length piece - 1) (drop 1 piece)) ≡ digits_of n → digits_of number ++ take (count + 1) piece ≡ digits_of n
first_comes number n [] d count none some digit is e = absurd (omega arith)
first_comes number n (b ∷ bs) d count none some digit is e =
    let next : count + 1 ≡ suc count = omega arith in
    ap (λ (m : Option ℕ). digits_of m ++ take (count + 1) (b ∷ bs)) none
    ∙ ap (λ (m : ℕ). take m (b ∷ bs)) next
    ∙ ap (λ (l : List ℕ). b ∷ take count l) (sym (tail_is (b ∷ bs) 1 (omega arith)))
    ∙ ap (λ (l : List ℕ). l ++ take count (take (length (b ∷ bs) - 1) (drop 1 (b ∷ bs)))) (one_digit b digit ∙ ap (λ (m : ℕ). decimal m) (sym is))
    ∙ e

-- and the space behind them
pub number_closes : (operation : Operation) (ns piece ns' : List ℕ) (n n' : Option ℕ) (part' : Part) (count : ℕ) → TakesNumber operation ns n piece ns (Number n') count → count < length piece
    → slice_index piece count ≡ 32 → EndsNumber operation ns n' ns' (Some part') → TakesNumber operation ns n piece ns' part' (count + 1)
number_closes operation ns piece ns' n n' part' count t within is e =
    let text : List ℕ = fields_text operation ns (Number n) [] in
    let text' : List ℕ = fields_text operation ns' part' [] in
    let adds = ends_number operation ns [] n' ns' (Some part') t.decoded e in
    let longer = t.run.longer in
    let one_more = adds.2 in
    let front : take (count + 1) piece ≡ take count piece ++ 32 ∷ [] = take_more piece count 0 within ∙ ap (λ (b : ℕ). take count piece ++ b ∷ []) is in
    record {
      run = record {
        within = omega arith;
        asks = subst (λ (l : List ℕ). AsksAs (text ++ l) text') (sym front) (asks_after text (take count piece) (fields_text operation ns (Number n') []) (32 ∷ []) text' t.run.asks adds.0);
        longer = omega arith;
      };
      decoded = adds.1;
    }

stays : (operation : Operation) (ns ns' : List ℕ) (n : Option ℕ) → EndsNumber operation ns n ns' None → ns' ≡ ns
stays operation ns ns' (Some n) e = e.2
stays operation ns ns' None e = e.1

-- where no field may follow, only the digits have come
pub number_stays : (operation : Operation) (ns piece ns' : List ℕ) (n n' : Option ℕ) (count : ℕ) → TakesNumber operation ns n piece ns (Number n') count → EndsNumber operation ns n' ns' None
    → TakesNumber operation ns n piece ns' (Number n') count
number_stays operation ns piece ns' n n' count t e = subst (λ (l : List ℕ). TakesNumber operation ns n piece l (Number n') count) (sym (stays operation ns ns' n' e)) t

-- before its bytes an operation has none
pub number_taken : (operation : Operation) (ns : List ℕ) (part : Part) (bytes piece ns' : List ℕ) (n : Option ℕ) (part' : Part) (count : ℕ) → part ≡ Number n → IsDecoded operation ns part bytes
    → TakesNumber operation ns n piece ns' part' count → TakesRun (fields_text operation ns part bytes) piece (fields_text operation ns' part' bytes) count × IsDecoded operation ns' part' bytes
number_taken operation ns part bytes piece ns' n part' count e d t =
    let is = subst (λ (p : Part). IsDecoded operation ns p bytes) e d in
    let none : [] ≡ bytes = sym is.part_fits.2 in
    subst (λ (p : Part). TakesRun (fields_text operation ns p bytes) piece (fields_text operation ns' part' bytes) count × IsDecoded operation ns' part' bytes) (sym e)
    (subst (λ (l : List ℕ). TakesRun (fields_text operation ns (Number n) l) piece (fields_text operation ns' part' l) count × IsDecoded operation ns' part' l) none (t.run, t.decoded))
