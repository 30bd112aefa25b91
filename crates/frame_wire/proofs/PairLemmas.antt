-- Pairs of numbers as fields, and what they ask for.
use Rattle.std.proofs.Common.{◌≡◌, ◌∙◌, ℕ, zero, suc, ◌+◌, ◌-◌, ◌*◌, ◌/◌, ◌%◌, ◌^◌, ◌<◌, ◌≤◌, ◌==◌, ◌&&◌, nat_le, Bool, cond, true, false, List, [], ◌∷◌, ◌++◌, length, drop, Option, Some, None, refl, sym, ap, subst, arith, rules, append_assoc, append-nil, length-append}
use Rattle.std.specs.List.{All}
use Rattle.std.proofs.lemmas.List.{drop_at}
use Rattle.std.proofs.lemmas.List.Elements.{All-head, All-tail}
use Rattle.std.proofs.lemmas.Bool.{and_parts}
use Rattle.std.proofs.lemmas.Bool.Decides.{nat_tests}
use Rattle.byteorder.specs.Endian.{big_number}
use Rattle.request_form.specs.declared.form.Request.TheVariants.{ReadMany}
use Rattle.request_form.specs.declared.operation.Operation.{Operation}
use Rattle.request_form.specs.Operations.{number_of, since_of, numbers_of, has_ranges, IsSince, request_with}
use Rattle.frame_wire.specs.Requests.{number_at, numbers_in, pairs_of, holds_ranges, fits, made, request_of}
use Rattle.frame_wire.specs.Said.{field, pair_fields}
use Rattle.frame_wire.specs.Decoded.{IsSmallPair, pairs_fit, IsPaired}
use Rattle.frame_wire.proofs.RequestLemmas.{field-length, field-number, known, made_plain}

pub pair_fields-length : (ps : List (ℕ × ℕ)) → length (pair_fields ps) ≡ 16 * length ps
pair_fields-length [] = refl
pair_fields-length (p ∷ ps) =
    let l = length-append (field p.0 ++ field p.1) (pair_fields ps) in
    let k = length-append (field p.0) (field p.1) in
    let a = field-length p.0 in
    let b = field-length p.1 in
    let on = pair_fields-length ps in
    omega arith

abbrev pub AllSmallPairs : List (ℕ × ℕ) → Type 0
AllSmallPairs ps = All IsSmallPair ps

small_first : (p : ℕ × ℕ) (ps : List (ℕ × ℕ)) → AllSmallPairs (p ∷ ps) → IsSmallPair p
small_first p ps h = All-head IsSmallPair p ps h

small_others : (p : ℕ × ℕ) (ps : List (ℕ × ℕ)) → AllSmallPairs (p ∷ ps) → AllSmallPairs ps
small_others p ps h = All-tail IsSmallPair p ps h

module _ (p : ℕ × ℕ) (rest : List ℕ) where
  first_at : p.0 < 2 ^ 64 → number_at 0 ((field p.0 ++ field p.1) ++ rest) ≡ p.0
  first_at small = ap (λ (l : List ℕ). big_number 8 l) (append_assoc (field p.0) (field p.1) rest) ∙ field-number p.0 (field p.1 ++ rest) small

  behind_first : drop 8 ((field p.0 ++ field p.1) ++ rest) ≡ field p.1 ++ rest
  behind_first =
      let eight : 8 ≡ length (field p.0) = sym (field-length p.0) in
      ap (λ (l : List ℕ). drop 8 l) (append_assoc (field p.0) (field p.1) rest) ∙ ap (λ (n : ℕ). drop n (field p.0 ++ (field p.1 ++ rest))) eight ∙ drop_at (field p.0) (field p.1 ++ rest) (length (field p.0)) refl

  second_at : p.1 < 2 ^ 64 → number_at 8 ((field p.0 ++ field p.1) ++ rest) ≡ p.1
  second_at small = ap (λ (l : List ℕ). big_number 8 l) behind_first ∙ field-number p.1 rest small

  behind_pair : drop 16 ((field p.0 ++ field p.1) ++ rest) ≡ rest
  behind_pair =
      let k = length-append (field p.0) (field p.1) in
      let a = field-length p.0 in
      let b = field-length p.1 in
      drop_at (field p.0 ++ field p.1) rest 16 (omega arith)

pub pairs_back : (ps : List (ℕ × ℕ)) (count : ℕ) → count ≡ length ps → AllSmallPairs ps → pairs_of count (pair_fields ps) ≡ ps
pairs_back [] zero e small = refl
pairs_back [] (suc count) e small = absurd (omega arith)
pairs_back (p ∷ ps) zero e small = absurd (omega arith)
pairs_back (p ∷ ps) (suc count) e small =
    let fits = small_first p ps small in
    rw (first_at p (pair_fields ps) fits.0, second_at p (pair_fields ps) fits.1, behind_pair p (pair_fields ps)) (ap (λ (l : List (ℕ × ℕ)). p ∷ l) (pairs_back ps count (omega arith) (small_others p ps small)))

-- ---- so many bytes

is_equal : (n m : ℕ) → (n == m) ≡ true → n ≡ m
is_equal n m h = grind (arith, nat_tests, h)

is_at_most : (n m : ℕ) → nat_le n m ≡ true → n ≤ m
is_at_most n m h = grind (arith, nat_tests, h)

range_bounds : (count : ℕ) → holds_ranges count ≡ true → (count % 16 ≡ 0) × (32 ≤ count) × (count ≤ 1040)
range_bounds count h =
    let whole = and_parts (count % 16 == 0) (nat_le 32 count && nat_le count 1040) h in
    let range = and_parts (nat_le 32 count) (nat_le count 1040) whole.1 in
    (is_equal (count % 16) 0 whole.0, is_at_most 32 count range.0, is_at_most count 1040 range.1)

-- they are whole pairs, and at least one
pub fit_pairs : (ranges : Bool) (count : ℕ) → pairs_fit ranges count ≡ true → (count % 16 ≡ 0) × (16 ≤ count)
fit_pairs true count h = let bounds = range_bounds count h in (bounds.0, omega (arith, bounds.1))
fit_pairs false count h = let same = is_equal count 16 h in (omega arith, omega arith)

-- ---- the operations that frames have since version 2

pub second_is : (operation : Operation) → IsSince (since_of operation) 2 → (IsSince (since_of operation) 1 → ⊥) → since_of operation ≡ Some 2
second_is operation later first = search rules

second_numbers : (operation : Operation) → since_of operation ≡ Some 2 → numbers_of operation ≡ 2
second_numbers operation second = search rules

pub second_fits : (operation : Operation) (n : ℕ) → since_of operation ≡ Some 2 → fits operation n ≡ pairs_fit (has_ranges operation) n
second_fits operation n second = search rules

second_since : (operation : Operation) → since_of operation ≡ Some 2 → IsSince (since_of operation) 2
second_since operation second = search rules

-- ---- what was decoded, once nothing more is to come

no_bytes : (l : List ℕ) → length l ≡ 0 → l ≡ []
no_bytes [] h = refl
no_bytes (b ∷ bs) h = absurd (omega arith)

no_pairs : (l : List (ℕ × ℕ)) → length l ≡ 0 → l ≡ []
no_pairs [] h = refl
no_pairs (p ∷ ps) h = absurd (omega arith)

module _ (operation : Operation) (target : Option (ℕ × ℕ)) (ranges : List (ℕ × ℕ)) (part : List ℕ) (left : ℕ) (none : left ≡ 0) (d : IsPaired operation target ranges part left) where
  pub whole_pairs : part ≡ []
  whole_pairs =
      let fit = fit_pairs (has_ranges operation) _ d.fits in
      let few = d.part_fits in
      no_bytes part (omega (arith, fit.0))

module _ (operation : Operation) (target : ℕ × ℕ) (ranges : List (ℕ × ℕ)) (part : List ℕ) (left : ℕ) (none : left ≡ 0) (d : IsPaired operation (Some target) ranges part left) where
  count_is : 16 * length (target ∷ ranges) + length part + left ≡ 16 * length (target ∷ ranges)
  count_is = let empty : length part ≡ 0 = ap (λ (l : List ℕ). length l) (whole_pairs operation (Some target) ranges part left none d) in omega arith

  -- what they ask for, by what is made of them
  second_asks : request_of 2 (number_of operation ∷ (pair_fields (target ∷ ranges) ++ part)) ≡ made operation (pair_fields (target ∷ ranges))
  second_asks =
      let all : List ℕ = pair_fields (target ∷ ranges) in
      let no_part = whole_pairs operation (Some target) ranges part left none d in
      let fit : fits operation (length all) ≡ true =
      second_fits operation (length all) d.second ∙ ap (λ (n : ℕ). pairs_fit (has_ranges operation) n) (pair_fields-length (target ∷ ranges) ∙ sym count_is) ∙ d.fits in
      ap (λ (l : List ℕ). request_of 2 (number_of operation ∷ l)) (ap (λ (l : List ℕ). all ++ l) no_part ∙ append-nil all)
      ∙ known operation 2 all (second_since operation d.second)
      ∙ ap (λ (b : Bool). cond b (made operation all) None) fit

  pub ranges_asked : has_ranges operation ≡ true → request_of 2 (number_of operation ∷ (pair_fields (target ∷ ranges) ++ part)) ≡ Some (ReadMany target.0 target.1 ranges)
  ranges_asked has =
      let all : List ℕ = pair_fields (target ∷ ranges) in
      let l = pair_fields-length (target ∷ ranges) in
      let small = small_first target ranges d.numbers_fit in
      let count : length all / 16 - 1 ≡ length ranges = omega arith in
      second_asks
      ∙ rw (
        has,
        count,
        first_at target (pair_fields ranges) small.0,
        second_at target (pair_fields ranges) small.1,
        behind_pair target (pair_fields ranges),
        pairs_back ranges (length ranges) refl (small_others target ranges d.numbers_fit),
      ) refl

  pub numbers_asked : has_ranges operation ≡ false → request_of 2 (number_of operation ∷ (pair_fields (target ∷ ranges) ++ part)) ≡ request_with operation (target.0 ∷ target.1 ∷ []) []
  numbers_asked has =
      let all : List ℕ = pair_fields (target ∷ []) in
      let small = small_first target ranges d.numbers_fit in
      let whole = is_equal (16 * length (target ∷ ranges)) 16 (ap (λ (b : Bool). pairs_fit b (16 * length (target ∷ ranges))) (sym has) ∙ ap (λ (n : ℕ). pairs_fit (has_ranges operation) n) (sym count_is) ∙ d.fits) in
      second_asks
      ∙ ap (λ (l : List (ℕ × ℕ)). made operation (pair_fields (target ∷ l))) (no_pairs ranges (omega arith))
      ∙ made_plain operation all has
      ∙ ap (λ (n : ℕ). request_with operation (numbers_in n all) (drop (8 * n) all)) (second_numbers operation d.second)
      ∙ ap (λ (n : ℕ). request_with operation (n ∷ number_at 8 all ∷ []) (drop 16 all)) (first_at target [] small.0)
      ∙ ap (λ (n : ℕ). request_with operation (target.0 ∷ n ∷ []) (drop 16 all)) (second_at target [] small.1)
      ∙ ap (λ (l : List ℕ). request_with operation (target.0 ∷ target.1 ∷ []) l) (behind_pair target [])

pub target_is : (operation : Operation) (target target' : Option (ℕ × ℕ)) (ranges : List (ℕ × ℕ)) (part : List ℕ) (left : ℕ) → target ≡ target' → IsPaired operation target ranges part left → IsPaired operation target' ranges part left
target_is operation target target' ranges part left e d = subst (λ (t : Option (ℕ × ℕ)). IsPaired operation t ranges part left) e d
