-- What a stream says, taken apart at its line feeds.
use Rattle.std.proofs.Common.{◌≡◌, ℕ, ◌==◌, Bool, true, false, cond, List, [], ◌∷◌, ◌++◌, Option, refl, sym, ap, ◌∙◌}
use Rattle.std.specs.Option.{option_to_list}
use Rattle.std.specs.List.{slice_split, onto_first}
use Rattle.std.proofs.lemmas.List.Elements.{All-head, All-tail}
use Rattle.std.proofs.lemmas.List.Splits.{slice_split-cons_no, slice_split_at, slice_split_none}
use Rattle.items.specs.Items.{ItemStream}
use Rattle.items.specs.Lines.{Lining, item_of, with_item, stream_of, lined}
use Rattle.items.specs.Text.{IsWithout}
use Rattle.items.specs.BegunLine.{GoesOnAs}

-- a list in front of the first of some parts
abbrev onto : List ℕ → List (List ℕ) → List (List ℕ)
onto [] parts = parts
onto (x ∷ xs) parts = onto_first x (onto xs parts)

onto-cons : (xs part : List ℕ) (parts : List (List ℕ)) → onto xs (part ∷ parts) ≡ (xs ++ part) ∷ parts
onto-cons [] part parts = refl
onto-cons (x ∷ xs) part parts = ap (λ (ps : List (List ℕ)). onto_first x ps) (onto-cons xs part parts)

slice_split-append : (c : ℕ) (xs more : List ℕ) → IsWithout c xs → slice_split (λ b. b == c) (xs ++ more) ≡ onto xs (slice_split (λ b. b == c) more)
slice_split-append c [] more h = refl
slice_split-append c (x ∷ xs) more h =
    slice_split-cons_no (λ b. b == c) x (xs ++ more) (All-head (λ b. (b == c) ≡ false) x xs h)
    ∙ ap (λ (ps : List (List ℕ)). onto_first x ps) (slice_split-append c xs more (All-tail (λ b. (b == c) ≡ false) x xs h))

-- there is a first part
pub record HasFirst (parts : List (List ℕ)) : Type 0 where
  pub first : List ℕ
  pub others : List (List ℕ)
  pub is : parts ≡ first ∷ others

onto_first_has : (x : ℕ) (parts : List (List ℕ)) → HasFirst (onto_first x parts)
onto_first_has x [] = record { first = x ∷ []; others = []; is = refl }
onto_first_has x (part ∷ parts) = record { first = x ∷ part; others = parts; is = refl }

cond_has : (b : Bool) (ps qs : List (List ℕ)) → HasFirst ps → HasFirst qs → HasFirst (cond b ps qs)
cond_has true ps qs p q = p
cond_has false ps qs p q = q

pub slice_split_has : (c : ℕ) (bytes : List ℕ) → HasFirst (slice_split (λ b. b == c) bytes)
slice_split_has c [] = record { first = []; others = []; is = refl }
slice_split_has c (b ∷ bytes) =
    cond_has (b == c) ([] ∷ slice_split (λ b. b == c) bytes) (onto_first b (slice_split (λ b. b == c) bytes))
    (record { first = []; others = slice_split (λ b. b == c) bytes; is = refl }) (onto_first_has b (slice_split (λ b. b == c) bytes))

-- bytes without the separator belong to the first part
pub split_behind : (c : ℕ) (xs more : List ℕ) (h : HasFirst (slice_split (λ b. b == c) more)) → IsWithout c xs → slice_split (λ b. b == c) (xs ++ more) ≡ (xs ++ h.first) ∷ h.others
split_behind c xs more h without =
    slice_split-append c xs more without ∙ (ap (λ (ls : List (List ℕ)). onto xs ls) h.is ∙ onto-cons xs h.first h.others)

stream_of-same : {A : Type 0} (f : Lining A) (line other : List ℕ) (lines : List (List ℕ)) → item_of f line ≡ item_of f other → stream_of f (line ∷ lines) ≡ stream_of f (other ∷ lines)
stream_of-same {A = A} f line other [] e =
    ap (λ (i : Option A). let s : ItemStream A = record { items = option_to_list i; whole = []; cut = false } in s) e
stream_of-same {A = A} f line other (next ∷ more) e = ap (λ (i : Option A). with_item i (stream_of f (next ∷ more))) e

stream_of-cons : {A : Type 0} (f : Lining A) (line : List ℕ) (lines : List (List ℕ)) → HasFirst lines → stream_of f (line ∷ lines) ≡ with_item (item_of f line) (stream_of f lines)
stream_of-cons f line lines h =
    ap (λ (ls : List (List ℕ)). stream_of f (line ∷ ls)) h.is ∙ ap (λ (ls : List (List ℕ)). with_item (item_of f line) (stream_of f ls)) (sym h.is)

lined-append : {A : Type 0} (f : Lining A) (xs more : List ℕ) (h : HasFirst (slice_split (λ b. b == 10) more)) → IsWithout 10 xs → lined f (xs ++ more) ≡ stream_of f ((xs ++ h.first) ∷ h.others)
lined-append f xs more h without = ap (λ (ls : List (List ℕ)). stream_of f ls) (split_behind 10 xs more h without)

-- A line may begin otherwise, where however it goes on its item is the same.
pub goes_on : {A : Type 0} (f : Lining A) (xs ys : List ℕ) → IsWithout 10 xs → IsWithout 10 ys → ((zs : List ℕ) → item_of f (xs ++ zs) ≡ item_of f (ys ++ zs)) → GoesOnAs f xs ys
goes_on f xs ys xs_without ys_without same more =
    let h = slice_split_has 10 more in
    lined-append f xs more h xs_without ∙ (stream_of-same f (xs ++ h.first) (ys ++ h.first) h.others (same h.first) ∙ sym (lined-append f ys more h ys_without))

-- a line and its line feed in front of a stream
pub lined_line : {A : Type 0} (f : Lining A) (line bytes : List ℕ) → IsWithout 10 line → lined f (line ++ 10 ∷ bytes) ≡ with_item (item_of f line) (lined f bytes)
lined_line f line bytes without =
    ap (λ (ls : List (List ℕ)). stream_of f ls) (slice_split_at (λ b. b == 10) line 10 bytes without refl)
    ∙ stream_of-cons f line (slice_split (λ b. b == 10) bytes) (slice_split_has 10 bytes)

-- a line that no line feed ends
pub lined_last : {A : Type 0} (f : Lining A) (line : List ℕ) → IsWithout 10 line → lined f line ≡ record { items = option_to_list (item_of f line); whole = []; cut = false }
lined_last f line without = ap (λ (ls : List (List ℕ)). stream_of f ls) (slice_split_none (λ b. b == 10) line without)
