-- The pages of an update, one after another.
use Rattle.std.proofs.Common.{◌≡◌, ℕ, ◌+◌, ◌<◌, ◌≤◌, List, [], ◌∷◌, ◌++◌, length, drop, get_or, arith, refl, ap, sym, ◌∙◌, append_assoc, append-nil}
use Rattle.std.specs.Prelude.{◌==◌, false, Some, None}
use Rattle.std.proofs.lemmas.List.{drop_more, length-drop}
use Rattle.std.proofs.Math.ListN.{drop_of_length-le}
use Rattle.blob_core.specs.World.{IsKnown, page_at, bytes_of_page, bytes_of_pages, AreCut}
use Rattle.blob_core.proofs.Lists.{none_some, bytes_are}

-- what is left of the pages may be the end of an update's pages
abbrev pub RestCut : ℕ → List (ℕ × List ℕ) → List ℕ → Type 0
RestCut p stored [] = Unit {0}
RestCut p stored (n ∷ ns) = AreCut p stored (n ∷ ns)

-- the bytes so far are those of the pages before i
pub record JoinedUpTo (p : ℕ) (stored : List (ℕ × List ℕ)) (numbers : List ℕ) (i : ℕ) (bytes : List ℕ) : Type 0 where
  pub some : 1 ≤ length numbers
  pub on : AreCut p stored numbers → RestCut p stored (drop i numbers)
  pub back : RestCut p stored (drop i numbers) → AreCut p stored numbers
  pub rest : bytes ++ bytes_of_pages stored (drop i numbers) ≡ bytes_of_pages stored numbers

cut_known : (p : ℕ) (s : List (ℕ × List ℕ)) (n : ℕ) (ns : List ℕ) → RestCut p s (n ∷ ns) → IsKnown (page_at s n)
cut_known p s n [] cut = cut
cut_known p s n (m ∷ ns) cut = cut.0

cut_on : (p : ℕ) (s : List (ℕ × List ℕ)) (n : ℕ) (ns : List ℕ) → RestCut p s (n ∷ ns) → RestCut p s ns
cut_on p s n [] cut = tt
cut_on p s n (m ∷ ns) cut = cut.2

cut_back : (p : ℕ) (s : List (ℕ × List ℕ)) (n : ℕ) (ns : List ℕ) → IsKnown (page_at s n) → (1 ≤ length ns → length (bytes_of_page s n) ≡ p) → RestCut p s ns → RestCut p s (n ∷ ns)
cut_back p s n [] known whole rest = known
cut_back p s n (m ∷ ns) known whole rest = (known, whole (omega arith), rest)

pub joined_start : (p : ℕ) (s : List (ℕ × List ℕ)) (ns : List ℕ) → (length ns == 0) ≡ false → JoinedUpTo p s ns 0 []
joined_start p s [] some = (let no : ⊥ = cc in absurd no)
joined_start p s (n ∷ ns) test = (let some : 1 ≤ length (n ∷ ns) = omega arith in record { some = some; on = λ cut. cut; back = λ cut. cut; rest = refl })

-- a page that isn't there is in no update
pub not_there : (p : ℕ) (s : List (ℕ × List ℕ)) (ns : List ℕ) (i : ℕ) (b : List ℕ) → JoinedUpTo p s ns i b → i < length ns → page_at s (get_or ns i 0) ≡ None → ¬ AreCut p s ns
not_there p s ns i b upto lt none cut =
    let (bytes, known) = cut_known p s (get_or ns i 0) (drop (i + 1) ns) (rw (drop_more ns i 0 lt) at (upto.on cut)) in
    none_some (page_at s (get_or ns i 0)) bytes none known

pub joined_next : (p : ℕ) (s : List (ℕ × List ℕ)) (ns : List ℕ) (i : ℕ) (b page : List ℕ) → JoinedUpTo p s ns i b → i < length ns → page_at s (get_or ns i 0) ≡ Some page
    → (i + 1 < length ns → length page ≡ p) → JoinedUpTo p s ns (i + 1) (b ++ page)
joined_next p s ns i b page upto lt known whole =
    let n : ℕ = get_or ns i 0 in
    let rest : List ℕ = drop (i + 1) ns in
    let e : drop i ns ≡ n ∷ rest = drop_more ns i 0 lt in
    let is : bytes_of_page s n ≡ page = bytes_are s n page known in
    record {
      some = upto.some;
      on = λ cut. cut_on p s n rest (rw e at (upto.on cut));
      back = λ cut. upto.back (rw e (cut_back p s n rest (page, known) (λ some. ap length is ∙ whole (omega (arith, some, length-drop (i + 1) ns))) cut));
      rest = append_assoc b page (bytes_of_pages s rest) ∙ ap (λ (x : List ℕ). b ++ (x ++ bytes_of_pages s rest)) (sym is) ∙ ap (λ (l : List ℕ). b ++ bytes_of_pages s l) (sym e) ∙ upto.rest;
    }

pub joined_end : (p : ℕ) (s : List (ℕ × List ℕ)) (ns : List ℕ) (i : ℕ) (b : List ℕ) → JoinedUpTo p s ns i b → length ns ≤ i → AreCut p s ns × (b ≡ bytes_of_pages s ns)
joined_end p s ns i b upto le =
    let none : drop i ns ≡ [] = drop_of_length-le ns le in
    (upto.back (rw none tt), sym (append-nil b) ∙ ap (λ (l : List ℕ). b ++ bytes_of_pages s l) (sym none) ∙ upto.rest)
