-- The puts of pages, one page at a time.
use Rattle.std.proofs.Common.{◌≡◌, ℕ, ◌+◌, ◌*◌, ◌<◌, ◌≤◌, List, [], ◌∷◌, ◌++◌, length, length-take, get_or, take, arith, ap, sym, ◌∙◌, append-nil, append_assoc, inl, inr}
use Rattle.std.proofs.lemmas.Bool.{cases_lt}
use Rattle.std.proofs.lemmas.List.{map-append, take_more}
use Rattle.page_fan.specs.declared.stand.Put.{Put}
use Rattle.page_fan.specs.Listed.{HasPages, puts_at, puts_from}

-- one provider more
pub puts_at_next : (at : ℕ) (chosen : List ℕ) (i : ℕ) (provider : ℕ) → i < length chosen → get_or chosen i provider ≡ provider
    → puts_at at (take (i + 1) chosen) ≡ puts_at at (take i chosen) ++ record { provider = provider; at = at } ∷ []
puts_at_next at chosen i provider l is =
    let put : ℕ → Put = λ q. record { provider = q; at = at } in
    rw (take_more chosen i provider l, is) (map-append put (take i chosen) (provider ∷ []))

-- one page more
pub puts_from_last : (page_size page : ℕ) (placements : List (List ℕ)) (chosen : List ℕ)
    → puts_from page_size page (placements ++ chosen ∷ []) ≡ puts_from page_size page placements ++ puts_at ((page + length placements) * page_size) chosen
puts_from_last page_size page [] chosen =
    let here : page + 0 ≡ page = omega arith in
    rw here (append-nil (puts_at (page * page_size) chosen))
puts_from_last page_size page (first ∷ rest) chosen =
    let n : page + length (first ∷ rest) ≡ (page + 1) + length rest = omega arith in
    rw n (ap (λ ps. puts_at (page * page_size) first ++ ps) (puts_from_last page_size (page + 1) rest chosen)
    ∙ sym (append_assoc (puts_at (page * page_size) first) (puts_from page_size (page + 1) rest) (puts_at (((page + 1) + length rest) * page_size) chosen)))

-- one page more of those from the first one on
pub puts_from_next : (page_size : ℕ) (placements : List (List ℕ)) (i at : ℕ) (chosen : List ℕ) → i < length placements → get_or placements i [] ≡ chosen → at ≡ i * page_size
    → puts_from page_size 0 (take (i + 1) placements) ≡ puts_from page_size 0 (take i placements) ++ puts_at at chosen
puts_from_next page_size placements i at chosen l is start =
    let number : 0 + length (take i placements) ≡ i = omega (arith, length-take i placements, l) in
    let here : puts_at ((0 + length (take i placements)) * page_size) (get_or placements i []) ≡ puts_at at chosen =
    ap (λ n. puts_at (n * page_size) (get_or placements i [])) number ∙ (ap (λ ps. puts_at (i * page_size) ps) is ∙ ap (λ n. puts_at n chosen) (sym start)) in
    ap (λ ps. puts_from page_size 0 ps) (take_more placements i [] l)
    ∙ (puts_from_last page_size 0 (take i placements) (get_or placements i []) ∙ ap (λ ps. puts_from page_size 0 (take i placements) ++ ps) here)

-- a buffer is cut in one way
pub one_cut : (page_size bytes m n : ℕ) → HasPages page_size bytes m → HasPages page_size bytes n → m ≤ n
one_cut page_size bytes m n a b = elim (cases_lt n m) [
  | inr le ↦ omega (arith, le)
  | inl more ↦ let begun : n * page_size < bytes = a.within n more in absurd (omega (arith, begun, b.whole))
]
