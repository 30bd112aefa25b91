-- The trays of all doors, where one door is asked.
use Rattle.std.proofs.Common.{◌≡◌, ◌≢◌, ℕ, ◌+◌, ◌-◌, ◌<◌, ◌≤◌, List, [], ◌∷◌, length, map, get_or, set, arith, length-set, sym, ap, ◌∙◌, subst, inl, inr}
use Rattle.std.proofs.lemmas.Bool.{cases_eq}
use Rattle.std.proofs.lemmas.List.{length-map, get_or-map, get_or-set_same, get_or-set_other, map-set}
use Rattle.page_store.specs.House.{House}
use Rattle.page_fan.specs.declared.stand.PutReply.{PutReply}
use Rattle.page_fan.specs.Groups.{HasReplies, AllReplied}

-- the door to the provider has its replies
pub one_has : {S : Type 0} (f : S → ℕ) (t : S → List PutReply) (houses : List House) (page_size : ℕ) (buffer before : List ℕ) (xs : List S) (provider : ℕ) (x : S)
    → 1 ≤ provider → provider - 1 < length xs → x ≡ get_or xs (provider - 1) x → AllReplied houses page_size buffer before (map f xs) (map t xs)
    → HasReplies houses page_size buffer provider (get_or before (provider - 1) 0) (f x) (t x)
one_has f t houses page_size buffer before xs provider x some l e all =
    let i = provider - 1 in
    let same : i + 1 ≡ provider = omega (arith, some) in
    let counts : get_or (map f xs) i 0 ≡ f x = get_or-map f xs i x 0 l ∙ ap f (sym e) in
    let trays : get_or (map t xs) i [] ≡ t x = get_or-map t xs i x [] l ∙ ap t (sym e) in
    let within : i < length (map t xs) = omega (arith, l, length-map xs t) in
    let here : HasReplies houses page_size buffer (i + 1) (get_or before i 0) (get_or (map f xs) i 0) (get_or (map t xs) i []) = all i within in
    rw (same, counts, trays) at here

all_after : (houses : List House) (page_size : ℕ) (buffer before now : List ℕ) (trays : List (List PutReply)) (i count : ℕ) (tray : List PutReply) → i < length trays → i < length now
    → HasReplies houses page_size buffer (i + 1) (get_or before i 0) count tray → AllReplied houses page_size buffer before now trays
    → AllReplied houses page_size buffer before (set now i count) (set trays i tray)
all_after houses page_size buffer before now trays i count tray l m has all = λ k w.
    elim (cases_eq k i) [
      | inl same ↦ rw (same, get_or-set_same now i count 0 m, get_or-set_same trays i tray [] l) has
      | inr differs ↦
          let apart : k ≢ i = differs in
          let within : k < length trays = omega (arith, w, length-set trays i tray) in
          rw (get_or-set_other now i k count 0 apart, get_or-set_other trays i k tray [] apart) (all k within)
    ]

-- and so have all, once it was asked
pub all_have : {S : Type 0} (f : S → ℕ) (t : S → List PutReply) (houses : List House) (page_size : ℕ) (buffer before : List ℕ) (xs : List S) (provider : ℕ) (y : S)
    → 1 ≤ provider → provider - 1 < length xs → HasReplies houses page_size buffer provider (get_or before (provider - 1) 0) (f y) (t y)
    → AllReplied houses page_size buffer before (map f xs) (map t xs) → AllReplied houses page_size buffer before (map f (set xs (provider - 1) y)) (map t (set xs (provider - 1) y))
all_have f t houses page_size buffer before xs provider y some l has all =
    let i = provider - 1 in
    let same : provider ≡ i + 1 = omega (arith, some) in
    let here : HasReplies houses page_size buffer (i + 1) (get_or before i 0) (f y) (t y) = subst (λ n. HasReplies houses page_size buffer n (get_or before (provider - 1) 0) (f y) (t y)) same has in
    rw (map-set f xs i y, map-set t xs i y) (all_after houses page_size buffer before (map f xs) (map t xs) i (f y) (t y) (omega (arith, l, length-map xs t)) (omega (arith, l, length-map xs f)) here all)

-- the count of the door that was asked
pub count_at : {S : Type 0} (f : S → ℕ) (xs : List S) (i : ℕ) (y : S) → i < length xs → get_or (map f (set xs i y)) i 0 ≡ f y
count_at f xs i y l = get_or-map f (set xs i y) i y 0 (omega (arith, l, length-set xs i y)) ∙ ap f (get_or-set_same xs i y y l)

-- all doors have their replies once the groups were put
pub groups_have : {S : Type 0} (f : S → ℕ) (t : S → List PutReply) (houses : List House) (page_size : ℕ) (buffer : List ℕ) (xs ys : List S) → length ys ≡ length xs
    → ((k : ℕ) (e : S) → k < length xs → HasReplies houses page_size buffer (k + 1) (f (get_or xs k e)) (f (get_or ys k e)) (t (get_or ys k e)))
    → AllReplied houses page_size buffer (map f xs) (map f ys) (map t ys)
groups_have f t houses page_size buffer [] ys same put = λ k w. absurd (omega (arith, w, length-map ys t, same))
groups_have f t houses page_size buffer (x ∷ rest) ys same put = λ k w.
    let xs = x ∷ rest in
    let inside : k < length xs = omega (arith, w, length-map ys t, same) in
    let there : k < length ys = omega (arith, inside, same) in
    rw (get_or-map f xs k x 0 inside, get_or-map f ys k x 0 there, get_or-map t ys k x [] there) (put k x inside)
