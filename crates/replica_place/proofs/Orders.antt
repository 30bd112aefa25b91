-- The order of the providers that `least` takes the first of.
use Rattle.std.proofs.Common.{◌≡◌, ◌≢◌, ℕ, zero, suc, ◌+◌, ◌<◌, ◌≤◌, Bool, true, false, cond, not, List, [], ◌∷◌, ◌++◌, length, take, get_or, insert, IsTrue, All, AllPairs, IsPermutation, refl, ap, sym, ◌∙◌, subst, arith}
use Rattle.std.specs.List.{position_or_len, range_with_len}
use Rattle.std.proofs.lemmas.List.{get_or-take, length-take}
use Rattle.std.proofs.lemmas.List.Edits.{length-insert}
use Rattle.std.proofs.lemmas.List.Elements.{All-nil, All-cons, All-weaker, All-take, All-from_get_or}
use Rattle.std.proofs.lemmas.List.FromFn.{length-range_with_len, get_or-range_with_len}
use Rattle.std.proofs.lemmas.List.Kept.{AllPairs-cons}
use Rattle.std.proofs.lemmas.List.Sorted.{IsPermutation-refl, IsPermutation-cons, IsPermutation-to_front, IsPermutation-insert, IsPermutation-trans, All-permutation}
use Rattle.std.proofs.lemmas.List.Sums.{prefix_len-le-length}
use Rattle.std.proofs.lemmas.Bool.Decides.{nat_tests}
use Rattle.replica_place.specs.Order.{IsProvider, load_of, comes_before, with_provider, ordered, least, IsOrder, IsLeast}

-- the position of one more provider is within those that are in order
position-le : (loads ps : List ℕ) (p : ℕ) → position_or_len (comes_before loads p) ps ≤ length ps
position-le loads ps p = prefix_len-le-length (λ q. not (comes_before loads p q)) ps

pub length-ordered : (loads : List ℕ) (n : ℕ) → length (ordered loads n) ≡ n
length-ordered loads zero = refl
length-ordered loads (suc n) =
    let ps = ordered loads n in
    let position = position_or_len (comes_before loads (suc n)) ps in
    let more : length (insert ps position (suc n)) ≡ length ps + 1 = length-insert ps position (suc n) (position-le loads ps (suc n)) in
    omega (arith, length-ordered loads n)

-- the numbers from a on, and one more
range-push : (a n : ℕ) → range_with_len a (suc n) ≡ range_with_len a n ++ (a + n) ∷ []
range-push a zero = let e : a ≡ a + 0 = omega arith in ap (λ k. k ∷ []) e
range-push a (suc n) =
    let e : (a + 1) + n ≡ a + suc n = omega arith in
    ap (λ t. a ∷ t) (range-push (a + 1) n) ∙ ap (λ k. a ∷ (range_with_len (a + 1) n ++ k ∷ [])) e

-- each of the providers from 1 to n once
pub permutes : (loads : List ℕ) (n : ℕ) → IsPermutation (range_with_len 1 n) (ordered loads n)
permutes loads zero = IsPermutation-refl []
permutes loads (suc n) =
    let ps = ordered loads n in
    let e : range_with_len 1 (suc n) ≡ range_with_len 1 n ++ suc n ∷ [] = let same : 1 + n ≡ suc n = omega arith in range-push 1 n ∙ ap (λ k. range_with_len 1 n ++ k ∷ []) same in
    let P : List ℕ → Type 0 = λ xs. IsPermutation xs (ordered loads (suc n)) in
    subst P (sym e)
    (IsPermutation-trans _ _ _ (IsPermutation-to_front (range_with_len 1 n) (suc n))
    (IsPermutation-trans _ _ _ (IsPermutation-cons (suc n) (range_with_len 1 n) ps (permutes loads n))
    (IsPermutation-insert ps (position_or_len (comes_before loads (suc n)) ps) (suc n))))

abbrev pub InRange : ℕ → ℕ → Type 0
InRange n p = (1 ≤ p) × (p ≤ n)

pub ordered-within : (loads : List ℕ) (n : ℕ) → All (InRange n) (ordered loads n)
ordered-within loads n =
    All-permutation (InRange n) (range_with_len 1 n) (ordered loads n) (permutes loads n)
    (All-from_get_or (InRange n) (range_with_len 1 n) 0 (λ i h.
    let small : i < n = omega (arith, length-range_with_len 1 n) in
    let is : get_or (range_with_len 1 n) i 0 ≡ 1 + i = get_or-range_with_len 1 n i 0 small in
    (omega arith, omega arith)))

abbrev Before : List ℕ → ℕ → ℕ → Type 0
Before loads p q = IsTrue (comes_before loads p q)

before-trans : (loads : List ℕ) (p q x : ℕ) → Before loads p q → Before loads q x → Before loads p x
before-trans loads p q x h k = grind (arith, nat_tests)

before-total : (loads : List ℕ) (p q : ℕ) → q < p → comes_before loads p q ≡ false → Before loads q p
before-total loads p q h k = grind (arith, nat_tests)

before-distinct : (loads : List ℕ) (p q : ℕ) → Before loads p q → p ≢ q
before-distinct loads p q h = grind (arith, nat_tests)

pub before-load : (loads : List ℕ) (p q : ℕ) → Before loads p q → load_of loads p ≤ load_of loads q
before-load loads p q h = grind (arith, nat_tests)

AllPairs-head : (R : ℕ → ℕ → Type 0) (x : ℕ) (xs : List ℕ) → AllPairs R (x ∷ xs) → All (R x) xs
AllPairs-head R x xs h = λ k d l. h 0 (suc k) d (omega arith) (omega arith)

AllPairs-tail : (R : ℕ → ℕ → Type 0) (x : ℕ) (xs : List ℕ) → AllPairs R (x ∷ xs) → AllPairs R xs
AllPairs-tail R x xs h = λ i j d l m. h (suc i) (suc j) d (omega arith) (omega arith)

with_provider-cons : (loads : List ℕ) (q : ℕ) (qs : List ℕ) (p : ℕ) → with_provider loads (q ∷ qs) p ≡ cond (comes_before loads p q) (p ∷ q ∷ qs) (q ∷ with_provider loads qs p)
with_provider-cons loads q qs p =
    let n = position_or_len (comes_before loads p) qs in
    let e : 1 + n ≡ suc n = omega arith in
    elim (comes_before loads p q) as (λ b. insert (q ∷ qs) (cond (not b) (1 + n) 0) p ≡ cond b (p ∷ q ∷ qs) (q ∷ insert qs n p)) [ true ↦ refl | false ↦ ap (λ k. insert (q ∷ qs) k p) e ]

with_provider-pairs : (loads : List ℕ) (q : ℕ) (qs : List ℕ) (p : ℕ) (b : Bool) → comes_before loads p q ≡ b → q < p → AllPairs (Before loads) (q ∷ qs) → AllPairs (Before loads) (with_provider loads qs p) → AllPairs (Before loads) (cond b (p ∷ q ∷ qs) (q ∷ with_provider loads qs p))
with_provider-pairs loads q qs p true e here up more =
    AllPairs-cons (Before loads) p (q ∷ qs)
    (All-cons (Before loads p) q qs e (All-weaker (Before loads q) (Before loads p) (λ x h. before-trans loads p q x e h) qs (AllPairs-head (Before loads) q qs up)))
    up
with_provider-pairs loads q qs p false e here up more =
    AllPairs-cons (Before loads) q (with_provider loads qs p)
    (All-permutation (Before loads q) (p ∷ qs) (with_provider loads qs p) (IsPermutation-insert qs (position_or_len (comes_before loads p) qs) p)
    (All-cons (Before loads q) p qs (before-total loads p q here e) (AllPairs-head (Before loads) q qs up)))
    more

AllPairs-with_provider : (loads ps : List ℕ) (p : ℕ) → All (λ q. q < p) ps → AllPairs (Before loads) ps → AllPairs (Before loads) (with_provider loads ps p)
AllPairs-with_provider loads [] p lower up = AllPairs-cons (Before loads) p [] (All-nil (Before loads p)) up
AllPairs-with_provider loads (q ∷ qs) p lower up =
    let P : List ℕ → Type 0 = AllPairs (Before loads) in
    let rest : All (λ x. x < p) qs = λ k d l. lower (suc k) d (omega arith) in
    let more : AllPairs (Before loads) (with_provider loads qs p) = AllPairs-with_provider loads qs p rest (AllPairs-tail (Before loads) q qs up) in
    subst P (sym (with_provider-cons loads q qs p))
    (with_provider-pairs loads q qs p (comes_before loads p q) refl (lower 0 0 (omega arith)) up more)

pub ordered-in_order : (loads : List ℕ) (n : ℕ) → AllPairs (Before loads) (ordered loads n)
ordered-in_order loads zero = λ i j d l m. absurd (omega arith)
ordered-in_order loads (suc n) =
    AllPairs-with_provider loads (ordered loads n) (suc n)
    (All-weaker (InRange n) (λ q. q < suc n) (λ q h. omega (arith, h.1)) (ordered loads n) (ordered-within loads n))
    (ordered-in_order loads n)

pub AllPairs-take : (R : ℕ → ℕ → Type 0) (r : ℕ) (xs : List ℕ) → AllPairs R xs → AllPairs R (take r xs)
AllPairs-take R r xs h = λ i j d l m.
    let len : length (take r xs) ≡ _ = length-take r xs in
    let P : ℕ → Type 0 = λ x. R x (get_or (take r xs) j d) in
    let Q : ℕ → Type 0 = λ y. R (get_or xs i d) y in
    subst P (sym (get_or-take r xs i d (omega arith))) (subst Q (sym (get_or-take r xs j d (omega arith))) (h i j d l (omega arith)))

pub is_order : (loads : List ℕ) → IsOrder loads (ordered loads (length loads))
is_order loads = record { all = permutes loads (length loads); in_order = ordered-in_order loads (length loads) }

pub is_least : (loads : List ℕ) (r : ℕ) → IsLeast loads r (least loads r)
unfolding least
is_least loads r = record { order = ordered loads (length loads); is_order = is_order loads; first = refl }

pub least-distinct : (loads : List ℕ) (r : ℕ) → AllPairs ◌≢◌ (least loads r)
unfolding least
least-distinct loads r = AllPairs-take ◌≢◌ r (ordered loads (length loads)) (λ i j d l m. before-distinct loads _ _ (ordered-in_order loads (length loads) i j d l m))

pub least-within : (loads : List ℕ) (r : ℕ) → All (IsProvider loads) (least loads r)
unfolding least
least-within loads r = All-take (IsProvider loads) r (ordered loads (length loads)) (ordered-within loads (length loads))
