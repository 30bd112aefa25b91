-- Counts of several doors, where one is used.
use Rattle.std.proofs.Common.{◌≡◌, ℕ, zero, suc, ◌+◌, ◌-◌, ◌<◌, ◌≤◌, ◌≢◌, List, [], ◌∷◌, ◌++◌, length, map, get_or, set, take, drop, arith, length-set, sym, ap, ◌∙◌, refl}
use Rattle.std.specs.Prelude.{sum_by, All, Some, slice_get}
use Rattle.std.proofs.lemmas.List.{length-map, map-set, get_or-set_other, take_more, take-append-le, take_all}
use Rattle.std.proofs.lemmas.List.Elements.{All-nil}
use Rattle.std.proofs.lemmas.List.Sums.{sum_by-cons}
use Rattle.page_store.specs.Count.{HasRisen}
use Rattle.page_store.specs.House.{IsProvider}
use Rattle.page_store.specs.Page.{Spot}
use Rattle.page_fan.specs.Counts.{NoneFell, RoseAt, OthersStay}

rises_after_set : {D : Type 0} (f : D → ℕ) (xs : List D) (i : ℕ) (x y : D) → x ≡ get_or xs i x → f x ≤ f y → (k : ℕ) → get_or (map f xs) k 0 ≤ get_or (map f (set xs i y)) k 0
rises_after_set f [] i x y e h k = omega arith
rises_after_set f (z ∷ zs) zero x y e h zero = let s : f x ≡ f z = ap f e in omega (arith, s)
rises_after_set f (z ∷ zs) zero x y e h (suc k) = omega arith
rises_after_set f (z ∷ zs) (suc i) x y e h zero = omega arith
rises_after_set f (z ∷ zs) (suc i) x y e h (suc k) = rises_after_set f zs i x y e h k

-- where one door is used and its count doesn't fall, none falls
pub none_falls : {D : Type 0} (f : D → ℕ) (xs : List D) (i : ℕ) (x y : D) → x ≡ get_or xs i x → f x ≤ f y → NoneFell (map f xs) (map f (set xs i y))
none_falls f xs i x y e h = record {
  same = length-map xs f ∙ sym (length-map (set xs i y) f ∙ length-set xs i y);
  rises = rises_after_set f xs i x y e h;
}

-- where its count rises, the count of that place rises in the list
pub rises_at : {D : Type 0} (f : D → ℕ) (xs : List D) (i : ℕ) (x y : D) → i < length xs → x ≡ get_or xs i x → HasRisen (f x) (f y) → HasRisen (get_or (map f xs) i 0) (get_or (map f (set xs i y)) i 0)
rises_at f [] i x y l e h = absurd (omega arith)
rises_at f (z ∷ zs) zero x y l e h = let s : f x ≡ f z = ap f e in record { later = omega (arith, s, h.later); by = λ few. omega (arith, s, h.by few) }
rises_at f (z ∷ zs) (suc i) x y l e h = rises_at f zs i x y (omega arith) e h

pub none_fell_since : (before mid now : List ℕ) → NoneFell before mid → NoneFell mid now → NoneFell before now
none_fell_since before mid now a b = record { same = a.same ∙ b.same; rises = λ i. omega (arith, a.rises i, b.rises i) }

-- what rose stays risen
pub still_risen : (before mid now : List ℕ) → NoneFell mid now → (provider : ℕ) → RoseAt before mid provider → RoseAt before now provider
still_risen before mid now kept provider h = record {
  later = omega (arith, kept.rises (provider - 1), h.later);
  by = λ few. omega (arith, kept.rises (provider - 1), h.by (omega (arith, few, kept.rises (provider - 1))));
}

-- where none fell so far, a rise from here on is a rise
pub risen_since : (before mid now : List ℕ) → NoneFell before mid → (provider : ℕ) → RoseAt mid now provider → RoseAt before now provider
risen_since before mid now kept provider h = record {
  later = omega (arith, kept.rises (provider - 1), h.later);
  by = λ few. omega (arith, kept.rises (provider - 1), h.by few);
}

rest_kept : (x y : ℕ) (xs ys : List ℕ) → NoneFell (x ∷ xs) (y ∷ ys) → NoneFell xs ys
rest_kept x y xs ys kept = record { same = (let same = kept.same in omega arith); rises = λ i. kept.rises (suc i) }

-- where no count falls, neither does their sum
pub sum_never_falls : {D : Type 0} (f : D → ℕ) (xs ys : List D) → NoneFell (map f xs) (map f ys) → sum_by f xs ≤ sum_by f ys
sum_never_falls f [] ys kept = omega arith
sum_never_falls f (x ∷ xs) [] kept = absurd (let same = kept.same in omega arith)
sum_never_falls f (x ∷ xs) (y ∷ ys) kept =
    let head : f x ≤ f y = kept.rises 0 in
    let rest = sum_never_falls f xs ys (rest_kept (f x) (f y) (map f xs) (map f ys) kept) in
    rw (sum_by-cons f x xs, sum_by-cons f y ys) (omega (arith, head, rest))

-- and where one rises, their sum does
pub sum_rises : {D : Type 0} (f : D → ℕ) (xs ys : List D) (i : ℕ) → NoneFell (map f xs) (map f ys) → i < length xs → HasRisen (get_or (map f xs) i 0) (get_or (map f ys) i 0) → HasRisen (sum_by f xs) (sum_by f ys)
sum_rises f [] ys i kept l h = absurd (omega arith)
sum_rises f (x ∷ xs) [] i kept l h = absurd (let same = kept.same in omega arith)
sum_rises f (x ∷ xs) (y ∷ ys) zero kept l h =
    let rest = sum_never_falls f xs ys (rest_kept (f x) (f y) (map f xs) (map f ys) kept) in
    rw (sum_by-cons f x xs, sum_by-cons f y ys) (record { later = omega (arith, h.later, rest); by = λ few. omega (arith, rest, h.by (omega (arith, few))) })
sum_rises f (x ∷ xs) (y ∷ ys) (suc i) kept l h =
    let head : f x ≤ f y = kept.rises 0 in
    let rest = sum_rises f xs ys i (rest_kept (f x) (f y) (map f xs) (map f ys) kept) (omega arith) h in
    rw (sum_by-cons f x xs, sum_by-cons f y ys) (record { later = omega (arith, head, rest.later); by = λ few. omega (arith, head, rest.by (omega (arith, few))) })

-- so it does where the door to one of the providers did
pub sum_rises_at : {D : Type 0} (f : D → ℕ) (xs ys : List D) (provider : ℕ) → NoneFell (map f xs) (map f ys) → IsProvider (length xs) provider → RoseAt (map f xs) (map f ys) provider → HasRisen (sum_by f xs) (sum_by f ys)
sum_rises_at f xs ys provider kept known h = let within : provider - 1 < length xs = omega (arith, known.0, known.1) in sum_rises f xs ys (provider - 1) kept within h

-- where one door is used, the other counts stay
pub others_stay : {D : Type 0} (f : D → ℕ) (xs : List D) (spot : Spot) (y : D) → 1 ≤ spot.provider → OthersStay (spot ∷ []) (map f xs) (map f (set xs (spot.provider - 1) y))
others_stay f xs spot y some = λ n other.
    let elsewhere : spot.provider ≢ n + 1 = other 0 spot (omega arith) in
    let apart : n ≢ spot.provider - 1 = λ e. elsewhere (omega (arith, e, some)) in
    rw (map-set f xs (spot.provider - 1) y) (sym (get_or-set_other (map f xs) (spot.provider - 1) n (f y) 0 apart))

pub all_cons : {X : Type 0} (P : X → Type 0) (x : X) (xs : List X) → P x → All P xs → All P (x ∷ xs)
all_cons P x xs h rest zero d l = h
all_cons P x xs h rest (suc k) d l = rest k d (omega arith)

all_parts : {X : Type 0} (P : X → Type 0) (xs : List X) (x : X) → All P (xs ++ x ∷ []) → All P xs × P x
all_parts P [] x h = (All-nil P, h 0 x (omega arith))
all_parts P (y ∷ ys) x h =
    let rest = all_parts P ys x (λ k d l. h (suc k) d (omega arith)) in
    (all_cons P y ys (h 0 y (omega arith)) rest.0, rest.1)

-- one door more was used
pub others_next : (spots : List Spot) (i : ℕ) (d : Spot) (before mid now : List ℕ) → i < length spots → OthersStay (take i spots) before mid → OthersStay (get_or spots i d ∷ []) mid now → OthersStay (take (i + 1) spots) before now
others_next spots i d before mid now l so_far next = λ n other.
    let away : Spot → Type 0 = λ p. p.provider ≢ n + 1 in
    let parts = all_parts away (take i spots) (get_or spots i d) (rw (take_more spots i d l) at other) in
    so_far n parts.0 ∙ next n (all_cons away (get_or spots i d) [] parts.1 (All-nil away))

pub sum_none : {D : Type 0} (f : D → ℕ) (xs : List D) → All (λ x. f x ≡ 0) xs → sum_by f xs ≡ 0
sum_none f [] h = refl
sum_none f (x ∷ xs) h = rw (sum_by-cons f x xs) (let first : f x ≡ 0 = h 0 x (omega arith) in let rest = sum_none f xs (λ k d l. h (suc k) d (omega arith)) in omega (arith, first, rest))

rises_each : {S : Type 0} (f : S → ℕ) (xs ys : List S) → length ys ≡ length xs → ((k : ℕ) (d : S) → k < length xs → f (get_or xs k d) ≤ f (get_or ys k d)) → (k : ℕ) → get_or (map f xs) k 0 ≤ get_or (map f ys) k 0
rises_each f [] ys same h k = omega arith
rises_each f (x ∷ xs) [] same h k = absurd (omega arith)
rises_each f (x ∷ xs) (y ∷ ys) same h zero = h 0 x (omega arith)
rises_each f (x ∷ xs) (y ∷ ys) same h (suc k) = rises_each f xs ys (omega arith) (λ j d l. h (suc j) d (omega arith)) k

-- where the count of each fell not, none fell
pub none_falls_each : {S : Type 0} (f : S → ℕ) (xs ys : List S) → length ys ≡ length xs → ((k : ℕ) (d : S) → k < length xs → f (get_or xs k d) ≤ f (get_or ys k d)) → NoneFell (map f xs) (map f ys)
none_falls_each f xs ys same h = record {
  same = length-map xs f ∙ (sym same ∙ sym (length-map ys f));
  rises = rises_each f xs ys same h;
}

pub map_map : {X Y Z : Type 0} (f : Y → Z) (g : X → Y) (xs : List X) → map f (map g xs) ≡ map (λ x. f (g x)) xs
map_map f g [] = refl
map_map f g (x ∷ xs) = ap (λ l. f (g x) ∷ l) (map_map f g xs)

-- a vector whose slice was written as a whole
pub written_whole : {X : Type 0} (xs ys : List X) (n : ℕ) → length ys ≡ length xs → n ≡ length xs → take n (ys ++ drop (length ys) xs) ≡ ys
written_whole xs ys n same len = take-append-le n ys (drop (length ys) xs) (omega (arith, same, len)) ∙ take_all n ys (omega (arith, same, len))

pub all_of_map : {X Y : Type 0} (P : Y → Type 0) (f : X → Y) (xs : List X) → All (λ x. P (f x)) xs → All P (map f xs)
all_of_map P f [] h = λ k d l. absurd (omega arith)
all_of_map P f (x ∷ xs) h = all_cons P (f x) (map f xs) (h 0 x (omega arith)) (all_of_map P f xs (λ k d l. h (suc k) d (omega arith)))

pub all_in_map : {X Y : Type 0} (P : Y → Type 0) (f : X → Y) (xs : List X) → All P (map f xs) → All (λ x. P (f x)) xs
all_in_map P f [] h = λ k d l. absurd (omega arith)
all_in_map P f (x ∷ xs) h = all_cons (λ z. P (f z)) x xs (h 0 (f x) (omega arith)) (all_in_map P f xs (λ k d l. h (suc k) d (omega arith)))

pub get_within : {X : Type 0} (xs : List X) (i : ℕ) (x : X) → i < length xs → get_or xs i x ≡ x → slice_get xs i ≡ Some x
get_within [] i x l e = absurd (omega arith)
get_within (y ∷ ys) zero x l e = ap (λ z. Some z) e
get_within (y ∷ ys) (suc i) x l e = get_within ys i x (omega arith) e
