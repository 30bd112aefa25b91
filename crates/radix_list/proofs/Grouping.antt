-- A list in groups of 32, what a read of a group gives, and the groups of a front of the list with one item more.
use Rattle.std.proofs.Common.{◌≡◌, ℕ, zero, suc, ◌+◌, ◌-◌, ◌*◌, ◌/◌, ◌%◌, ◌<◌, ◌≤◌, List, [], ◌∷◌, ◌++◌, length, take, drop, map, Option, Some, None, refl, sym, ap, subst, ◌∙◌, arith, append-nil, inl, inr}
use Rattle.std.specs.Prelude.{slice_get, unwrap_or}
use Rattle.std.specs.Option.{option_map, option_and_then}
use Rattle.std.specs.List.{range_with_len}
use Rattle.std.proofs.lemmas.Bool.{cases_lt}
use Rattle.std.proofs.lemmas.Option.{slice_get-map, slice_get-get_or, slice_get_past}
use Rattle.std.proofs.lemmas.List.{take_all, take-take, take-append-le, drop-append-le, drop-take, length-take-le, length-drop, length-append}
use Rattle.std.proofs.Math.Seq.{take-add}
use Rattle.std.proofs.lemmas.List.Concat.{flat_map-append}
use Rattle.std.proofs.lemmas.List.FromFn.{length-range_with_len, get_or-range_with_len, length-map-range_with_len, take-map-range_with_len, map-range_with_len_more}
use Rattle.radix_list.specs.Packing.{group, groups, together, tree_of, items_of}

-- ---- reads
slice_get-drop : {X : Type 0} (n : ℕ) (xs : List X) (j : ℕ) → slice_get (drop n xs) j ≡ slice_get xs (n + j)
slice_get-drop zero xs j = let e : 0 + j ≡ j = omega arith in ap (slice_get xs) (sym e)
slice_get-drop (suc n) [] j = refl
slice_get-drop (suc n) (x ∷ xs) j = let e : suc n + j ≡ suc (n + j) = omega arith in slice_get-drop n xs j ∙ ap (slice_get (x ∷ xs)) (sym e)

pub slice_get-take : {X : Type 0} (n : ℕ) (xs : List X) (j : ℕ) → j < n → slice_get (take n xs) j ≡ slice_get xs j
slice_get-take zero xs j h = absurd (omega arith)
slice_get-take (suc n) [] j h = refl
slice_get-take (suc n) (x ∷ xs) zero h = refl
slice_get-take (suc n) (x ∷ xs) (suc j) h = slice_get-take n xs j (omega arith)

slice_get-range : (n k : ℕ) → k < n → slice_get (range_with_len 0 n) k ≡ Some k
slice_get-range n k h =
    slice_get-get_or (range_with_len 0 n) k 0 (subst (λ m. k < m) (sym (length-range_with_len 0 n)) h)
    ∙ ap Some (get_or-range_with_len 0 n k 0 h ∙ omega arith)

pub length-groups : {X : Type 0} (xs : List X) → length (groups xs) ≡ (length xs + 31) / 32
unfolding groups
length-groups xs = length-map-range_with_len (group xs) 0 ((length xs + 31) / 32)

slice_get-groups_within : {X : Type 0} (xs : List X) (k : ℕ) → k < (length xs + 31) / 32 → slice_get (groups xs) k ≡ Some (group xs k)
unfolding groups
slice_get-groups_within xs k h =
    slice_get-map (group xs) (range_with_len 0 ((length xs + 31) / 32)) k ∙ ap (option_map (group xs)) (slice_get-range ((length xs + 31) / 32) k h)

slice_get-groups_past : {X : Type 0} (xs : List X) (k : ℕ) → (length xs + 31) / 32 ≤ k → slice_get (groups xs) k ≡ None
slice_get-groups_past xs k h = slice_get_past (groups xs) k (subst (λ m. m ≤ k) (sym (length-groups xs)) h)

-- item i is item i % 32 of group i / 32, and there is none where there is no such group
pub slice_get_grouped : {X : Type 0} (xs : List X) (i : ℕ) → slice_get xs i ≡ option_and_then (λ g. slice_get g (i % 32)) (slice_get (groups xs) (i / 32))
slice_get_grouped {X} xs i =
    let read = option_and_then (λ (g : List X). slice_get g (i % 32)) in
    elim (cases_lt (i / 32) ((length xs + 31) / 32)) [
      | inl within ↦
          (let e : 32 * (i / 32) + i % 32 ≡ i = omega arith in
          sym (ap read (slice_get-groups_within xs (i / 32) within)
          ∙ (slice_get-take 32 (drop (32 * (i / 32)) xs) (i % 32) (omega arith)
          ∙ (slice_get-drop (32 * (i / 32)) xs (i % 32) ∙ ap (slice_get xs) e))))
      | inr past ↦ slice_get_past xs i (omega arith) ∙ sym (ap read (slice_get-groups_past xs (i / 32) past))
    ]

-- ---- the groups one after another are the list
first_groups : {X : Type 0} (xs : List X) (k : ℕ) → together (map (group xs) (range_with_len 0 k)) ≡ take (32 * k) xs
first_groups xs zero = refl
first_groups {X} xs (suc k) =
    let e : suc k ≡ k + 1 = omega arith in
    let o : 32 * k + 32 ≡ 32 * suc k = omega arith in
    let z : 0 + k ≡ k = omega arith in
    ap (λ n. together (map (group xs) (range_with_len 0 n))) e
    ∙ (ap together (map-range_with_len_more (group xs) 0 k k z)
    ∙ (flat_map-append (λ (g : List X). g) (map (group xs) (range_with_len 0 k)) (group xs k ∷ [])
    ∙ (ap (λ l. l ++ (group xs k ++ [])) (first_groups xs k)
    ∙ (ap (λ l. take (32 * k) xs ++ l) (append-nil (group xs k))
    ∙ (sym (take-add (32 * k) 32 xs) ∙ ap (λ n. take n xs) o)))))

pub together-groups : {X : Type 0} (xs : List X) → together (groups xs) ≡ xs
unfolding groups
together-groups xs = first_groups xs ((length xs + 31) / 32) ∙ take_all (32 * ((length xs + 31) / 32)) xs (omega arith)

pub items_of-tree_of : {T : Type 0} (xs : List T) → items_of (tree_of xs) ≡ xs
items_of-tree_of xs =
    ap (λ l. together (together l)) (together-groups (groups (groups xs))) ∙ (ap together (together-groups (groups xs)) ∙ together-groups xs)

-- ---- one item more after a front
-- a front's items from n on, and then y
front_from : {X : Type 0} (xs ws : List X) (q n : ℕ) → n ≤ q → q ≤ length xs → drop n (take q xs ++ ws) ≡ take (q - n) (drop n xs) ++ ws
front_from xs ws q n le within =
    let count = length-take-le q xs within in
    let e : n + (q - n) ≡ q = omega arith in
    drop-append-le n (take q xs) ws (omega arith)
    ∙ ap (λ l. l ++ ws) (ap (λ m. drop n (take m xs)) (sym e) ∙ drop-take n (q - n) xs)

group_below : {X : Type 0} (xs ws : List X) (q k : ℕ) → q ≤ length xs → k < q / 32 → group (take q xs ++ ws) k ≡ group xs k
group_below xs ws q k within below =
    let n = 32 * k in
    let count : length (take (q - n) (drop n xs)) ≡ q - n = length-take-le (q - n) (drop n xs) (omega (arith, length-drop n xs)) in
    ap (take 32) (front_from xs ws q n (omega arith) within)
    ∙ (take-append-le 32 (take (q - n) (drop n xs)) ws (omega arith) ∙ take-take 32 (q - n) (drop n xs) (omega arith))

pub map_range : {X : Type 0} (f g : ℕ → X) (a n : ℕ) → ((i : ℕ) → a ≤ i → i < a + n → f i ≡ g i) → map f (range_with_len a n) ≡ map g (range_with_len a n)
map_range f g a zero same = refl
map_range f g a (suc n) same =
    ap (λ x. x ∷ map f (range_with_len (a + 1) n)) (same a (omega arith) (omega arith))
    ∙ ap (λ l. g a ∷ l) (map_range f g (a + 1) n (λ i le lt. same i (omega arith) (omega arith)))

-- the group of the new items
group_new : {X : Type 0} (xs : List X) (q : ℕ) (ws : List X) → q ≤ length xs → q % 32 + length ws ≤ 32
    → group (take q xs ++ ws) (q / 32) ≡ take (q % 32) (unwrap_or (slice_get (groups xs) (q / 32)) []) ++ ws
group_new {X} xs q ws within fit =
    let n = 32 * (q / 32) in
    let rest : q - n ≡ q % 32 = omega arith in
    let kept = take (q % 32) (drop n xs) in
    let count : length kept ≡ q % 32 = length-take-le (q % 32) (drop n xs) (omega (arith, length-drop n xs)) in
    let whole : group (take q xs ++ ws) (q / 32) ≡ kept ++ ws =
    ap (take 32) (front_from xs ws q n (omega arith) within ∙ ap (λ m. take m (drop n xs) ++ ws) rest)
    ∙ take_all 32 (kept ++ ws) (omega (arith, length-append kept ws)) in
    let old : kept ≡ take (q % 32) (unwrap_or (slice_get (groups xs) (q / 32)) []) =
    elim (cases_lt (q / 32) ((length xs + 31) / 32)) [
      | inl there ↦
          sym (ap (λ (o : Option (List X)). take (q % 32) (unwrap_or o [])) (slice_get-groups_within xs (q / 32) there) ∙ take-take (q % 32) 32 (drop n xs) (omega arith))
      | inr past ↦
          (let none : q % 32 ≡ 0 = omega arith in
          ap (λ m. take m (drop n xs)) none ∙ sym (ap (λ m. take m (unwrap_or (slice_get (groups xs) (q / 32)) [])) none))
    ] in
    whole ∙ ap (λ l. l ++ ws) old

pub groups-ending : {X : Type 0} (xs : List X) (q : ℕ) (ws : List X) → q ≤ length xs → 1 ≤ length ws → q % 32 + length ws ≤ 32
    → groups (take q xs ++ ws) ≡ take (q / 32) (groups xs) ++ (take (q % 32) (unwrap_or (slice_get (groups xs) (q / 32)) []) ++ ws) ∷ []
unfolding groups
groups-ending {X} xs q ws within some fit =
    let k = q / 32 in
    let ys = take q xs ++ ws in
    let count : length ys ≡ q + length ws = length-append (take q xs) ws ∙ ap (λ n. n + length ws) (length-take-le q xs within) in
    let number : (length ys + 31) / 32 ≡ k + 1 = omega arith in
    let z : 0 + k ≡ k = omega arith in
    ap (λ n. map (group ys) (range_with_len 0 n)) number
    ∙ (map-range_with_len_more (group ys) 0 k k z
    ∙ (ap (λ l. l ++ group ys k ∷ [])
    (map_range (group ys) (group xs) 0 k (λ i le lt. group_below xs ws q i within (omega arith))
    ∙ sym (take-map-range_with_len (group xs) 0 ((length xs + 31) / 32) k (omega arith)))
    ∙ ap (λ g. take k (map (group xs) (range_with_len 0 ((length xs + 31) / 32))) ++ g ∷ []) (group_new xs q ws within fit)))

pub groups-nil : {X : Type 0} → groups {X = X} [] ≡ []
unfolding groups
groups-nil = refl
