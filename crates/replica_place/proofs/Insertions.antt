-- Lists that begin with what was put at a position.
use Rattle.std.proofs.Common.{◌≡◌, ℕ, zero, suc, ◌+◌, ◌-◌, ◌<◌, ◌≤◌, Bool, true, false, cond, min, List, [], ◌∷◌, ◌++◌, length, get_or, set, take, drop, insert, refl, ap, sym, ◌∙◌, arith}
use Rattle.std.proofs.lemmas.List.{take-append-le, take-take, length-take-le, length-drop, drop_more, drop_all, drop-take, set_at, take_rest, append-nil}
use borrow.Rule.Slice.PartMut.{put_mid, mid_of}
use Rattle.std.specs.List.{prefix_len}

-- one item more of a list after an `insert`
pub take-insert : (m i : ℕ) (xs : List ℕ) (y : ℕ) → i ≤ m → take (suc m) (insert xs i y) ≡ insert (take m xs) i y
take-insert m zero xs y h = refl
take-insert zero (suc i) xs y h = absurd (omega arith)
take-insert (suc m) (suc i) [] y h = refl
take-insert (suc m) (suc i) (x ∷ xs) y h = ap (λ t. x ∷ t) (take-insert m i xs y (omega arith))

-- what is put past the first items leaves them
pub take-insert_past : (m i : ℕ) (xs : List ℕ) (y : ℕ) → m ≤ i → i ≤ length xs → take m (insert xs i y) ≡ take m xs
take-insert_past m i xs y h l =
    let short : m ≤ length (take i xs) = omega (arith, length-take-le i xs l) in
    take-append-le m (take i xs) (y ∷ drop i xs) short ∙ take-take m i xs h

-- how many of the first items pass
pub prefix_len-take : (p : ℕ → Bool) (n : ℕ) (xs : List ℕ) → prefix_len p (take n xs) ≡ min n (prefix_len p xs)
prefix_len-take p zero xs = omega arith
prefix_len-take p (suc n) [] = omega arith
prefix_len-take p (suc n) (x ∷ xs) =
    let more : prefix_len p (take n xs) ≡ min n (prefix_len p xs) = prefix_len-take p n xs in
    elim (p x) as (λ b. cond b (1 + prefix_len p (take n xs)) 0 ≡ min (suc n) (cond b (1 + prefix_len p xs) 0)) [ true ↦ omega arith | false ↦ omega arith ]

-- a list whose items from a position on moved up by one, the last one to that position, and were then written over there
pub put-rotated : (xs ys : List ℕ) (a p : ℕ) → a < length xs → ys ≡ drop (length (drop a xs) - 1) (drop a xs) ++ take (length (drop a xs) - 1) (drop a xs) → set (take a xs ++ ys) a p ≡ take (length xs) (insert xs a p)
put-rotated xs ys a p h e =
    let z = drop a xs in
    let k = length z - 1 in
    let count : length z ≡ length xs - a = length-drop a xs in
    let last : drop k z ≡ get_or z k 0 ∷ drop (k + 1) z = drop_more z k 0 (omega arith) in
    let none : drop (k + 1) z ≡ [] = drop_all (k + 1) z (omega arith) in
    let moved : ys ≡ get_or z k 0 ∷ take k z = e ∙ ap (λ t. t ++ take k z) (last ∙ ap (λ t. get_or z k 0 ∷ t) none) in
    let written : set (take a xs ++ ys) a p ≡ take a xs ++ p ∷ take k z = ap (λ t. set (take a xs ++ t) a p) moved ∙ set_at (take a xs) (get_or z k 0) (take k z) p a (length-take-le a xs (omega arith)) in
    let len : length xs ≡ suc (a + k) = omega arith in
    let right : take (length xs) (insert xs a p) ≡ insert (take (a + k) xs) a p = ap (λ n. take n (insert xs a p)) len ∙ take-insert (a + k) a xs p (omega arith) in
    let front : take a (take (a + k) xs) ≡ take a xs = take-take a (a + k) xs (omega arith) in
    let back : drop a (take (a + k) xs) ≡ take k z = drop-take a k xs in
    written ∙ sym (right ∙ ap (λ t. t ++ p ∷ drop a (take (a + k) xs)) front ∙ ap (λ t. take a xs ++ p ∷ t) back)

-- the same, of a part of the list that was rotated in its place
pub put_mid-rotated : (xs ys : List ℕ) (a p : ℕ) → a < length xs → ys ≡ drop (length (mid_of a (length xs - a) xs) - 1) (mid_of a (length xs - a) xs) ++ take (length (mid_of a (length xs - a) xs) - 1) (mid_of a (length xs - a) xs) → set (put_mid a (length xs - a) xs ys) a p ≡ take (length xs) (insert xs a p)
put_mid-rotated xs ys a p h e =
    let k = length xs - a in
    let whole : mid_of a k xs ≡ drop a xs = take_rest xs a in
    let none : drop k (drop a xs) ≡ [] = drop_all k (drop a xs) (omega (arith, length-drop a xs)) in
    let moved : ys ≡ drop (length (drop a xs) - 1) (drop a xs) ++ take (length (drop a xs) - 1) (drop a xs) = e ∙ ap (λ m. drop (length m - 1) m ++ take (length m - 1) m) whole in
    let ends : put_mid a k xs ys ≡ take a xs ++ ys = ap (λ t. take a xs ++ (ys ++ t)) none ∙ ap (λ t. take a xs ++ t) (append-nil ys) in
    ap (λ t. set t a p) ends ∙ put-rotated xs ys a p h moved
