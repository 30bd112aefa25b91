-- Nodes beside the ranges of a row.
use Rattle.std.proofs.Common.{◌≡◌, ℕ, zero, suc, List, [], ◌∷◌, length, map, arith, ap, refl}
use Rattle.std.specs.Prelude.{Some, slice_get}
use Rattle.std.specs.List.{Contains, zip}
use Rattle.std.proofs.lemmas.Option.{same_Some, slice_get_within, get_or_from_slice_get}

-- a pair of the list is one of the two lists' elements
zip_left : {A B : Type 0} (xs : List A) (ys : List B) (i : ℕ) (pair : A × B) → slice_get (zip xs ys) i ≡ Some pair → slice_get xs i ≡ Some pair.0
zip_left [] ys i pair is = cc
zip_left (x ∷ xs) [] i pair is = cc
zip_left (x ∷ xs) (y ∷ ys) zero pair is = ap (λ p. Some p.0) (same_Some (x, y) pair is)
zip_left (x ∷ xs) (y ∷ ys) (suc i) pair is = zip_left xs ys i pair is

-- two elements at one index are a pair of the list
zip_at : {A B : Type 0} (xs : List A) (ys : List B) (i : ℕ) (x : A) (y : B) → slice_get xs i ≡ Some x → slice_get ys i ≡ Some y → slice_get (zip xs ys) i ≡ Some (x, y)
zip_at [] ys i x y a b = cc
zip_at (z ∷ xs) [] i x y a b = cc
zip_at (z ∷ xs) (w ∷ ys) zero x y a b = rw (same_Some z x a, same_Some w y b) refl
zip_at (z ∷ xs) (w ∷ ys) (suc i) x y a b = zip_at xs ys i x y a b

pub contains_pair : {A B : Type 0} (xs : List A) (ys : List B) (i : ℕ) (x : A) (y : B) → slice_get xs i ≡ Some x → slice_get ys i ≡ Some y → Contains (zip xs ys) (x, y)
contains_pair xs ys i x y a b =
    let at = zip_at xs ys i x y a b in
    (i, slice_get_within (zip xs ys) i (x, y) at, get_or_from_slice_get (zip xs ys) i (x, y) (x, y) at)

pub contains_left : {A B : Type 0} (xs : List A) (ys : List B) (i : ℕ) (pair : A × B) → slice_get (zip xs ys) i ≡ Some pair → Contains xs pair.0
contains_left xs ys i pair is =
    let at = zip_left xs ys i pair is in
    (i, slice_get_within xs i pair.0 at, get_or_from_slice_get xs i pair.0 pair.0 at)

-- the elements of the first list, of which the other has as many
pub zip_firsts : {A B : Type 0} (xs : List A) (ys : List B) → length ys ≡ length xs → map (λ (pair : A × B). pair.0) (zip xs ys) ≡ xs
zip_firsts [] ys same = refl
zip_firsts (x ∷ xs) [] same = absurd (omega arith)
zip_firsts (x ∷ xs) (y ∷ ys) same = ap (λ l. x ∷ l) (zip_firsts xs ys (omega arith))
