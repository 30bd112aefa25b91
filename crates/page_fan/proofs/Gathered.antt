-- The pages of an answer, of which some are gathered and the rest is left.
use Rattle.std.proofs.Common.{◌≡◌, ℕ, zero, suc, ◌+◌, ◌<◌, List, [], ◌∷◌, ◌++◌, length, map, take, get_or, arith, sym, ◌∙◌, refl, append-nil}
use Rattle.std.specs.Prelude.{Option, Some, None}
use Rattle.std.proofs.lemmas.List.{take_all}
use Rattle.page_store.specs.Stored.{Stored}

at_front : (xs : List Stored) (ys : List (Option Stored)) (k : ℕ) (d : Stored) → k < length xs → get_or (map Some xs ++ ys) k None ≡ Some (get_or xs k d)
at_front [] ys k d l = absurd (omega arith)
at_front (x ∷ xs) ys zero d l = refl
at_front (x ∷ xs) ys (suc k) d l = at_front xs ys k d (omega arith)

at_seam : (xs : List Stored) (y : Option Stored) (ys : List (Option Stored)) → get_or (map Some xs ++ y ∷ ys) (length xs) None ≡ y
at_seam [] y ys = refl
at_seam (x ∷ xs) y ys = at_seam xs y ys

seam_within : (xs : List Stored) (y : Option Stored) (ys : List (Option Stored)) → length (map Some xs ++ y ∷ ys) ≡ length xs + 1 + length ys
seam_within [] y ys = omega arith
seam_within (x ∷ xs) y ys = let rest = seam_within xs y ys in omega (arith, rest)

-- the next page stands in the answer behind those that were gathered
pub next_at : (xs : List Stored) (page : Stored) (ys answer : List (Option Stored)) → map Some xs ++ Some page ∷ ys ≡ answer → (length xs < length answer) × (get_or answer (length xs) None ≡ Some page)
next_at xs page ys answer is = rw (← is) (omega (arith, seam_within xs (Some page) ys), at_seam xs (Some page) ys)

-- and each of those in its own place, which isn't the last
pub earlier_at : (xs : List Stored) (page : Stored) (ys answer : List (Option Stored)) → map Some xs ++ Some page ∷ ys ≡ answer → (k : ℕ) (d : Stored) → k < length xs
    → (k < length answer) × (get_or answer k None ≡ Some (get_or xs k d)) × (k + 1 < length answer)
earlier_at xs page ys answer is k d l = rw (← is) (omega (arith, seam_within xs (Some page) ys, l), at_front xs (Some page ∷ ys) k d l, omega (arith, seam_within xs (Some page) ys, l))

-- where nothing is left, all is gathered
pub gathered_all : (xs : List Stored) (rest answer : List (Option Stored)) → map Some xs ++ rest ≡ answer → length rest ≡ 0 → map Some xs ≡ take (length answer) answer
gathered_all xs [] answer is none = sym (append-nil (map Some xs)) ∙ (is ∙ sym (take_all (length answer) answer (omega arith)))
gathered_all xs (y ∷ ys) answer is none = absurd (omega (arith, none))
