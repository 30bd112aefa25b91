-- Histories: lists of entries, each with its caller. Callers are given from 1 up.
use Rattle.std.specs.Prelude.{◌≡◌, ◌⊎◌, ℕ, ◌<◌, ◌==◌, nat_lt, if◌then◌else◌, List, [], ◌∷◌, ◌++◌, length, filter}

abbrev pub Log : Type 0 → Type 0
Log E = List (ℕ × E)

module _ {E : Type 0} where
  -- the entries that carry this caller, in order
  abbrev pub entries_by : ℕ → Log E → Log E
  entries_by c xs = filter (λ x. x.0 == c) xs

  -- the second list begins with the first
  abbrev pub Begins : Log E → Log E → Type 0
  Begins xs ys = (rest : Log E) × (ys ≡ xs ++ rest)

  -- the second list is the first, or has one entry of the caller behind it
  abbrev pub Adds : ℕ → Log E → Log E → Type 0
  Adds c xs ys = (ys ≡ xs) ⊎ ((e : E) × (ys ≡ xs ++ (c, e) ∷ []))

  -- the longer of two lists, and the first where they are equally long
  abbrev pub longer : Log E → Log E → Log E
  longer xs ys = (if nat_lt (length xs) (length ys) then ys else xs)

-- where so many callers were given, this one wasn't yet: no caller is 0
abbrev pub IsUngiven : ℕ → ℕ → Type 0
IsUngiven given c = (c ≡ 0) ⊎ (given < c)

module _ {E : Type 0} where
  -- the list has no entry of a caller that wasn't given
  abbrev pub LacksUngiven : ℕ → Log E → Type 0
  LacksUngiven given xs = (c : ℕ) → IsUngiven given c → entries_by c xs ≡ []
