use Rattle.std.specs.Prelude.{◌≡◌, ℕ, zero, suc, ◌-◌, ◌≤◌, Bool, List, [], AllPairs, IsPermutation, IsTrue, if◌then◌else◌, ◌==◌, nat_lt, insert, length, slice_index, take}
use Rattle.std.specs.List.{position_or_len, range_with_len}

-- a provider of a store with so many loads
abbrev pub IsProvider : List ℕ → ℕ → Type 0
IsProvider loads provider = (1 ≤ provider) × (provider ≤ length loads)

-- the load of a provider
abbrev pub load_of : List ℕ → ℕ → ℕ
load_of loads provider = slice_index loads (provider - 1)

-- whether a provider comes before another: by a lower load, or by a lower number where the loads are equal
abbrev pub comes_before : List ℕ → ℕ → ℕ → Bool
comes_before loads p q =
    if load_of loads p == load_of loads q then nat_lt p q else nat_lt (load_of loads p) (load_of loads q)

-- all providers, each once, in which each comes before all that follow it
pub record IsOrder (loads order : List ℕ) : Type 0 where
  pub all : IsPermutation (range_with_len 1 (length loads)) order
  pub in_order : AllPairs (λ p q. IsTrue (comes_before loads p q)) order

-- r providers, less loaded ones before others and, where two loads are equal, lower numbers before higher: the front of that order
pub record IsLeast (loads : List ℕ) (r : ℕ) (chosen : List ℕ) : Type 0 where
  pub order : List ℕ
  pub is_order : IsOrder loads order
  pub first : chosen ≡ take r order

-- providers that are in order, and one more, which goes before the first that it comes before
abbrev pub with_provider : List ℕ → List ℕ → ℕ → List ℕ
with_provider loads ps p = insert ps (position_or_len (comes_before loads p) ps) p

-- the providers from 1 to n, ordered by load and then by number
abbrev pub ordered : List ℕ → ℕ → List ℕ
ordered loads zero = []
ordered loads (suc n) = with_provider loads (ordered loads n) (suc n)

-- `IsLeast` as a computation
unfoldable pub least : List ℕ → ℕ → List ℕ
least loads r = take r (ordered loads (length loads))
