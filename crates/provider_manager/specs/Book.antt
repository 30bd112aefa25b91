use Rattle.std.specs.Prelude.{◌≡◌, ℕ, ◌+◌, ◌*◌, ◌<◌, ◌≤◌, ◌^◌, List, length, replicate, sum}
use Rattle.provider_manager.specs.Loads.{loads_after, IsEven, IsLowered}
use Rattle.provider_manager.specs.Placed.{PlacedInTurn}

-- a book as its callers see it: the load of each provider, and how many replicas a page has
pub record Book : Type 0 where
  pub loads : List ℕ
  pub replicas : ℕ

-- numbers that a store may have
pub record AreCounts (providers replicas : ℕ) : Type 0 where
  pub some_provider : 1 ≤ providers
  pub most_providers : providers ≤ 64
  pub some_replica : 1 ≤ replicas
  pub most_replicas : replicas ≤ 8
  pub enough : replicas ≤ providers

-- what a book keeps: numbers that a store may have, the sum of its loads, and room for every number of providers
pub record IsKept (loads : List ℕ) (capacity replicas total : ℕ) : Type 0 where
  pub counts : AreCounts (length loads) replicas
  pub sum_is : total ≡ sum loads
  pub limit : total ≤ 2 ^ 62
  pub room : 64 ≤ capacity

-- the numbers that a shared book keeps beside its lock
pub record Counts : Type 0 where
  pub providers : ℕ
  pub replicas : ℕ

-- a book of so many providers, whose pages have so many replicas
abbrev pub IsOf : ℕ → ℕ → Book → Type 0
IsOf providers replicas book = (length book.loads ≡ providers) × (book.replicas ≡ replicas)

-- the book from which so many pages are placed, made of the book that was there. One of these numbers stays as it is where it
-- isn't spent; where it is, the least load is taken from every load. A book of other numbers is begun anew.
pub record IsMadeFit (providers replicas pages : ℕ) (old new : Book) : Type 0 where
  pub stays : IsOf providers replicas old → sum old.loads + pages * replicas ≤ 2 ^ 62 → new.loads ≡ old.loads
  pub lowers : IsOf providers replicas old → 2 ^ 62 < sum old.loads + pages * replicas → IsLowered old.loads new.loads
  pub begins : ¬ IsOf providers replicas old → new.loads ≡ replicate providers 0

-- pages were placed in turn from the book that the old one was made, whose loads rose once for each replica
pub record IsPlacedBy (providers replicas : ℕ) (placed : List (List ℕ)) (old new : Book) : Type 0 where
  pub fit : Book
  pub made : IsMadeFit providers replicas (length placed) old fit
  pub even : IsEven fit.loads
  pub in_turn : PlacedInTurn fit.loads replicas placed
  pub loads : new.loads ≡ loads_after fit.loads placed
