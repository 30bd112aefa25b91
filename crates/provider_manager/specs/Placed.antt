use Rattle.std.specs.Prelude.{◌≡◌, ◌≢◌, ℕ, ◌≤◌, List, [], All, AllPairs, EachIndex, length, slice_index_or, take}
use Rattle.replica_place.specs.Order.{least}
use Rattle.provider_manager.specs.Loads.{loads_after, IsEven}

-- each page in turn has the providers that are least for the loads after the pages before it
abbrev pub PlacedInTurn : List ℕ → ℕ → List (List ℕ) → Type 0
PlacedInTurn loads replicas pages =
    EachIndex pages (λ k. slice_index_or pages k [] ≡ least (loads_after loads (take k pages)) replicas)

-- the providers of a page: as many as the replicas, no two the same, all of the store
pub record IsSpread (providers replicas : ℕ) (page : List ℕ) : Type 0 where
  pub count : length page ≡ replicas
  pub distinct : AllPairs ◌≢◌ page
  pub within : All (λ provider. (1 ≤ provider) × (provider ≤ providers)) page

-- the pages placed in turn by an even book of so many providers
pub record IsPlacedEvenly (providers replicas : ℕ) (pages : List (List ℕ)) : Type 0 where
  pub loads : List ℕ
  pub count : length loads ≡ providers
  pub even : IsEven loads
  pub in_turn : PlacedInTurn loads replicas pages
