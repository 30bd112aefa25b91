use Rattle.std.specs.Prelude.{◌≡◌, ℕ, ◌+◌, ◌-◌, ◌≤◌, List, All, Contains, fold, map, slice_set}
use Rattle.replica_place.specs.Order.{load_of}

-- the loads after one replica more at a provider
abbrev pub with_replica : List ℕ → ℕ → List ℕ
with_replica loads provider = slice_set loads (provider - 1) (load_of loads provider + 1)

-- the loads after one replica more at each of these providers
abbrev pub with_replicas : List ℕ → List ℕ → List ℕ
with_replicas loads providers = fold with_replica loads providers

-- the loads after the replicas of all these pages
abbrev pub loads_after : List ℕ → List (List ℕ) → List ℕ
loads_after loads pages = fold with_replicas loads pages

-- no two loads differ by more than 1
abbrev pub IsEven : List ℕ → Type 0
IsEven loads = All (λ x. All (λ y. x ≤ y + 1) loads) loads

-- the least load is taken from every load
pub record IsLowered (old new : List ℕ) : Type 0 where
  pub least : ℕ
  pub one : Contains old least
  pub under : All (λ load. least ≤ load) old
  pub lowered : new ≡ map (λ load. load - least) old
