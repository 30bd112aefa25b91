-- Where the replicas of stored pages stand.
use Rattle.std.specs.Prelude.{◌≡◌, ◌⊎◌, ℕ, List, [], ◌∷◌, map, Some, slice_get, slice_index_or}
use Rattle.page_store.specs.Page.{Spot}
use Rattle.page_store.specs.Stored.{Stored}
use Rattle.page_fan.specs.Counts.{RoseAt}

-- the providers of the replicas, in order
abbrev pub providers_of : List Spot → List ℕ
providers_of spots = map (λ (p : Spot). p.provider) spots

-- replicas stand at the chosen providers, in their order, but for those where the fact `missing` holds
abbrev pub StandAt : (ℕ → Type 0) → List ℕ → List ℕ → Type 0
StandAt missing [] at = at ≡ []
StandAt missing (p ∷ chosen) at = ((rest : List ℕ) × ((at ≡ p ∷ rest) × StandAt missing chosen rest)) ⊎ (missing p × StandAt missing chosen at)

-- page i has its replicas at the providers that placement i chose, but for those whose door's count rose
abbrev pub AreReplicated : List ℕ → List ℕ → List (List ℕ) → List Stored → Type 0
AreReplicated before now placements pages =
    (i : ℕ) (page : Stored) → slice_get pages i ≡ Some page → StandAt (RoseAt before now) (slice_index_or placements i []) (providers_of page.spots)
