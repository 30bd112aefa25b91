-- The counts of faults of several doors: the door to provider 1 comes first.
use Rattle.std.specs.Prelude.{◌≡◌, ◌≢◌, ℕ, ◌+◌, ◌-◌, ◌≤◌, List, All, length, slice_index}
use Rattle.page_store.specs.Count.{HasRisen}
use Rattle.page_store.specs.Page.{Spot}

-- there are as many doors as before, and no count fell
pub record NoneFell (before now : List ℕ) : Type 0 where
  pub same : length before ≡ length now
  pub rises : (i : ℕ) → slice_index before i ≤ slice_index now i

-- the count of the door to this provider
abbrev pub count_at : List ℕ → ℕ → ℕ
count_at counts provider = slice_index counts (provider - 1)

-- and it rose
abbrev pub RoseAt : List ℕ → List ℕ → ℕ → Type 0
RoseAt before now provider = HasRisen (count_at before provider) (count_at now provider)

-- the count of each door stayed but of those to the providers of these spots
abbrev pub OthersStay : List Spot → List ℕ → List ℕ → Type 0
OthersStay spots before now = (n : ℕ) → All (λ (spot : Spot). spot.provider ≢ n + 1) spots → slice_index before n ≡ slice_index now n
