-- What becomes of a session's doors while they are used. The door to provider 1 comes first.
use Rattle.std.specs.Prelude.{ℕ, ◌+◌, ◌-◌, ◌<◌, ◌==◌, if◌then◌else◌, List, All, length, map, take, count_by, sum_by, slice_index_or}
use Rattle.page_store.specs.Calls.{Calls}
use Rattle.page_store.specs.Page.{Spot}
use Rattle.page_fan.specs.Counts.{RoseAt, OthersStay}

-- how often these placements choose this provider
abbrev pub placed_at : ℕ → List (List ℕ) → ℕ
placed_at provider placements = sum_by (λ (chosen : List ℕ). count_by (λ (q : ℕ). q == provider) chosen) placements

module _ {D : Type 0} where
  -- the door to this provider is a true one, if there is such a door
  abbrev pub IsTrueAt : (D → Type 0) → List D → ℕ → Type 0
  IsTrueAt is_true doors provider = (d : D) → provider - 1 < length doors → is_true (slice_index_or doors (provider - 1) d)

  -- so it is for the provider of each of these spots
  abbrev pub AreTrueAt : (D → Type 0) → List D → List Spot → Type 0
  AreTrueAt is_true doors spots = All (λ (spot : Spot). IsTrueAt is_true doors spot.provider) spots

  -- each door that was a true one is one
  abbrev pub StayTrue : (D → Type 0) → List D → List D → Type 0
  StayTrue is_true old new =
      (k : ℕ) (d : D) → k < length old → is_true (slice_index_or old k d) → is_true (slice_index_or new k d)

  -- the door to this provider was called once, and no other
  abbrev pub CalledOnce : (D → D → Type 0) → ℕ → List D → List D → Type 0
  CalledOnce called provider old new =
      (k : ℕ) (d : D) → k < length old
      → Calls called (if provider == k + 1 then 1 else 0) (slice_index_or old k d) (slice_index_or new k d)

  -- each door was called as often as its provider has one of these spots
  abbrev pub CalledFor : (D → D → Type 0) → List Spot → List D → List D → Type 0
  CalledFor called spots old new =
      (k : ℕ) (d : D) → k < length old
      → Calls called (count_by (λ (spot : Spot). spot.provider == k + 1) spots) (slice_index_or old k d) (slice_index_or new k d)

  -- each door was called once for each of these placements that has its provider
  abbrev pub CalledAsPlaced : (D → D → Type 0) → List (List ℕ) → List D → List D → Type 0
  CalledAsPlaced called placements old new =
      (k : ℕ) (d : D) → k < length old
      → Calls called (placed_at (k + 1) placements) (slice_index_or old k d) (slice_index_or new k d)

  -- The bytes came from one of these spots. Its door was called once and so was that of each spot before it, which failed; a door
  -- that has two of them was called for each. No other was called.
  pub record CameFrom (called : D → D → Type 0) (faults : D → ℕ) (spots : List Spot) (old new : List D) : Type 0 where
    pub tried : ℕ
    pub within : tried < length spots
    pub failed : All (λ (spot : Spot). RoseAt (map faults old) (map faults new) spot.provider) (take tried spots)
    pub others : OthersStay (take (tried + 1) spots) (map faults old) (map faults new)
    pub calls : CalledFor called (take (tried + 1) spots) old new
