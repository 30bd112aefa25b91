-- Where the pages of an update were put, or one page alone. The doors were `old`, and are `new`.
use Rattle.std.specs.Prelude.{◌≡◌, ℕ, List, [], ◌∷◌, All, length, map}
use Rattle.page_store.specs.Stored.{Stored}
use Rattle.provider_manager.specs.Placed.{IsSpread}
use Rattle.page_fan.specs.Counts.{RoseAt}
use Rattle.page_fan.specs.Replicas.{AreReplicated, StandAt, providers_of}
use Rattle.page_fan.specs.Used.{CalledAsPlaced}

-- Each page was placed at so many of the providers, and the door to each of these was called once for it; no door was called
-- besides. The page has one replica at each of them but those whose door's count rose.
pub record ArePut {D : Type 0} (called : D → D → Type 0) (faults : D → ℕ) (providers replicas : ℕ) (old new : List D) (pages : List Stored) : Type 0 where
  pub placements : List (List ℕ)
  pub count : length placements ≡ length pages
  pub spread : All (IsSpread providers replicas) placements
  pub calls : CalledAsPlaced called placements old new
  pub stand : AreReplicated (map faults old) (map faults new) placements pages

-- the same of one page
pub record IsPut {D : Type 0} (called : D → D → Type 0) (faults : D → ℕ) (providers replicas : ℕ) (old new : List D) (page : Stored) : Type 0 where
  pub chosen : List ℕ
  pub spread : IsSpread providers replicas chosen
  pub calls : CalledAsPlaced called (chosen ∷ []) old new
  pub stand : StandAt (RoseAt (map faults old) (map faults new)) chosen (providers_of page.spots)
