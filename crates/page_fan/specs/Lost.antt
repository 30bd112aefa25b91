-- Why the bytes of an update, or one page, were not stored.
use Rattle.std.specs.Prelude.{ℕ, ◌≤◌, List, All, length}
use Rattle.page_store.specs.House.{House}
use Rattle.page_store.specs.Stored.{Cut}
use Rattle.provider_manager.specs.Placed.{IsSpread}
use Rattle.page_fan.specs.Counts.{RoseAt}
use Rattle.page_fan.specs.Fault.{FirstFailed}

-- The pages were placed, each at so many of the providers, and the page of that number is the first that no door of its placement
-- took. The pages before it were stored.
pub record IsFirstLost (houses : List House) (page_size : ℕ) (bytes : List ℕ) (providers replicas : ℕ) (before now : List ℕ) (page : ℕ) (stored : Cut) : Type 0 where
  pub placements : List (List ℕ)
  pub spread : All (IsSpread providers replicas) placements
  pub failed : FirstFailed houses page_size bytes placements before now page stored

-- the page was placed at so many of the providers, and every door of its placement failed
pub record NoneTook (providers replicas : ℕ) (before now : List ℕ) : Type 0 where
  pub chosen : List ℕ
  pub spread : IsSpread providers replicas chosen
  pub some : 1 ≤ length chosen
  pub failed : All (RoseAt before now) chosen
