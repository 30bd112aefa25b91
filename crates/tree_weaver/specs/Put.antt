-- Where a page was put that was stored within a call, in which the doors were `old` at first and are `new` now.
use Rattle.std.specs.Prelude.{ℕ, List, map}
use Rattle.page_store.specs.Stored.{Stored}
use Rattle.page_fan.specs.Counts.{NoneFell}
use Rattle.page_fan.specs.Put.{IsPut}

-- It was put between two states of the doors, `before` and `after`; no door's count of faults fell until then, nor since.
pub record WasPut {D : Type 0} (called : D → D → Type 0) (faults : D → ℕ) (providers replicas : ℕ) (old new : List D) (page : Stored) : Type 0 where
  pub before : List D
  pub after : List D
  pub until_then : NoneFell (map faults old) (map faults before)
  pub put : IsPut called faults providers replicas before after page
  pub since_then : NoneFell (map faults after) (map faults new)
