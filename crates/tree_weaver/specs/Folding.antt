-- What the calls by which pages are stored anew ask, and what becomes of the doors, which were `old` and are `new`.
use Rattle.std.specs.Prelude.{◌≡◌, ℕ, List, All, length, map, sum_by}
use Rattle.page_store.specs.Count.{HasRisen}
use Rattle.page_store.specs.Stored.{LieAmong}
use Rattle.snapshot.specs.Versions.{IsVersionIn}
use Rattle.range_reader.specs.Faults.{CountsKept}
use Rattle.tree_weaver.specs.Anew.{KnowsBefore, FoldFailed}
use Rattle.tree_weaver.specs.declared.folding.Folding.{Folding}

-- The ticket knows the version before. That version and the update's own pages lie in the houses. The doors are true ones, one to each
-- house, and the loads are of as many providers.
pub record CanFold {D : Type 0} (is_true : D → Type 0) (folding : Folding) (doors : List D) : Type 0 where
  pub before : KnowsBefore folding.ticket.now
  pub here : IsVersionIn folding.nodes.now folding.houses.now folding.ticket.now.snapshot
  pub pages : LieAmong folding.houses.now folding.ticket.now.pages.pages
  pub served : folding.loads.now.providers ≡ length doors
  pub housed : length doors ≡ length folding.houses.now
  pub true_doors : All is_true doors

-- no door's count fell, nor did their sum
abbrev pub AreKept : {D : Type 0} → (D → ℕ) → List D → List D → Type 0
AreKept faults old new = CountsKept (map faults old) (map faults new) (sum_by faults old) (sum_by faults new)

-- page i was lost: why, and the sum of the counts rose
pub record IsLost {D : Type 0} (faults : D → ℕ) (folding : Folding) (old new : List D) (i : ℕ) : Type 0 where
  pub failed : FoldFailed folding.ticket.now folding.loads.now.providers folding.loads.now.replicas (map faults old) (map faults new) i
  pub counted : HasRisen (sum_by faults old) (sum_by faults new)
