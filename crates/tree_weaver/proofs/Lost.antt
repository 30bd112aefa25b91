-- Why a page was not stored anew, over several calls of the doors.
use Rattle.std.proofs.Common.{◌≡◌, ℕ, ◌-◌, List, length, map, sym, ◌∙◌}
use Rattle.std.specs.Prelude.{All}
use Rattle.std.proofs.lemmas.List.Elements.{All-weaker}
use Rattle.page_fan.specs.Counts.{NoneFell, RoseAt}
use Rattle.page_fan.specs.Lost.{NoneTook}
use Rattle.border_hints.specs.Numbered.{NumberedUpdate}
use Rattle.range_reader.proofs.Counting.{page_since, risen_since}
use Rattle.tree_weaver.specs.Anew.{FoldFailed, Unread, Unfetched, Untaken, OnLostFold}
use Rattle.tree_weaver.specs.Folding.{CanFold, IsLost, AreKept}
use Rattle.tree_weaver.specs.declared.folding.Folding.{Folding}
use Rattle.tree_weaver.specs.declared.folding.WeaveFault.{WeaveFault}
use Rattle.tree_weaver.specs.declared.folding.WeaveFault.TheVariants as fault
use Rattle.tree_weaver.proofs.StoredParts.{part_since}

-- an earlier beginning sees the same failures
pub took_since : (providers replicas : ℕ) (before mid now : List ℕ) → NoneFell before mid → NoneTook providers replicas mid now → NoneTook providers replicas before now
took_since providers replicas before mid now kept none = record {
  chosen = none.chosen;
  spread = none.spread;
  some = none.some;
  failed = All-weaker (RoseAt mid now) (RoseAt before now) (λ n r. risen_since _ _ _ (kept.rises (n - 1)) r) none.chosen none.failed;
}

pub fold_since : (t : NumberedUpdate) (providers replicas : ℕ) (before mid now : List ℕ) (i : ℕ) → NoneFell before mid → FoldFailed t providers replicas mid now i
    → FoldFailed t providers replicas before now i
fold_since t providers replicas before mid now i kept (Unread f) = Unread (page_since t.snapshot before mid now i kept f)
fold_since t providers replicas before mid now i kept (Unfetched f) = Unfetched (part_since t before mid now _ _ kept f)
fold_since t providers replicas before mid now i kept (Untaken f) = Untaken (took_since providers replicas before mid now kept f)

-- so does one of a lost page
pub lost_since : {D : Type 0} (faults : D → ℕ) (folding : Folding) (old mid new : List D) (i : ℕ) → AreKept faults old mid → IsLost faults folding mid new i → IsLost faults folding old new i
lost_since faults folding old mid new i kept lost = record {
  failed = fold_since folding.ticket.now _ _ (map faults old) (map faults mid) (map faults new) i kept.none_fell lost.failed;
  counted = risen_since _ _ _ kept.total lost.counted;
}

-- doors that stay as many and true serve as before
pub can_still : {D : Type 0} (is_true : D → Type 0) (folding : Folding) (old new : List D) → CanFold is_true folding old → length new ≡ length old → (All is_true old → All is_true new)
    → CanFold is_true folding new
can_still is_true folding old new can same stay = record {
  before = can.before;
  here = can.here;
  pages = can.pages;
  served = can.served ∙ sym same;
  housed = same ∙ can.housed;
  true_doors = stay can.true_doors;
}

-- what is said of a fault, where it is weaker
pub lost_weaker : (f : WeaveFault) (P Q : ℕ → Type 0) → ((i : ℕ) → P i → Q i) → OnLostFold f P → OnLostFold f Q
lost_weaker (fault.PageFault page) P Q all l = all page l
lost_weaker fault.NoMemory P Q all l = tt
