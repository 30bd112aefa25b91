-- The doors' counts over several calls.
use Rattle.std.proofs.Common.{◌≡◌, ℕ, ◌-◌, ◌≤◌, List, length, arith, refl, ◌∙◌}
use Rattle.std.specs.Prelude.{All}
use Rattle.std.proofs.lemmas.List.Elements.{All-weaker}
use Rattle.page_store.specs.Count.{HasRisen}
use Rattle.page_store.specs.House.{House, IsProvider}
use Rattle.page_store.specs.Page.{Spot, IsAmong}
use Rattle.page_fan.specs.Counts.{NoneFell, RoseAt}
use Rattle.snapshot.specs.Versions.{Version}
use Rattle.range_reader.specs.Faults.{CountsKept, AllRose, StoredFailed, PageFailed}

pub kept_yet : (before : List ℕ) (sum : ℕ) → CountsKept before before sum sum
kept_yet before sum = record { none_fell = record { same = refl; rises = λ i. omega arith }; total = omega arith }

pub kept_twice : (before mid now : List ℕ) (x y z : ℕ) → CountsKept before mid x y → CountsKept mid now y z → CountsKept before now x z
kept_twice before mid now x y z a b = record {
  none_fell = record {
    same = a.none_fell.same ∙ b.none_fell.same;
    rises = λ i. let f = a.none_fell.rises i in let g = b.none_fell.rises i in omega (arith, f, g);
  };
  total = omega (arith, a.total, b.total);
}

pub risen_since : (before mid now : ℕ) → before ≤ mid → HasRisen mid now → HasRisen before now
risen_since before mid now le rose = record { later = omega (arith, rose.later); by = λ lt. let f = rose.by lt in omega (arith, f) }

pub all_since : (before mid now : List ℕ) (spots : List Spot) → NoneFell before mid → AllRose mid now spots → AllRose before now spots
all_since before mid now spots kept rose =
    All-weaker (λ (spot : Spot). RoseAt mid now spot.provider) (λ (spot : Spot). RoseAt before now spot.provider)
    (λ spot r. risen_since _ _ _ (kept.rises (spot.provider - 1)) r) spots rose

pub stored_since : (s : Version) (before mid now : List ℕ) (j q : ℕ) → NoneFell before mid → StoredFailed s mid now j q → StoredFailed s before now j q
stored_since s before mid now j q kept f = record { stored = f.stored; is = f.is; failed = all_since before mid now f.stored.spots kept f.failed }

pub page_since : (s : Version) (before mid now : List ℕ) (i : ℕ) → NoneFell before mid → PageFailed s mid now i → PageFailed s before now i
page_since s before mid now i kept f = record { version = f.version; number = f.number; needed = f.needed; failed = stored_since s before mid now f.version f.number kept f.failed }

-- a page that is among as many houses as there are doors has doors
pub served : (houses : List House) (doors : ℕ) (spots : List Spot) → doors ≡ length houses → All (IsAmong houses) spots → All (λ spot. IsProvider doors spot.provider) spots
served houses doors spots same among =
    All-weaker (IsAmong houses) (λ (spot : Spot). IsProvider doors spot.provider) (λ spot is. rw same is.known) spots among
