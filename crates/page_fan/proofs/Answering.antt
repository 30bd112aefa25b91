-- The answers to the pages of a buffer, one page at a time.
use Rattle.std.proofs.Common.{ℕ, zero, suc, ◌<◌, ◌≤◌, List, [], ◌∷◌, ◌++◌, length, get_or, take, arith, refl}
use Rattle.std.specs.Prelude.{Option, Some, None, IfSome}
use Rattle.std.specs.Option.{option_map_or}
use Rattle.std.proofs.lemmas.List.{take_all}
use Rattle.page_store.specs.House.{House}
use Rattle.page_store.specs.Stored.{Stored}
use Rattle.page_fan.specs.Answer.{IsPageAnswer}
use Rattle.page_fan.specs.Counts.{NoneFell, RoseAt}
use Rattle.page_fan.specs.Replicas.{StandAt, providers_of}
use Rattle.page_fan.proofs.StoredSoFar.{KeptAs}
use Rattle.page_fan.proofs.Rises.{risen_since, still_risen}
use Rattle.page_fan.proofs.Standing.{StandAt-weaken, none_stands_at_end}

-- what holds of each item and its place, with one item more
pub each_more : {X : Type 0} (P : ℕ → X → Type 0) (d : X) (xs : List X) (x : X) → ((i : ℕ) → i < length xs → P i (get_or xs i d)) → P (length xs) x → (i : ℕ) → i < length (xs ++ x ∷ []) → P i (get_or (xs ++ x ∷ []) i d)
each_more P d [] x h new zero l = new
each_more P d [] x h new (suc i) l = absurd (omega arith)
each_more P d (y ∷ ys) x h new zero l = h 0 (omega arith)
each_more P d (y ∷ ys) x h new (suc i) l = each_more (λ n. P (suc n)) d ys x (λ k m. h (suc k) (omega arith)) new i (omega arith)

-- an answer stays one while the counts rise
pub answer_later : (houses : List House) (bytes chosen before mid now : List ℕ) (answer : Option Stored) → NoneFell mid now → IsPageAnswer houses bytes chosen before mid answer → IsPageAnswer houses bytes chosen before now answer
answer_later houses bytes chosen before mid now (Some page) kept h = record {
  bytes = h.bytes;
  here = h.here;
  replicas = StandAt-weaken (RoseAt before mid) (RoseAt before now) (still_risen before mid now kept) chosen (providers_of page.spots) h.replicas;
  some = h.some;
}
answer_later houses bytes chosen before mid now None kept h = record { some = h.some; failed = λ k d l. still_risen before mid now kept _ (h.failed k d l) }

-- and while they rose before
pub answer_since : (houses : List House) (bytes chosen before mid now : List ℕ) (answer : Option Stored) → NoneFell before mid → IsPageAnswer houses bytes chosen mid now answer → IsPageAnswer houses bytes chosen before now answer
answer_since houses bytes chosen before mid now (Some page) kept h = record {
  bytes = h.bytes;
  here = h.here;
  replicas = StandAt-weaken (RoseAt mid now) (RoseAt before now) (risen_since before mid now kept) chosen (providers_of page.spots) h.replicas;
  some = h.some;
}
answer_since houses bytes chosen before mid now None kept h = record { some = h.some; failed = λ k d l. risen_since before mid now kept _ (h.failed k d l) }

-- the answer to a page whose doors were all asked
pub answer_at_end : (houses : List House) (bytes chosen before now : List ℕ) (i : ℕ) (stored : Option Stored) → length chosen ≤ i → 1 ≤ length chosen → IfSome stored (KeptAs houses bytes i)
    → StandAt (RoseAt before now) (take i chosen) (providers_of (option_map_or (λ (s : Stored). s.spots) stored [])) → IsPageAnswer houses bytes chosen before now stored
answer_at_end houses bytes chosen before now i (Some page) l some kept h = record { bytes = kept.bytes; here = kept.here; replicas = rw (take_all i chosen l) at h; some = kept.some }
answer_at_end houses bytes chosen before now i None l some kept h = record { some = some; failed = none_stands_at_end (RoseAt before now) chosen i None refl l h }
