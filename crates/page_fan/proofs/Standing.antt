-- Replicas that stand at the chosen providers.
use Rattle.std.proofs.Common.{◌≡◌, ℕ, zero, suc, ◌+◌, ◌<◌, ◌≤◌, List, [], ◌∷◌, ◌++◌, length, get_or, take, arith, length-append, ap, sym, ◌∙◌, refl, inl, inr}
use Rattle.std.specs.Prelude.{All, Option, Some, None, slice_get}
use Rattle.std.specs.Option.{option_map_or}
use Rattle.std.proofs.lemmas.Bool.{cases_eq}
use Rattle.std.proofs.lemmas.List.{take_more, take_all, map-append}
use Rattle.std.proofs.lemmas.Option.{slice_get_within, get_or_from_slice_get}
use Rattle.std.proofs.Math.Seq.{get_or-append_seam}
use Rattle.page_store.specs.Page.{Spot}
use Rattle.page_store.specs.Stored.{Stored}
use Rattle.page_fan.specs.Counts.{NoneFell, RoseAt}
use Rattle.page_fan.specs.Replicas.{StandAt, providers_of}
use Rattle.page_fan.proofs.Rises.{still_risen}

-- a weaker fact may stand in the place of `missing`
pub StandAt-weaken : (missing absent : ℕ → Type 0) → ((p : ℕ) → missing p → absent p) → (chosen at : List ℕ) → StandAt missing chosen at → StandAt absent chosen at
StandAt-weaken missing absent weaken [] at h = h
StandAt-weaken missing absent weaken (p ∷ chosen) at (inl (rest, here)) = inl (rest, (here.0, StandAt-weaken missing absent weaken chosen rest here.1))
StandAt-weaken missing absent weaken (p ∷ chosen) at (inr away) = inr (weaken p away.0, StandAt-weaken missing absent weaken chosen at away.1)

-- one more provider, which has a replica
StandAt-here : (missing : ℕ → Type 0) (chosen at : List ℕ) (p : ℕ) → StandAt missing chosen at → StandAt missing (chosen ++ p ∷ []) (at ++ p ∷ [])
StandAt-here missing [] at p h = inl ([], (ap (λ l. l ++ p ∷ []) h, refl))
StandAt-here missing (q ∷ chosen) at p (inl (rest, here)) = inl (rest ++ p ∷ [], (ap (λ l. l ++ p ∷ []) here.0, StandAt-here missing chosen rest p here.1))
StandAt-here missing (q ∷ chosen) at p (inr away) = inr (away.0, StandAt-here missing chosen at p away.1)

-- one more provider, which has none
StandAt-away : (missing : ℕ → Type 0) (chosen at : List ℕ) (p : ℕ) → missing p → StandAt missing chosen at → StandAt missing (chosen ++ p ∷ []) at
StandAt-away missing [] at p gone h = inr (gone, h)
StandAt-away missing (q ∷ chosen) at p gone (inl (rest, here)) = inl (rest, (here.0, StandAt-away missing chosen rest p gone here.1))
StandAt-away missing (q ∷ chosen) at p gone (inr away) = inr (away.0, StandAt-away missing chosen at p gone away.1)

all_of : (missing : ℕ → Type 0) (p : ℕ) (chosen : List ℕ) → missing p → All missing chosen → All missing (p ∷ chosen)
all_of missing p chosen h rest zero d l = h
all_of missing p chosen h rest (suc k) d l = rest k d (omega arith)

-- where there is no replica, each provider is missing
pub none_stands : (missing : ℕ → Type 0) (chosen at : List ℕ) → at ≡ [] → StandAt missing chosen at → All missing chosen
none_stands missing [] at e h = λ k d l. absurd (omega arith)
none_stands missing (p ∷ chosen) at e (inl (rest, here)) = let other : p ∷ rest ≡ [] = sym here.0 ∙ e in cc
none_stands missing (p ∷ chosen) at e (inr away) = all_of missing p chosen away.0 (none_stands missing chosen at e away.1)

-- where there is none after all providers, each is missing
pub none_stands_at_end : (missing : ℕ → Type 0) (chosen : List ℕ) (i : ℕ) (stored : Option Stored) → stored ≡ None → length chosen ≤ i
    → StandAt missing (take i chosen) (providers_of (option_map_or (λ (s : Stored). s.spots) stored [])) → All missing chosen
none_stands_at_end missing chosen i (Some page) e l h = cc
none_stands_at_end missing chosen i None e l h = none_stands missing chosen [] refl (rw (take_all i chosen l) at h)

-- the next provider's door took the page
pub stands_at_next : (before mid now : List ℕ) (providers : List ℕ) (i : ℕ) (spots new : List Spot) (spot : Spot) → NoneFell mid now → i < length providers
    → spot.provider ≡ get_or providers i 0 → new ≡ spots ++ spot ∷ []
    → StandAt (RoseAt before mid) (take i providers) (providers_of spots) → StandAt (RoseAt before now) (take (i + 1) providers) (providers_of new)
stands_at_next before mid now providers i spots new spot kept l at is h =
    let e : providers_of new ≡ providers_of spots ++ get_or providers i 0 ∷ [] = ap providers_of is ∙ (map-append (λ (p : Spot). p.provider) spots (spot ∷ []) ∙ ap (λ q. providers_of spots ++ q ∷ []) at) in
    rw (take_more providers i 0 l, e) (StandAt-here (RoseAt before now) (take i providers) (providers_of spots) (get_or providers i 0) (StandAt-weaken (RoseAt before mid) (RoseAt before now) (still_risen before mid now kept) (take i providers) (providers_of spots) h))

-- the next provider's door failed
pub stands_without_next : (before mid now : List ℕ) (providers : List ℕ) (i : ℕ) (spots : List Spot) → NoneFell mid now → i < length providers
    → RoseAt before now (get_or providers i 0)
    → StandAt (RoseAt before mid) (take i providers) (providers_of spots) → StandAt (RoseAt before now) (take (i + 1) providers) (providers_of spots)
stands_without_next before mid now providers i spots kept l rose h =
    rw (take_more providers i 0 l) (StandAt-away (RoseAt before now) (take i providers) (providers_of spots) (get_or providers i 0) rose
    (StandAt-weaken (RoseAt before mid) (RoseAt before now) (still_risen before mid now kept) (take i providers) (providers_of spots) h))

get_last : {X : Type 0} (xs : List X) (x y : X) (i : ℕ) → i ≡ length xs → slice_get (xs ++ x ∷ []) i ≡ Some y → x ≡ y
get_last xs x y i e h = sym (get_or-append_seam xs x [] x) ∙ (ap (λ k. get_or (xs ++ x ∷ []) k x) (sym e) ∙ get_or_from_slice_get (xs ++ x ∷ []) i y x h)

get_earlier : {X : Type 0} (xs : List X) (x y : X) (i : ℕ) → i < length xs → slice_get (xs ++ x ∷ []) i ≡ Some y → slice_get xs i ≡ Some y
get_earlier [] x y i l h = absurd (omega arith)
get_earlier (z ∷ xs) x y zero l h = h
get_earlier (z ∷ xs) x y (suc i) l h = get_earlier xs x y i (omega arith) h

-- what holds of each item and its place, with one item more
pub each_push : {X : Type 0} (P : ℕ → X → Type 0) (xs : List X) (x : X) (n : ℕ) → n ≡ length xs → ((i : ℕ) (y : X) → slice_get xs i ≡ Some y → P i y) → P n x → (i : ℕ) (y : X) → slice_get (xs ++ x ∷ []) i ≡ Some y → P i y
each_push P xs x n count there new = λ i y is.
    let within : i < length (xs ++ x ∷ []) = slice_get_within (xs ++ x ∷ []) i y is in
    elim (cases_eq i n) [
      | inl same ↦
          let last : x ≡ y = get_last xs x y i (same ∙ count) is in
          rw (← last, same) new
      | inr differs ↦
          let apart : i ≡ n → ⊥ = differs in
          let below : i < length xs = let m = length-append xs (x ∷ []) in omega (arith, m) in
          there i y (get_earlier xs x y i below is)
    ]
