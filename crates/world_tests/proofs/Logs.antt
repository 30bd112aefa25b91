-- Worked lists of updates, and what they touch.
use Rattle.std.proofs.Common.{◌≡◌, ℕ, ◌-◌, zero, suc, List, [], ◌∷◌, arith, refl, sym, subst}
use Rattle.tree_geom.specs.declared.touch.Touch.{Touch}
use Rattle.tree_geom.specs.Geometry.{touched_by}
use Rattle.range_log.specs.Extents.{Extent, InBounds, IsLog, touches}

abbrev w : ℕ → ℕ → Extent
w at n = record { at = at; len = n }

-- three appends of 4, 4 and 1 bytes
abbrev appended : List Extent
appended = w 0 4 ∷ w 4 4 ∷ w 8 1 ∷ []

appended_in_bounds : InBounds appended
appended_in_bounds zero h = (omega arith, omega arith)
appended_in_bounds (suc zero) h = (omega arith, omega arith)
appended_in_bounds (suc (suc zero)) h = (omega arith, omega arith)
appended_in_bounds (suc (suc (suc k))) h = absurd (omega arith)

pub appended_log : (p : ℕ) → IsLog p (touched_by p 0 4 4 ∷ touched_by p 4 4 8 ∷ touched_by p 8 1 9 ∷ [])
unfolding touches
appended_log p = (appended, appended_in_bounds, refl)

-- one update of 1,048,576 bytes
abbrev whole : List Extent
whole = w 0 1048576 ∷ []

whole_in_bounds : InBounds whole
whole_in_bounds zero h = (omega arith, omega arith)
whole_in_bounds (suc k) h = absurd (omega arith)

pub whole_log : (p : ℕ) → IsLog p (touched_by p 0 1048576 1048576 ∷ [])
unfolding touches
whole_log p = (whole, whole_in_bounds, refl)

pub one_log : (p : ℕ) (t : Touch) → t ≡ touched_by p 0 1048576 1048576 → IsLog p (t ∷ [])
one_log p t is = let P : Touch → Type 0 = λ u. IsLog p (u ∷ []) in subst P (sym is) (whole_log p)

pub three_log : (p : ℕ) (a b c : Touch) → a ≡ touched_by p 0 4 4 → b ≡ touched_by p 4 4 8 → c ≡ touched_by p 8 1 9 → IsLog p (a ∷ b ∷ c ∷ [])
three_log p a b c e f h =
    let P : Touch → Type 0 = λ u. IsLog p (u ∷ b ∷ c ∷ []) in
    let Q : Touch → Type 0 = λ u. IsLog p (touched_by p 0 4 4 ∷ u ∷ c ∷ []) in
    let R : Touch → Type 0 = λ u. IsLog p (touched_by p 0 4 4 ∷ touched_by p 4 4 8 ∷ u ∷ []) in
    subst P (sym e) (subst Q (sym f) (subst R (sym h) (appended_log p)))
