-- Along the backs of a page.
use Rattle.std.proofs.Common.{◌≡◌, ℕ, ◌+◌, ◌≤◌, List, arith, sym, ◌∙◌, subst, inl, inr}
use Rattle.std.proofs.lemmas.Bool.{cases_lt}
use Rattle.tree_geom.specs.declared.range.Range.{Range}
use Rattle.tree_geom.specs.declared.touch.Touch.{Touch}
use Rattle.tree_geom.specs.Geometry.{page_range}
use Rattle.range_log.specs.Log.{HasNode, newest_of}
use Rattle.range_log.specs.Extents.{Extent, touches}
use Rattle.range_log.specs.Rows.{back_of}
use Rattle.range_log.specs.Visits.{backs_of}
use Rattle.range_log.specs.Laws.{NewestIsGreatest, BacksStep}

-- a version that has a node for a range is the newest up to itself
pub own_newest : NewestIsGreatest → (p j : ℕ) (log : List Touch) (r : Range) → HasNode p log j r → newest_of p log j r ≡ j
own_newest greatest p j log r has = sym ((greatest p j log r).1 j (record { upto = omega arith; met = λ some. has.met; none = λ i a b. absurd (omega arith) }))

-- the backs from a leaf's version: none without a back, else one more than from there
pub backs_at : NewestIsGreatest → BacksStep → (p j i : ℕ) (us : List Extent) → HasNode p (touches p us) j (page_range p i)
    → (back_of p us j i ≡ 0 → backs_of p us j i ≡ 0) × (1 ≤ back_of p us j i → backs_of p us j i ≡ 1 + backs_of p us (back_of p us j i) i)
backs_at greatest step p j i us has =
    let P : ℕ → Type 0 = λ k. (back_of p us k i ≡ 0 → backs_of p us j i ≡ 0) × (1 ≤ back_of p us k i → backs_of p us j i ≡ 1 + backs_of p us (back_of p us k i) i) in
    subst P (own_newest greatest p j (touches p us) (page_range p i) has) (step p j i us)

-- they are as many from the newest leaf as from the version
pub same_backs : NewestIsGreatest → BacksStep → (p v j i : ℕ) (us : List Extent) → HasNode p (touches p us) j (page_range p i) → j ≡ newest_of p (touches p us) v (page_range p i)
    → backs_of p us j i ≡ backs_of p us v i
same_backs greatest step p v j i us has newest =
    let at = backs_at greatest step p j i us has in
    let P : ℕ → Type 0 = λ k. (back_of p us k i ≡ 0 → backs_of p us v i ≡ 0) × (1 ≤ back_of p us k i → backs_of p us v i ≡ 1 + backs_of p us (back_of p us k i) i) in
    let from : P j = subst P (sym newest) (step p v i us) in
    elim (cases_lt 0 (back_of p us j i)) [
      | inl some ↦ at.1 some ∙ sym (from.1 some)
      | inr none ↦ (let e : back_of p us j i ≡ 0 = omega arith in at.0 e ∙ sym (from.0 e))
    ]
