-- One step of a walk by links.
use Rattle.std.proofs.Common.{◌≡◌, ◌⊎◌, ℕ, ◌+◌, ◌*◌, ◌%◌, ◌^◌, ◌<◌, ◌≤◌, suc, List, length, arith, inl, inr, refl, ap, sym, subst, ◌∙◌, zero}
use Rattle.tree_geom.specs.declared.range.Range.{Range}
use Rattle.tree_geom.specs.declared.touch.Touch.{Touch}
use Rattle.tree_geom.specs.Geometry.{Aligned, tree_range, left_half, right_half}
use Rattle.tree_geom.proofs.Spans.{left_aligned, right_aligned, size_pos}
use Rattle.range_log.specs.Log.{newest_of}
use Rattle.range_log.specs.Extents.{touches}
use Rattle.range_log.proofs.Parts.{Within, newest_within}
use Rattle.range_log.specs.Laws.{Grown}
use Rattle.range_log.proofs.Grown.{grown_updates, size-touches, length-touches}
use Rattle.range_log.proofs.Links.{newest_some}
use Rattle.range_log.specs.Walk.{LinksStep, ChildStands}
use Rattle.range_log.proofs.Descent.{link_stands, grown_log}
use Rattle.range_log.proofs.Walk.{double}

halves_aligned : (p : ℕ) (r : Range) → Aligned p r → p < r.size → Aligned p (left_half r) × Aligned p (right_half r) × (r.size % 2 ≡ 0)
halves_aligned p r (zero, q, e) large = absurd (let f : r.size ≡ p * 2 ^ 0 = ap (λ (x : Range). x.size) e in omega arith)
halves_aligned p r (suc h, q, e) large =
    let f : r.size ≡ 2 * (p * 2 ^ h) = ap (λ (x : Range). x.size) e ∙ double p h in
    ((h, 2 * q, ap left_half e ∙ left_aligned p h q), (h, 2 * q + 1, ap right_half e ∙ right_aligned p h q), omega arith)

half_aligned : (p : ℕ) (r half : Range) → Aligned p r → p < r.size → (half ≡ left_half r) ⊎ (half ≡ right_half r) → Aligned p half × Within half r
half_aligned p r half al large which =
    let both = halves_aligned p r al large in
    let even : r.size % 2 ≡ 0 = both.2 in
    let P : Range → Type 0 = λ s. Aligned p s × Within s r in
    elim which [
      | inl e ↦ subst P (sym e) (both.0, (omega arith, omega arith))
      | inr e ↦ subst P (sym e) (both.1, (omega arith, omega arith))
    ]

aligned_size : (p : ℕ) (s : Range) → 1 ≤ p → Aligned p s → 1 ≤ s.size
aligned_size p s pos (h, q, e) = let f : s.size ≡ p * 2 ^ h = ap (λ (x : Range). x.size) e in omega (arith, size_pos p h pos)

pub links_step : LinksStep
links_step p v j us r half pos bounds in_list node newest large which begins =
    let log : List Touch = touches p us in
    let g : Grown p log = grown_updates p us pos bounds in
    let d = half_aligned p r half node.aligned large which in
    let in_log : v ≤ length log = omega (arith, length-touches p us) in
    let agree : newest_of p log j half ≡ newest_of p log v half = ap (λ i. newest_of p log i half) newest ∙ newest_within p log v half r d.1 in
    let some : 1 ≤ newest_of p log v half = newest_some p log v half g in_log (aligned_size p half pos d.0) (omega (arith, begins, size-touches p us v in_list)) in
    (link_stands p log j half pos g node.version.1 d.0 (omega (arith, d.1, node.within)) (omega (arith, agree, some)), agree)

pub half_within : (p h q c : ℕ) → (c ≡ 2 * q) ⊎ (c ≡ 2 * q + 1) → Within (tree_range p h c) (tree_range p (suc h) q)
half_within p h q c which =
    let size : p * 2 ^ suc h ≡ 2 * (p * 2 ^ h) = double p h in
    let low : q * (p * 2 ^ suc h) ≡ 2 * q * (p * 2 ^ h) = rw size (omega arith) in
    let mid : (2 * q + 1) * (p * 2 ^ h) ≡ 2 * q * (p * 2 ^ h) + p * 2 ^ h = omega arith in
    elim which [
      | inl e ↦ (let at : c * (p * 2 ^ h) ≡ 2 * q * (p * 2 ^ h) = ap (λ n. n * (p * 2 ^ h)) e in (omega arith, omega arith))
      | inr e ↦ (let at : c * (p * 2 ^ h) ≡ (2 * q + 1) * (p * 2 ^ h) = ap (λ n. n * (p * 2 ^ h)) e in (omega arith, omega arith))
    ]

-- a link of the newest node for a range is the newest for its half
pub half_agrees : (p : ℕ) (log : List Touch) (v j h q c : ℕ) → j ≡ newest_of p log v (tree_range p (suc h) q) → (c ≡ 2 * q) ⊎ (c ≡ 2 * q + 1)
    → newest_of p log j (tree_range p h c) ≡ newest_of p log v (tree_range p h c)
half_agrees p log v j h q c newest which =
    ap (λ i. newest_of p log i (tree_range p h c)) newest ∙ newest_within p log v (tree_range p h c) (tree_range p (suc h) q) (half_within p h q c which)

pub child_stands : ChildStands
child_stands p v j h q c log pos is in_log node newest which begins =
    let g : Grown p log = grown_log p log pos is in
    let half : Range = tree_range p h c in
    let w : Within half (tree_range p (suc h) q) = half_within p h q c which in
    let agree : newest_of p log j half ≡ newest_of p log v half = half_agrees p log v j h q c newest which in
    let some : 1 ≤ newest_of p log v half = newest_some p log v half g in_log (size_pos p h pos) begins in
    (link_stands p log j half pos g node.version.1 (h, c, refl) (omega (arith, w, node.within)) (omega (arith, agree, some)), agree)
