-- The depth of a leaf, and how many backs lead from it.
use Rattle.std.proofs.Common.{◌≡◌, ◌⊎◌, ℕ, ◌+◌, ◌-◌, ◌*◌, ◌/◌, ◌%◌, ◌<◌, ◌≤◌, zero, suc, List, ◌++◌, length, arith, inl, inr, refl, ap, sym, subst, ◌∙◌, true, false}
use Rattle.std.specs.Prelude.{Bool, not, ◌==◌, ◌&&◌, if◌then◌else◌}
use Rattle.std.proofs.lemmas.Bool.{cases_lt}
use Rattle.std.proofs.lemmas.List.{get_or_append_left}
use Rattle.std.proofs.lemmas.Bool.Decides.{nat_tests}
use Rattle.std.proofs.lemmas.Nat.{mul-le, mod_below}
use Rattle.std.proofs.Math.Nat.{mod-le, mod-eq_of_lt, mod_self, mod-zero}
use Rattle.tree_geom.specs.declared.range.Range.{Range}
use Rattle.tree_geom.specs.declared.touch.Touch.{Touch}
use Rattle.tree_geom.specs.Geometry.{Meets, page_range, tree_range, no_touch, leaves_open}
use Rattle.tree_geom.proofs.Touches.{meets_cases, meets_true, meets_false}
use Rattle.tree_geom.proofs.Covers.{touches_tell_cover}
use Rattle.tree_geom.proofs.Spans.{page_aligned}
use Rattle.range_log.specs.Log.{touch_at, newest_of, HasNode}
use Rattle.range_log.specs.Extents.{Extent, InBounds, extent_at, size_after, touch_of, touches}
use Rattle.range_log.specs.Rows.{back_of, covered, folded_of}
use Rattle.range_log.specs.Visits.{backs_of}
use Rattle.range_log.specs.Depths.{fold_number, depth_of, depth_by, depth_after}
use Rattle.range_log.specs.Laws.{DepthsStep, DepthOfNewest, DepthCountsBacks, DepthsAreFew, DepthsStay}
use Rattle.range_log.proofs.Counts.{backs_step, backs_zero, backs_newest, backs_above}
use Rattle.range_log.proofs.Greatest.{bool_cases, newest_hit, newest_miss, newest_none}
use Rattle.range_log.proofs.Grown.{grown_updates, length-touches, touch-touches}
use Rattle.range_log.proofs.Links.{back_none, back_anew, back_some, backs_have_no_holes, newest_has_node}

no_more : (b : Bool) → (b && false) ≡ false
no_more true = refl
no_more false = refl

-- ---- one update more
depth_hit : (p : ℕ) (log : List Touch) (k i : ℕ) → Meets p (touch_at log (suc k)) (page_range p i)
    → depth_of p log (suc k) i ≡ (if leaves_open (touch_at log (suc k)) i then suc (depth_of p log k i) % fold_number else 0)
unfolding depth_by
depth_hit p log k i met = rw (meets_true p (touch_at log (suc k)) (page_range p i) met, depth_by) refl

depth_miss : (p : ℕ) (log : List Touch) (k i : ℕ) → ¬ Meets p (touch_at log (suc k)) (page_range p i) → depth_of p log (suc k) i ≡ depth_of p log k i
unfolding depth_by
depth_miss p log k i apart = rw (meets_false p (touch_at log (suc k)) (page_range p i) apart, depth_by) refl

pub depth_next : (p : ℕ) (log : List Touch) (k i : ℕ) → depth_of p log (suc k) i ≡ depth_after fold_number p (touch_at log (suc k)) i (depth_of p log k i)
unfolding depth_by
depth_next p log k i = refl

pub depth_none : (p : ℕ) (log : List Touch) (i : ℕ) → depth_of p log 0 i ≡ 0
unfolding depth_by
depth_none p log i = refl

pub depth_of_newest : DepthOfNewest
depth_of_newest p zero i log = ap (λ n. depth_of p log n i) (newest_none p log (page_range p i))
depth_of_newest p (suc k) i log =
    elim (meets_cases p (touch_at log (suc k)) (page_range p i)) [
      | inl hit ↦ ap (λ n. depth_of p log n i) (newest_hit p log k (page_range p i) hit)
      | inr miss ↦
          ap (λ n. depth_of p log n i) (newest_miss p log k (page_range p i) miss)
          ∙ depth_of_newest p k i log
          ∙ sym (depth_miss p log k i miss)
    ]

-- one update more makes a leaf deeper by one at most, and no deeper than any fold number leaves it
step_few : (fold : ℕ) (b : Bool) (d k : ℕ) → d ≤ k → (if b then suc d % fold else 0) ≤ suc k
step_few fold true d k le = omega (arith, le, mod-le (suc d) fold)
step_few fold false d k le = omega arith

step_small : (fold : ℕ) (b : Bool) (d : ℕ) → 1 ≤ fold → (if b then suc d % fold else 0) < fold
step_small fold true d some = mod_below (suc d) fold some
step_small fold false d some = omega arith

depth_small : (p k i : ℕ) (log : List Touch) → 1 ≤ fold_number → depth_of p log k i < fold_number
depth_small p zero i log some = omega (arith, depth_none p log i)
depth_small p (suc k) i log some =
    elim (meets_cases p (touch_at log (suc k)) (page_range p i)) [
      | inl hit ↦ omega (arith, depth_hit p log k i hit, step_small fold_number (leaves_open (touch_at log (suc k)) i) (depth_of p log k i) some)
      | inr miss ↦ omega (arith, depth_miss p log k i miss, depth_small p k i log some)
    ]

depth_few : (p k i : ℕ) (log : List Touch) → depth_of p log k i ≤ k
depth_few p zero i log = omega (arith, depth_none p log i)
depth_few p (suc k) i log =
    let before : depth_of p log k i ≤ k = depth_few p k i log in
    elim (meets_cases p (touch_at log (suc k)) (page_range p i)) [
      | inl hit ↦ omega (arith, depth_hit p log k i hit, step_few fold_number (leaves_open (touch_at log (suc k)) i) (depth_of p log k i) k before)
      | inr miss ↦ omega (arith, depth_miss p log k i miss, before)
    ]

pub depths_are_few : DepthsAreFew
depths_are_few p k i log = (depth_few p k i log, depth_small p k i log)

-- the next depth is 0, or one more
next_or_none : (fold d : ℕ) → (1 ≤ fold → d < fold) → (suc d % fold ≡ 0) ⊎ (suc d % fold ≡ suc d)
next_or_none zero d small = inr (mod-zero (suc d))
next_or_none (suc f) d small =
    elim (cases_lt d f) [
      | inl below ↦ inr (mod-eq_of_lt (omega (arith, below)))
      | inr last ↦ inl (let e : suc d ≡ suc f = omega (arith, last, small (omega arith)) in ap (λ n. n % suc f) e ∙ mod_self (suc f))
    ]

-- ---- whether the update covers the page
pub same_side : (p a b : ℕ) → a * p < b * p + p → a ≤ b
same_side p a b h =
    elim (cases_lt b a) [
      | inl past ↦ absurd (let e : (b + 1) * p ≤ a * p = mul-le (b + 1) p a p (omega arith) (omega arith) in omega arith)
      | inr upto ↦ upto
    ]

pub tells_cover : (p k i : ℕ) (us : List Extent) → 1 ≤ p → InBounds us → k < length us → Meets p (touch_at (touches p us) (suc k)) (page_range p i)
    → leaves_open (touch_at (touches p us) (suc k)) i ≡ not (covered p us (suc k) i)
tells_cover p k i us pos bounds lt met =
    let e : touch_at (touches p us) (suc k) ≡ touch_of p us (suc k) = touch-touches p us k lt in
    let M : Touch → Type 0 = λ t. Meets p t (page_range p i) in
    let here : Meets p (touch_of p us (suc k)) (page_range p i) = subst M e met in
    ap (λ t. leaves_open t i) e
    ∙ touches_tell_cover p (extent_at us (suc k)).at (extent_at us (suc k)).len (size_after us (suc k)) i pos (bounds k lt).1 (omega arith)
    (same_side p ((extent_at us (suc k)).at / p) i here.0) (same_side p i (((extent_at us (suc k)).at + (extent_at us (suc k)).len - 1) / p) (omega (arith, here.1)))

pub depth_covered : (p k i : ℕ) (us : List Extent) → 1 ≤ p → InBounds us → k < length us → Meets p (touch_at (touches p us) (suc k)) (page_range p i)
    → covered p us (suc k) i ≡ true → depth_of p (touches p us) (suc k) i ≡ 0
depth_covered p k i us pos bounds lt met whole =
    let e : leaves_open (touch_at (touches p us) (suc k)) i ≡ false = tells_cover p k i us pos bounds lt met ∙ ap not whole in
    depth_hit p (touches p us) k i met ∙ ap (λ b. if b then suc (depth_of p (touches p us) k i) % fold_number else 0) e

pub depth_open : (p k i : ℕ) (us : List Extent) → 1 ≤ p → InBounds us → k < length us → Meets p (touch_at (touches p us) (suc k)) (page_range p i)
    → covered p us (suc k) i ≡ false → depth_of p (touches p us) (suc k) i ≡ suc (depth_of p (touches p us) k i) % fold_number
depth_open p k i us pos bounds lt met part =
    let e : leaves_open (touch_at (touches p us) (suc k)) i ≡ true = tells_cover p k i us pos bounds lt met ∙ ap not part in
    depth_hit p (touches p us) k i met ∙ ap (λ b. if b then suc (depth_of p (touches p us) k i) % fold_number else 0) e

pub depths_step : DepthsStep
depths_step p zero i us pos bounds some le met = absurd (omega arith)
depths_step p (suc k) i us pos bounds some le met = (
  depth_covered p k i us pos bounds (omega arith) met,
  λ part.
      let log : List Touch = touches p us in
      let e : suc k - 1 ≡ k = omega arith in
      let down : depth_of p log (newest_of p log (suc k - 1) (page_range p i)) i ≡ depth_of p log k i =
      ap (λ n. depth_of p log (newest_of p log n (page_range p i)) i) e ∙ depth_of_newest p k i log in
      let more : suc (depth_of p log k i) ≡ depth_of p log (newest_of p log (suc k - 1) (page_range p i)) i + 1 = omega (arith, down) in
      depth_open p k i us pos bounds (omega arith) met part ∙ ap (λ n. n % fold_number) more,
)

-- ---- whether the update stores the page anew
pub folded_here : (p : ℕ) (us : List Extent) (k i : ℕ) → covered p us k i ≡ false → depth_of p (touches p us) k i ≡ 0 → folded_of p us k i ≡ true
folded_here p us k i part none =
    ap (λ b. not b && depth_of p (touches p us) k i == 0) part ∙ (let e : (depth_of p (touches p us) k i == 0) ≡ true = grind (arith, nat_tests) in e)

pub kept_here : (p : ℕ) (us : List Extent) (k i : ℕ) → 1 ≤ depth_of p (touches p us) k i → folded_of p us k i ≡ false
kept_here p us k i some =
    let e : (depth_of p (touches p us) k i == 0) ≡ false = grind (arith, nat_tests) in
    ap (λ b. not (covered p us k i) && b) e ∙ no_more (not (covered p us k i))

-- ---- backs
-- where the newest version of a page is the last one, its backs are as deep as the definition says
backs_hit : (p k i : ℕ) (us : List Extent) → 1 ≤ p → InBounds us → k < length us → Meets p (touch_at (touches p us) (suc k)) (page_range p i)
    → backs_of p us k i ≡ depth_of p (touches p us) k i → backs_of p us (suc k) i ≡ depth_of p (touches p us) (suc k) i
backs_hit p k i us pos bounds lt met before =
    let log : List Touch = touches p us in
    let r : Range = page_range p i in
    let newest : newest_of p log (suc k) r ≡ suc k = newest_hit p log k r met in
    elim (bool_cases (covered p us (suc k) i)) [
      | inl whole ↦
          let none : back_of p us (newest_of p log (suc k) r) i ≡ 0 = ap (λ n. back_of p us n i) newest ∙ back_none p us (suc k) i whole in
          (backs_step p (suc k) i us).0 none ∙ sym (depth_covered p k i us pos bounds lt met whole)
      | inr part ↦
          elim (next_or_none fold_number (depth_of p log k i) (depth_small p k i log)) [
            | inl again ↦
                let zero_here : depth_of p log (suc k) i ≡ 0 = depth_open p k i us pos bounds lt met part ∙ again in
                let anew : folded_of p us (suc k) i ≡ true = folded_here p us (suc k) i part zero_here in
                let none : back_of p us (newest_of p log (suc k) r) i ≡ 0 = ap (λ n. back_of p us n i) newest ∙ back_anew p us (suc k) i anew in
                (backs_step p (suc k) i us).0 none ∙ sym zero_here
            | inr deeper ↦
                let here_is : depth_of p log (suc k) i ≡ suc (depth_of p log k i) = depth_open p k i us pos bounds lt met part ∙ deeper in
                let kept : folded_of p us (suc k) i ≡ false = kept_here p us (suc k) i (omega (arith, here_is)) in
                let in_log : suc k ≤ length log = omega (arith, length-touches p us) in
                let H : ℕ → Type 0 = λ n. 1 ≤ n → HasNode p log n (tree_range p 0 i) in
                let at : newest_of p log (suc k) (tree_range p 0 i) ≡ suc k = ap (newest_of p log (suc k)) (sym (page_aligned p i)) ∙ newest in
                let has : HasNode p log (suc k) (tree_range p 0 i) = subst H at (newest_has_node p log (suc k) 0 i pos (grown_updates p us pos bounds) in_log (inl refl)) (omega arith) in
                let P : Range → Type 0 = λ s. HasNode p log (suc k) s in
                let here : HasNode p log (suc k) r = subst P (sym (page_aligned p i)) has in
                let some : 1 ≤ back_of p us (suc k) i = ((backs_have_no_holes p (suc k) i us pos bounds here part).1 kept).0 in
                let e : suc k - 1 ≡ k = omega arith in
                let back : back_of p us (newest_of p log (suc k) r) i ≡ newest_of p log k r =
                ap (λ n. back_of p us n i) newest ∙ back_some p us (suc k) i part kept ∙ ap (λ n. newest_of p log n r) e in
                let some_here : 1 ≤ back_of p us (newest_of p log (suc k) r) i = omega (arith, ap (λ n. back_of p us n i) newest, some) in
                let count : backs_of p us (suc k) i ≡ 1 + backs_of p us (back_of p us (newest_of p log (suc k) r) i) i = (backs_step p (suc k) i us).1 some_here in
                let down : backs_of p us (back_of p us (newest_of p log (suc k) r) i) i ≡ backs_of p us k i = ap (λ n. backs_of p us n i) back ∙ backs_newest p us k i in
                omega (arith, count, down, before, here_is)
          ]
    ]

backs_deep : (p v i : ℕ) (us : List Extent) → 1 ≤ p → InBounds us → v ≤ length us → backs_of p us v i ≡ depth_of p (touches p us) v i
backs_deep p zero i us pos bounds le = backs_zero p us i ∙ sym (depth_none p (touches p us) i)
backs_deep p (suc k) i us pos bounds le =
    let before : backs_of p us k i ≡ depth_of p (touches p us) k i = backs_deep p k i us pos bounds (omega arith) in
    elim (meets_cases p (touch_at (touches p us) (suc k)) (page_range p i)) [
      | inl hit ↦ backs_hit p k i us pos bounds (omega arith) hit before
      | inr miss ↦ backs_above p us k i (newest_miss p (touches p us) k (page_range p i) miss) ∙ before ∙ sym (depth_miss p (touches p us) k i miss)
    ]

pub depth_counts_backs : DepthCountsBacks
depth_counts_backs p v i us pos bounds le = backs_deep p v i us pos bounds le ∙ sym (depth_of_newest p v i (touches p us))

-- ---- later updates
-- two logs that say the same of the versions up to k have leaves as deep up to k
pub same_depth : (p k i : ℕ) (log other : List Touch) → ((j : ℕ) → j < k → touch_at other (suc j) ≡ touch_at log (suc j)) → depth_of p other k i ≡ depth_of p log k i
same_depth p zero i log other same = depth_none p other i ∙ sym (depth_none p log i)
same_depth p (suc k) i log other same =
    depth_next p other k i
    ∙ ap (λ u. depth_after fold_number p u i (depth_of p other k i)) (same k (omega arith))
    ∙ ap (depth_after fold_number p (touch_at log (suc k)) i) (same_depth p k i log other (λ j lt. same j (omega arith)))
    ∙ sym (depth_next p log k i)

pub depths_stay : DepthsStay
depths_stay p k i log more le = same_depth p k i log (log ++ more) (λ j lt. get_or_append_left log more no_touch j (omega arith))
