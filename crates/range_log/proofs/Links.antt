-- Links and backs lead to nodes, and leave no holes.
use Rattle.std.proofs.Common.{◌≡◌, ◌⊎◌, ◌↔◌, ℕ, ◌+◌, ◌-◌, ◌*◌, ◌/◌, ◌^◌, ◌<◌, ◌≤◌, zero, suc, List, length, arith, inl, inr, refl, ap, sym, subst, ◌∙◌, max, min, true, false}
use Rattle.std.specs.Prelude.{◌==◌, ◌&&◌, ◌||◌, Bool, if◌then◌else◌}
use Rattle.std.proofs.lemmas.Bool.{cases_lt, cases_order}
use Rattle.std.proofs.lemmas.Bool.Decides.{nat_tests}
use Rattle.std.proofs.lemmas.Nat.{mul-le}
use Rattle.tree_geom.specs.declared.range.Range.{Range}
use Rattle.tree_geom.specs.declared.touch.Touch.{Touch}
use Rattle.tree_geom.specs.Geometry.{Meets, Aligned, tree_range, page_range, left_half, right_half, span_of}
use Rattle.tree_geom.proofs.Spans.{within_span, page_within, span_holds, page_aligned, left_aligned, right_aligned, size_pos}
use Rattle.range_log.specs.Log.{touch_at, size_at, newest_of, IsNewest, HasNode}
use Rattle.range_log.specs.Extents.{Extent, InBounds, extent_at, size_after, touch_of, touches}
use Rattle.range_log.specs.Rows.{back_by, back_of, covered, folded_of}
use Rattle.range_log.specs.Laws.{Grown, NewestHasNode, NewestIsSome, NewestIsNone, Leads, LinksLead, BacksLead, LinksHaveNoHoles, BacksHaveNoHoles}
use Rattle.range_log.proofs.Greatest.{bool_cases, newest_is}
use Rattle.range_log.proofs.Grown.{grown_updates, length-touches, touch-touches, size-touches}

pub below_page : (p c m : ℕ) → c * p < (m + 1) * p → c * p ≤ m * p
below_page p c m h =
    elim (cases_lt m c) [
      | inl lt ↦ absurd (let e : (m + 1) * p ≤ c * p = mul-le (m + 1) p c p (omega arith) (omega arith) in omega arith)
      | inr ge ↦ mul-le c p m p ge (omega arith)
    ]

pub sizes_rise : (p : ℕ) (log : List Touch) (j k : ℕ) → Grown p log → j ≤ k → k ≤ length log → size_at log j ≤ size_at log k
sizes_rise p log j zero g le in_log = let e : j ≡ 0 = omega arith in rw e (omega arith)
sizes_rise p log j (suc k) g le in_log =
    elim (cases_order j (suc k)) [
      | inl e ↦ rw e (omega arith)
      | inr d ↦ let before : size_at log j ≤ size_at log k = sizes_rise p log j k g (omega (arith, d)) (omega arith) in omega (arith, g.rises k (omega arith))
    ]

-- a version that touches an aligned range has bytes past the range's begin
pub begins_inside : (p : ℕ) (log : List Touch) (j h q : ℕ) → Grown p log → 1 ≤ j → j ≤ length log → Meets p (touch_at log j) (tree_range p h q)
    → q * (p * 2 ^ h) < size_at log j
begins_inside p log zero h q g some in_log m = absurd (omega arith)
begins_inside p log (suc j) h q g some in_log m =
    let o : q * (p * 2 ^ h) ≡ q * 2 ^ h * p = omega arith in
    let e : q * 2 ^ h * p ≤ (touch_at log (suc j)).last * p = below_page p (q * 2 ^ h) (touch_at log (suc j)).last (omega (arith, m.1)) in
    omega (arith, g.ends j (omega arith))

-- an update of a blob that ends in the first range touches that range
next_meets : (p : ℕ) (log : List Touch) (k : ℕ) (r : Range) → 1 ≤ p → Grown p log → k < length log → r.offset ≡ 0 → size_at log k < r.size → Meets p (touch_at log (suc k)) r
next_meets p log k r pos g in_log first ends =
    let e : 1 * p ≤ ((touch_at log (suc k)).last + 1) * p = mul-le 1 p ((touch_at log (suc k)).last + 1) p (omega arith) (omega arith) in
    (omega (arith, g.begins k in_log), omega arith, omega arith)

newest_within_span : (p : ℕ) (log : List Touch) (k h q j : ℕ) → 1 ≤ p → Grown p log → k ≤ length log
    → (h ≡ 0) ⊎ (q * (p * 2 ^ h) + p * 2 ^ h ≤ span_of p (size_at log k))
    → IsNewest p log k (tree_range p h q) j → 1 ≤ j → q * (p * 2 ^ h) + p * 2 ^ h ≤ span_of p (size_at log j)
newest_within_span p log k h q j pos g in_log fits is some =
    let inside : q * (p * 2 ^ h) < size_at log j = begins_inside p log j h q g some (omega (arith, is.upto)) (is.met some) in
    elim (cases_lt 0 q) [
      | inl later ↦ within_span p (size_at log j) h q pos later inside
      | inr first ↦
          let z : q ≡ 0 = omega arith in
          let o : q * (p * 2 ^ h) ≡ 0 * (p * 2 ^ h) = ap (λ n. n * (p * 2 ^ h)) z in
          elim fits [
            | inl page ↦
                let s : p * 2 ^ h ≡ p * 2 ^ 0 = ap (λ n. p * 2 ^ n) page in
                omega (arith, page_within p (size_at log j) pos (omega arith))
            | inr within ↦
                elim (cases_order j k) [
                  | inl e ↦ rw e within
                  | inr d ↦
                      elim (cases_lt (size_at log j) (p * 2 ^ h)) [
                        | inl small ↦ absurd (is.none (suc j) (omega arith) (omega (arith, d, is.upto)) (next_meets p log j (tree_range p h q) pos g (omega (arith, d, is.upto)) (omega arith) small))
                        | inr large ↦ omega (arith, span_holds p (size_at log j) pos)
                      ]
                ]
          ]
    ]

pub newest_has_node : NewestHasNode
newest_has_node p log k h q pos g in_log fits some =
    let is = newest_is p log k (tree_range p h q) in
    record {
      version = (some, omega (arith, is.upto));
      aligned = (h, q, refl);
      within = newest_within_span p log k h q (newest_of p log k (tree_range p h q)) pos g in_log fits is some;
      met = is.met some;
    }

-- ---- no holes
some_meets : (p : ℕ) (log : List Touch) (k : ℕ) (r : Range) → Grown p log → k ≤ length log → 1 ≤ r.size → r.offset < size_at log k
    → (i : ℕ) × (1 ≤ i) × (i ≤ k) × Meets p (touch_at log i) r
some_meets p log zero r g in_log some h = absurd (omega arith)
some_meets p log (suc k) r g in_log some h =
    elim (cases_lt r.offset (size_at log k)) [
      | inl before ↦
          let old = some_meets p log k r g (omega arith) some before in
          (old.0, old.1, omega (arith, old.2), old.3)
      | inr after ↦
          (suc k, omega arith, omega arith, (omega (arith, g.begins k (omega arith)), omega (arith, g.reaches k (omega arith) (omega arith)), some))
    ]

pub newest_some : NewestIsSome
newest_some p log k r g in_log some h =
    let is = newest_is p log k r in
    let one = some_meets p log k r g in_log some h in
    elim (cases_lt 0 (newest_of p log k r)) [
      | inl found ↦ found
      | inr none ↦ absurd (is.none one.0 (omega (arith, one.1)) one.2 one.3)
    ]

pub newest_past : NewestIsNone
newest_past p log k h q g in_log past =
    let j : ℕ = newest_of p log k (tree_range p h q) in
    let is : IsNewest p log k (tree_range p h q) j = newest_is p log k (tree_range p h q) in
    elim (cases_lt 0 j) [
      | inl some ↦ absurd (let inside : q * (p * 2 ^ h) < size_at log j = begins_inside p log j h q g some (omega (arith, is.upto)) (is.met some) in omega (arith, sizes_rise p log j k g is.upto in_log))
      | inr none ↦ omega arith
    ]

no_hole : (p : ℕ) (log : List Touch) (k h q : ℕ) → 1 ≤ p → Grown p log → k ≤ length log
    → (newest_of p log k (tree_range p h q) ≡ 0) ↔ (size_at log k ≤ (tree_range p h q).offset)
no_hole p log k h q pos g in_log = (
  λ zero_link. elim (cases_lt (q * (p * 2 ^ h)) (size_at log k)) [
    | inl before ↦ absurd (let some : 1 ≤ newest_of p log k (tree_range p h q) = newest_some p log k (tree_range p h q) g in_log (size_pos p h pos) before in omega arith)
    | inr past ↦ past
  ],
  newest_past p log k h q g in_log,
)

-- ---- the laws, of updates
not_a_page : (p h : ℕ) (r : Range) (q : ℕ) → r ≡ tree_range p h q → p < r.size → h ≡ 0 → ⊥
not_a_page p h r q e large z =
    let s : r.size ≡ p * 2 ^ h = ap (λ (x : Range). x.size) e in
    let t : p * 2 ^ h ≡ p * 2 ^ 0 = ap (λ n. p * 2 ^ n) z in
    omega arith

-- what holds of both halves of an inner node's range holds of the ranges of height h
pub halves_are : (P : Range → Type 0) (p : ℕ) (r : Range) → Aligned p r → p < r.size
    → ((h q : ℕ) → q * (p * 2 ^ h) + p * 2 ^ h ≤ r.offset + r.size → P (tree_range p h q)) → P (left_half r) × P (right_half r)
halves_are P p r (zero, q, e) large f = absurd (not_a_page p 0 r q e large refl)
halves_are P p r (suc h, q, e) large f =
    let left : left_half r ≡ tree_range p h (2 * q) = ap left_half e ∙ left_aligned p h q in
    let right : right_half r ≡ tree_range p h (2 * q + 1) = ap right_half e ∙ right_aligned p h q in
    let left_at : r.offset ≡ 2 * q * (p * 2 ^ h) = ap (λ (x : Range). x.offset) left in
    let right_at : r.offset + r.size / 2 ≡ (2 * q + 1) * (p * 2 ^ h) = ap (λ (x : Range). x.offset) right in
    let half : r.size / 2 ≡ p * 2 ^ h = ap (λ (x : Range). x.size) left in
    (subst P (sym left) (f h (2 * q) (omega arith)), subst P (sym right) (f h (2 * q + 1) (omega arith)))

pub links_lead : LinksLead
links_lead p k us r pos bounds node large =
    let log : List Touch = touches p us in
    let P : Range → Type 0 = λ s. Leads p log (newest_of p log k s) s in
    halves_are P p r node.aligned large (λ h q within. newest_has_node p log k h q pos (grown_updates p us pos bounds) node.version.1 (inr (omega (arith, within, node.within))))

pub links_have_no_holes : LinksHaveNoHoles
links_have_no_holes p k us r pos bounds node large =
    let log : List Touch = touches p us in
    let e : size_at log k ≡ size_after us k = size-touches p us k (omega (arith, node.version.1, length-touches p us)) in
    let P : Range → Type 0 = λ s. (newest_of p log k s ≡ 0) ↔ (size_after us k ≤ s.offset) in
    halves_are P p r node.aligned large (λ h q within. rw (e) at (no_hole p log k h q pos (grown_updates p us pos bounds) node.version.1))

-- none where the leaf has all valid bytes of its page
pub either : Bool → Bool → ℕ → ℕ
either whole anew n = if whole || anew then 0 else n

either_none : (whole : Bool) (n : ℕ) → either whole true n ≡ 0
unfolding either
either_none true n = refl
either_none false n = refl

either_some : (n : ℕ) → either false false n ≡ n
unfolding either
either_some n = refl

either_first : (anew : Bool) (n : ℕ) → either true anew n ≡ 0
unfolding either
either_first anew n = refl

pub back_is : (p : ℕ) (us : List Extent) (k i : ℕ) → back_of p us k i ≡ either (covered p us k i) (folded_of p us k i) (newest_of p (touches p us) (k - 1) (page_range p i))
unfolding back_by either
back_is p us k i = refl

pub back_none : (p : ℕ) (us : List Extent) (k i : ℕ) → covered p us k i ≡ true → back_of p us k i ≡ 0
back_none p us k i e =
    let n : ℕ = newest_of p (touches p us) (k - 1) (page_range p i) in
    back_is p us k i ∙ ap (λ b. either b (folded_of p us k i) n) e ∙ either_first (folded_of p us k i) n

pub back_anew : (p : ℕ) (us : List Extent) (k i : ℕ) → folded_of p us k i ≡ true → back_of p us k i ≡ 0
back_anew p us k i e =
    let n : ℕ = newest_of p (touches p us) (k - 1) (page_range p i) in
    back_is p us k i ∙ ap (λ b. either (covered p us k i) b n) e ∙ either_none (covered p us k i) n

pub back_some : (p : ℕ) (us : List Extent) (k i : ℕ) → covered p us k i ≡ false → folded_of p us k i ≡ false
    → back_of p us k i ≡ newest_of p (touches p us) (k - 1) (page_range p i)
back_some p us k i e f =
    let n : ℕ = newest_of p (touches p us) (k - 1) (page_range p i) in
    back_is p us k i ∙ ap (λ b. either b (folded_of p us k i) n) e ∙ ap (λ b. either false b n) f ∙ either_some n

-- a leaf has no back, or the newest older version of its page
pub back_cases : (p : ℕ) (us : List Extent) (k i : ℕ)
    → (back_of p us k i ≡ 0) ⊎ ((covered p us k i ≡ false) × (folded_of p us k i ≡ false) × (back_of p us k i ≡ newest_of p (touches p us) (k - 1) (page_range p i)))
back_cases p us k i =
    elim (bool_cases (covered p us k i)) [
      | inl whole ↦ inl (back_none p us k i whole)
      | inr part ↦
          elim (bool_cases (folded_of p us k i)) [
            | inl anew ↦ inl (back_anew p us k i anew)
            | inr kept ↦ inr (part, kept, back_some p us k i part kept)
          ]
    ]

pub backs_lead : BacksLead
backs_lead p k i us pos bounds node some =
    let log : List Touch = touches p us in
    elim (back_cases p us k i) [
      | inl none ↦ absurd (omega (arith, none))
      | inr led ↦
          let e : back_of p us k i ≡ newest_of p log (k - 1) (page_range p i) = led.2 in
          let P : Range → Type 0 = λ s. 1 ≤ newest_of p log (k - 1) s → HasNode p log (newest_of p log (k - 1) s) s in
          let leads : P (page_range p i) = subst P (sym (page_aligned p i)) (newest_has_node p log (k - 1) 0 i pos (grown_updates p us pos bounds) (omega (arith, node.version.1)) (inl refl)) in
          let Q : ℕ → Type 0 = λ j. HasNode p log j (page_range p i) in
          subst Q (sym e) (leads (omega (arith, e, some)))
    ]

-- bytes from at on, in a page that they don't cover to its last valid byte
older_below : (at len size begin end : ℕ) → at ≤ size → begin < at + len
    → ((max at begin == begin) && (min (at + len) end == min (max size (at + len)) end)) ≡ false → begin < size
older_below at len size begin end inside meets part =
    elim (cases_lt begin at) [
      | inl from ↦ omega arith
      | inr before ↦
          elim (cases_lt (at + len) size) [
            | inl shorter ↦ omega arith
            | inr longer ↦
                let a : max at begin ≡ begin = omega arith in
                let b : min (at + len) end ≡ min (max size (at + len)) end = omega arith in
                absurd (grind (arith, nat_tests))
          ]
    ]

pub page_met : (p at len i : ℕ) → 1 ≤ p → 1 ≤ len → i * p < ((at + len - 1) / p + 1) * p → i * p < at + len
page_met p at len i pos some h = omega (arith, below_page p i ((at + len - 1) / p) h)

-- a page that an update doesn't cover was there before
pub older_page : (p k i : ℕ) (us : List Extent) → 1 ≤ p → InBounds us → HasNode p (touches p us) (suc k) (page_range p i) → covered p us (suc k) i ≡ false → i * p < size_after us k
older_page p k i us pos bounds node part =
    let in_list : k < length us = omega (arith, node.version.1, length-touches p us) in
    let at : ℕ = (extent_at us (suc k)).at in
    let len : ℕ = (extent_at us (suc k)).len in
    let touched : Meets p (touch_of p us (suc k)) (page_range p i) = (let P : Touch → Type 0 = λ t. Meets p t (page_range p i) in subst P (touch-touches p us k in_list) node.met) in
    older_below at len (size_after us k) (i * p) ((i + 1) * p) (bounds k in_list).0 (page_met p at len i pos (bounds k in_list).1 touched.1) part

pub backs_have_no_holes : BacksHaveNoHoles
backs_have_no_holes p zero i us pos bounds node part = absurd (omega (arith, node.version.0))
backs_have_no_holes p (suc k) i us pos bounds node part = (
  back_anew p us (suc k) i,
  λ kept.
      let log : List Touch = touches p us in
      let in_list : k < length us = omega (arith, node.version.1, length-touches p us) in
      let e : back_of p us (suc k) i ≡ newest_of p log (suc k - 1) (page_range p i) = back_some p us (suc k) i part kept in
      let same : newest_of p log (suc k - 1) (page_range p i) ≡ newest_of p log k (page_range p i) = let f : suc k - 1 ≡ k = omega arith in ap (λ n. newest_of p log n (page_range p i)) f in
      let older : i * p < size_after us k = older_page p k i us pos bounds node part in
      let size : size_at log k ≡ size_after us k = size-touches p us k (omega arith) in
      let some : 1 ≤ newest_of p log k (page_range p i) = newest_some p log k (page_range p i) (grown_updates p us pos bounds) (omega (arith, node.version.1)) pos (omega (arith, size, older)) in
      let is = newest_is p log k (page_range p i) in
      (omega (arith, e, same, some), omega (arith, e, same, is.upto)),
)
