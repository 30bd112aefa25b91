-- Which pages an update stores anew, and what that does for the visit bound.
use Rattle.std.proofs.Common.{◌≡◌, ◌⊎◌, ◌↔◌, ℕ, ◌+◌, ◌-◌, ◌*◌, ◌%◌, ◌<◌, ◌≤◌, zero, suc, List, [], ◌∷◌, length, arith, get_or, inl, inr, refl, ap, sym, subst, ◌∙◌, true, false}
use Rattle.std.specs.Prelude.{Bool, not, cond, ◌==◌, ◌&&◌, ◌||◌, if◌then◌else◌}
use Rattle.std.specs.List.{Contains, AllPairs, filter, position_or_len, sum_by}
use Rattle.std.proofs.lemmas.Bool.Decides.{nat_tests}
use Rattle.std.proofs.lemmas.List.Elements.{All-contains, All-contains_itself, All-filter, filter_passes, Contains-append_right, Contains-append_cases}
use Rattle.std.proofs.lemmas.List.Filters.{length-filter_both}
use Rattle.std.proofs.lemmas.List.Kept.{AllPairs-filter}
use Rattle.std.proofs.lemmas.List.Sums.{sum_by-cons}
use Rattle.std.proofs.lemmas.Nat.{mul-le, le-div}
use Rattle.std.proofs.Math.Nat.{mod-zero, div-mul-le_self}
use Rattle.tree_geom.specs.declared.touch.Touch.{Touch}
use Rattle.tree_geom.specs.Geometry.{Meets, page_range, leaves_open}
use Rattle.range_log.specs.Log.{touch_at, newest_of}
use Rattle.range_log.specs.Extents.{Extent, InBounds, extent_at, touch_of, touches}
use Rattle.range_log.specs.Rows.{covered, folded_of, folds_by, folds_of, edge_pages}
use Rattle.range_log.specs.Visits.{backs_of, pages_met}
use Rattle.range_log.specs.Depths.{fold_number, depth_of}
use Rattle.range_log.specs.Laws.{FoldsAre, NoneFolds, VisitsAreFew}
use Rattle.range_log.proofs.Greatest.{bool_cases}
use Rattle.range_log.proofs.Grown.{touch-touches}
use Rattle.range_log.proofs.Depths.{tells_cover, depth_open, kept_here, depth_counts_backs, depths_are_few}

-- ---- the fold number
pub is_one_of : (n : ℕ) → (n == 0 || n == 16) ≡ true → (n ≡ 0) ⊎ (n ≡ 16)
is_one_of n e =
    elim (bool_cases (n == 0)) [
      | inl none ↦ inl (grind (arith, nat_tests, none))
      | inr some ↦ inr (grind (arith, nat_tests, e, some))
    ]

-- ---- the visit bound
sums_few : (f : ℕ → ℕ) (most : ℕ) (l : List ℕ) → ((i : ℕ) → f i ≤ most) → sum_by f l ≤ most * length l
sums_few f most [] few = omega arith
sums_few f most (x ∷ l) few = omega (arith, sum_by-cons f x l, few x, sums_few f most l few)

backs_few : (p v i : ℕ) (us : List Extent) → 1 ≤ fold_number → 1 ≤ p → InBounds us → v ≤ length us → backs_of p us v i < fold_number
backs_few p v i us some pos bounds le =
    let d : depth_of p (touches p us) (newest_of p (touches p us) v (page_range p i)) i < fold_number =
    (depths_are_few p (newest_of p (touches p us) v (page_range p i)) i (touches p us)).1 some in
    omega (arith, depth_counts_backs p v i us pos bounds le, d)

two_more : (f l : ℕ) → 1 ≤ f → (f - 1) * l + 2 * l ≡ (f + 1) * l
two_more zero l some = absurd (omega arith)
two_more (suc g) l some = let e : suc g - 1 ≡ g = omega arith in rw e (omega arith)

pub visits_are_few : VisitsAreFew
visits_are_few p v o n us some pos bounds le = (
  λ i. backs_few p v i us some pos bounds le,
  (let pages : List ℕ = pages_met p o n in
      let backs : sum_by (λ i. backs_of p us v i) pages ≤ (fold_number - 1) * length pages =
      sums_few (λ i. backs_of p us v i) (fold_number - 1) pages (λ i. omega (arith, backs_few p v i us some pos bounds le)) in
      let all : (fold_number - 1) * length pages + 2 * length pages ≡ (fold_number + 1) * length pages = two_more fold_number (length pages) some in
      elim (bool_cases (n == 0)) [
        | inl none ↦ rw none (omega arith)
        | inr bytes ↦ rw bytes (omega arith)
      ]),
)

-- ---- without a fold number
pub none_folds : NoneFolds
none_folds p zero i us none pos bounds some le met = absurd (omega arith)
none_folds p (suc k) i us none pos bounds some le met =
    elim (bool_cases (covered p us (suc k) i)) [
      | inl whole ↦ ap (λ b. not b && depth_of p (touches p us) (suc k) i == 0) whole
      | inr part ↦
          let deep : depth_of p (touches p us) (suc k) i ≡ suc (depth_of p (touches p us) k i) =
          depth_open p k i us pos bounds (omega arith) met part ∙ ap (λ n. suc (depth_of p (touches p us) k i) % n) none ∙ mod-zero (suc (depth_of p (touches p us) k i)) in
          kept_here p us (suc k) i (omega (arith, deep))
    ]

-- ---- which pages they are
-- the elements of a filtered list are those that pass
kept : (b : Bool) (x i : ℕ) (l : List ℕ) → ((x ≡ i) × (b ≡ true)) ⊎ Contains l i → Contains (cond b (x ∷ l) l) i
kept true x i l (inl h) = (0, omega arith, h.0)
kept true x i l (inr c) = Contains-append_right (x ∷ []) l i c
kept false x i l (inl h) = absurd (grind (arith, h))
kept false x i l (inr c) = c

pub single : (x i : ℕ) → Contains (x ∷ []) i → x ≡ i
single x i (zero, lt, e) = e
single x i (suc k, lt, e) = absurd (omega (arith, lt))

filter_has : (f : ℕ → Bool) (l : List ℕ) (i : ℕ) → Contains l i → f i ≡ true → Contains (filter f l) i
filter_has f [] i c e = absurd (let lt : c.0 < 0 = c.1 in omega arith)
filter_has f (x ∷ l) i c e =
    elim (Contains-append_cases (x ∷ []) l i c) [
      | inl here ↦
          let is : x ≡ i = single x i here in
          kept (f x) x i (filter f l) (inl (is, ap f is ∙ e))
      | inr later ↦ kept (f x) x i (filter f l) (inr (filter_has f l i later e))
    ]

pub filter_only : (f : ℕ → Bool) (l : List ℕ) (i : ℕ) → Contains (filter f l) i → Contains l i × (f i ≡ true)
filter_only f l i c = (
  All-contains (Contains l) (filter f l) i (All-filter f (Contains l) l (All-contains_itself l)) c,
  All-contains (λ x. f x ≡ true) (filter f l) i (filter_passes f l) c,
)

edges_are : (b : Bool) (first last i : ℕ) → (b ≡ true → first ≡ last) → Contains (if b then first ∷ [] else first ∷ last ∷ []) i ↔ ((i ≡ first) ⊎ (i ≡ last))
edges_are true first last i same = (
  λ c. inl (sym (single first i c)),
  λ h. elim h [ inl e ↦ (0, omega arith, sym e) | inr e ↦ (0, omega arith, same refl ∙ sym e) ],
)
edges_are false first last i same = (
  λ c. elim (Contains-append_cases (first ∷ []) (last ∷ []) i c) [ inl here ↦ inl (sym (single first i here)) | inr there ↦ inr (sym (single last i there)) ],
  λ h. elim h [ inl e ↦ (0, omega arith, sym e) | inr e ↦ (1, omega arith, sym e) ],
)

edges_rise : (b : Bool) (first last : ℕ) → (b ≡ false → first < last) → AllPairs ◌<◌ (if b then first ∷ [] else first ∷ last ∷ [])
edges_rise true first last apart i j d lt within = absurd (omega arith)
edges_rise false first last apart zero (suc zero) d lt within = apart refl
edges_rise false first last apart zero zero d lt within = absurd (omega arith)
edges_rise false first last apart zero (suc (suc j)) d lt within = absurd (omega arith)
edges_rise false first last apart (suc i) j d lt within = absurd (omega arith)

edges_few : (b : Bool) (first last : ℕ) → length (if b then first ∷ [] else first ∷ last ∷ []) ≤ 2
edges_few true first last = omega arith
edges_few false first last = omega arith

folds-are : (p k : ℕ) (us : List Extent) → folds_of p us k ≡ filter (λ i. folded_of p us k i) (edge_pages (touch_of p us k))
unfolding folds_by
folds-are p k us = refl

-- a page that an update leaves open is its first or its last one
open_edge : (a b : Bool) (i first last : ℕ) → (((i == first) && a) || ((i == last) && b)) ≡ true → (i ≡ first) ⊎ (i ≡ last)
open_edge a b i first last e = grind (arith, nat_tests, e)

folded_open : (whole : Bool) (d : ℕ) → (not whole && d == 0) ≡ true → not whole ≡ true
folded_open true d e = e
folded_open false d e = refl

meets_edge : (p i : ℕ) (t : Touch) → 1 ≤ p → t.first ≤ t.last → (i ≡ t.first) ⊎ (i ≡ t.last) → Meets p t (page_range p i)
meets_edge p i t pos le edge = (
  let a : t.first * p ≤ t.last * p = mul-le t.first p t.last p le (omega arith) in
      elim edge [ inl e ↦ (let f : i * p ≡ t.first * p = ap (λ n. n * p) e in omega arith) | inr e ↦ (let f : i * p ≡ t.last * p = ap (λ n. n * p) e in omega arith) ],
  let a : t.first * p ≤ t.last * p = mul-le t.first p t.last p le (omega arith) in
      elim edge [ inl e ↦ (let f : i * p ≡ t.first * p = ap (λ n. n * p) e in omega arith) | inr e ↦ (let f : i * p ≡ t.last * p = ap (λ n. n * p) e in omega arith) ],
  omega arith,
)

pub folds_are : FoldsAre
folds_are p zero us pos bounds some le = absurd (omega arith)
folds_are p (suc k) us pos bounds some le =
    let t : Touch = touch_of p us (suc k) in
    let f : ℕ → Bool = λ i. folded_of p us (suc k) i in
    let in_log : touch_at (touches p us) (suc k) ≡ t = touch-touches p us k (omega arith) in
    let order : t.first ≤ t.last = le-div t.first ((extent_at us (suc k)).at + (extent_at us (suc k)).len - 1) p pos
    (omega (arith, (bounds k (omega arith)).1, div-mul-le_self (extent_at us (suc k)).at p)) in
    let is : folds_of p us (suc k) ≡ filter f (edge_pages t) = folds-are p (suc k) us in
    let edges : (i : ℕ) → Contains (edge_pages t) i ↔ ((i ≡ t.first) ⊎ (i ≡ t.last)) = λ i. edges_are (t.first == t.last) t.first t.last i (λ e. grind (arith, nat_tests, e)) in
    let P : List ℕ → Type 0 = λ l. ((i : ℕ) → Contains l i ↔ (Meets p (touch_at (touches p us) (suc k)) (page_range p i) × (folded_of p us (suc k) i ≡ true)))
    × AllPairs ◌<◌ l × (length l ≤ 2) in
    let M : Touch → ℕ → Type 0 = λ u i. Meets p u (page_range p i) in
    let all : P (filter f (edge_pages t)) = (
      λ i. (
        λ c.
            let both : Contains (edge_pages t) i × (f i ≡ true) = filter_only f (edge_pages t) i c in
            let N : Touch → Type 0 = λ u. M u i in
            (subst N (sym in_log) (meets_edge p i t pos order ((edges i).0 both.0)), both.1),
        λ h.
            let left : leaves_open (touch_at (touches p us) (suc k)) i ≡ not (covered p us (suc k) i) = tells_cover p k i us pos bounds (omega arith) h.0 in
            let opens : leaves_open t i ≡ true = ap (λ u. leaves_open u i) (sym in_log) ∙ left ∙ folded_open (covered p us (suc k) i) (depth_of p (touches p us) (suc k) i) h.1 in
            filter_has f (edge_pages t) i ((edges i).1 (open_edge t.open_first t.open_last i t.first t.last opens)) h.1,
      ),
      AllPairs-filter ◌<◌ f (edge_pages t) (edges_rise (t.first == t.last) t.first t.last (λ e. grind (arith, nat_tests, e))),
      omega (arith, edges_few (t.first == t.last) t.first t.last, length-filter_both f (λ i. not (f i)) (λ i. refl) (edge_pages t)),
    ) in
    subst P (sym is) all

-- ---- where they stand
-- the place of a number that a list has
placed : (b : Bool) (x i : ℕ) (l : List ℕ) → (b ≡ true → x ≡ i) → (b ≡ false → (position_or_len (λ j. j == i) l < length l) × (get_or l (position_or_len (λ j. j == i) l) 0 ≡ i))
    → (cond (not b) (1 + position_or_len (λ j. j == i) l) 0 < length (x ∷ l)) × (get_or (x ∷ l) (cond (not b) (1 + position_or_len (λ j. j == i) l) 0) 0 ≡ i)
placed true x i l here later = (omega arith, here refl)
placed false x i l here later =
    let k : ℕ = position_or_len (λ j. j == i) l in
    let e : 1 + k ≡ suc k = omega arith in
    (omega (arith, (later refl).0), ap (λ n. get_or (x ∷ l) n 0) e ∙ (later refl).1)

pub place_at : (i : ℕ) (l : List ℕ) → Contains l i → (position_or_len (λ j. j == i) l < length l) × (get_or l (position_or_len (λ j. j == i) l) 0 ≡ i)
place_at i [] c = absurd (let lt : c.0 < 0 = c.1 in omega arith)
place_at i (x ∷ l) c =
    placed (x == i) x i l (λ e. grind (arith, nat_tests, e))
    (λ e. elim (Contains-append_cases (x ∷ []) l i c) [
      | inl here ↦ absurd (let is : x ≡ i = single x i here in grind (arith, nat_tests, e, is))
      | inr later ↦ place_at i l later
    ])
