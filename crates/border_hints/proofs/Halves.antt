-- Which border a range is: beside which edge, and at which height.
use Rattle.std.proofs.Common.{◌≡◌, ◌⊎◌, ℕ, zero, suc, ◌+◌, ◌-◌, ◌*◌, ◌/◌, ◌%◌, ◌^◌, ◌<◌, ◌≤◌, arith, inl, inr, refl, ap, sym, subst, ◌∙◌}
use Rattle.std.proofs.lemmas.Bool.{cases_lt}
use Rattle.std.proofs.lemmas.Nat.{mul-le, pow_pos, div-mul-add}
use Rattle.std.proofs.Math.Nat.{mul-div_cancel, pow-le-pow_right}
use Rattle.tree_geom.specs.declared.range.Range.{Range}
use Rattle.tree_geom.specs.declared.touch.Touch.{Touch}
use Rattle.tree_geom.specs.Geometry.{tree_range, page_range, left_half, right_half, height_of, span_of, Meets}
use Rattle.tree_geom.specs.Laws.{HeightsHold, SpanOfNone, SpanOfSome, LowHalvesAlign, HighHalvesAlign}
use Rattle.tree_geom.proofs.Spans.{size_pos}
use Rattle.border_hints.specs.Borders.{beside, IsRowRange, IsUntouchedHalf, IsBorder}
use Rattle.border_hints.proofs.Published.{double, taller}
use Rattle.border_hints.proofs.Turning.{beside_even, beside_odd}

-- ---- numbers
lt_cancel : (a b p : ℕ) → a * p < b * p → a < b
lt_cancel a b p lt =
    elim (cases_lt a b) [
      | inl done ↦ done
      | inr ge ↦ absurd (let e : b * p ≤ a * p = mul-le b p a p ge (omega arith) in omega arith)
    ]

le_cancel : (a b p : ℕ) → 1 ≤ p → a * p ≤ b * p → a ≤ b
le_cancel a b p pos le =
    elim (cases_lt b a) [
      | inl lt ↦ absurd (let e : (b + 1) * p ≤ a * p = mul-le (b + 1) p a p (omega arith) (omega arith) in omega arith)
      | inr done ↦ done
    ]

quotient : (a w n : ℕ) → a * w ≤ n → n < a * w + w → n / w ≡ a
quotient a w n from to =
    let b : ℕ = n - a * w in
    let e : a * w + b ≡ n = omega arith in
    ap (λ m. m / w) (sym e) ∙ div-mul-add a w b (omega arith)

times : (c p s : ℕ) → c * (p * s) ≡ c * s * p
times c p s = omega arith

-- an untouched half of a touched range lies before the first touched page or after the last, beside the range over it
half_core : (p h q c first last : ℕ) → 1 ≤ p → first ≤ last → (c ≡ 2 * q) ⊎ (c ≡ 2 * q + 1)
    → first * p < q * (p * 2 ^ suc h) + p * 2 ^ suc h → q * (p * 2 ^ suc h) < (last + 1) * p
    → ¬ ((first * p < c * (p * 2 ^ h) + p * 2 ^ h) × (c * (p * 2 ^ h) < (last + 1) * p) × (0 < p * 2 ^ h))
    → ((c * 2 ^ h < first) × (c ≡ beside (first / 2 ^ h))) ⊎ ((first ≤ c * 2 ^ h) × (c ≡ beside (last / 2 ^ h)))
half_core p h q c first last pos ordered half met_low met_high apart =
    let w : ℕ = 2 ^ h in
    let some : 0 < w = pow_pos h in
    let bytes : 1 ≤ p * w = size_pos p h pos in
    let next : h + 1 ≡ suc h = omega arith in
    let d : p * 2 ^ suc h ≡ 2 * (p * w) = ap (λ n. p * 2 ^ n) (sym next) ∙ double p h in
    let whole : q * (p * 2 ^ suc h) ≡ 2 * q * w * p = rw d (omega arith) in
    let size : p * 2 ^ suc h ≡ 2 * w * p = rw d (omega arith) in
    let here : c * (p * w) ≡ c * w * p = times c p w in
    let one : p * w ≡ w * p = omega arith in
    let below : first < 2 * q * w + 2 * w = lt_cancel first (2 * q * w + 2 * w) p (omega arith) in
    let above : 2 * q * w < last + 1 = lt_cancel (2 * q * w) (last + 1) p (omega arith) in
    let left_part : c * (p * w) + p * w ≤ first * p → ((c * w < first) × (c ≡ beside (first / w))) ⊎ ((first ≤ c * w) × (c ≡ beside (last / w))) = λ before.
    let ends : c * w + w ≤ first = le_cancel (c * w + w) first p pos (omega arith) in
    elim half [
      | inl low ↦
          let cw : c * w ≡ 2 * q * w = ap (λ n. n * w) low in
          let f : first / w ≡ 2 * q + 1 = quotient (2 * q + 1) w first (omega arith) (omega arith) in
          let odd : (2 * q + 1) % 2 ≡ 1 = omega arith in
          let b : beside (first / w) ≡ 2 * q + 1 - 1 = ap beside f ∙ beside_odd (2 * q + 1) odd in
          inl (omega arith, omega arith)
      | inr high ↦ absurd (let cw : c * w ≡ 2 * q * w + w = rw high (omega arith) in omega arith)
    ] in
    let right_part : (last + 1) * p ≤ c * (p * w) → ((c * w < first) × (c ≡ beside (first / w))) ⊎ ((first ≤ c * w) × (c ≡ beside (last / w))) = λ after.
    let begins : last + 1 ≤ c * w = le_cancel (last + 1) (c * w) p pos (omega arith) in
    elim half [
      | inl low ↦ absurd (let cw : c * w ≡ 2 * q * w = ap (λ n. n * w) low in omega arith)
      | inr high ↦
          let cw : c * w ≡ 2 * q * w + w = rw high (omega arith) in
          let l : last / w ≡ 2 * q = quotient (2 * q) w last (omega arith) (omega arith) in
          let even : 2 * q % 2 ≡ 0 = omega arith in
          let b : beside (last / w) ≡ 2 * q + 1 = ap beside l ∙ beside_even (2 * q) even in
          inr (omega arith, omega arith)
    ] in
    elim (cases_lt (first * p) (c * (p * w) + p * w)) [
      | inr before ↦ left_part before
      | inl lt ↦ elim (cases_lt (c * (p * w)) ((last + 1) * p)) [
        | inl under ↦ absurd (apart (lt, under, bytes))
        | inr after ↦ right_part after
      ]
    ]

-- the height that has ranges of that size
pub height_is : HeightsHold → (p h : ℕ) → 1 ≤ p → height_of p (p * 2 ^ h) ≡ h
height_is heights p h pos =
    let is = heights p (p * 2 ^ h) pos in
    let k : ℕ = height_of p (p * 2 ^ h) in
    let low : k ≤ h = is.least h (omega arith) in
    elim (cases_lt k h) [
      | inl lt ↦ absurd (let up : p * 2 ^ (k + 1) ≤ p * 2 ^ h = taller p (k + 1) h (omega arith) in let reach : p * 2 ^ h ≤ p * 2 ^ k = is.reaches in omega (arith, double p k, size_pos p k pos))
      | inr ge ↦ omega arith
    ]

-- each height below a root's has a place among those of an edge
pub height_few : HeightsHold → SpanOfSome → (p n h : ℕ) → 4 ≤ p → span_of p n ≤ 2 ^ 40 → h < height_of p n → h < 39
height_few heights span p n h wide fits low =
    elim (cases_lt 0 n) [
      | inr none ↦ absurd (let e : height_of p n ≤ 0 = (heights p n (omega arith)).least 0 (omega arith) in omega arith)
      | inl some ↦ elim (cases_lt h 39) [
        | inl done ↦ done
        | inr ge ↦ absurd (
            let two : 0 < 2 = omega arith in
            let root : span_of p n ≡ p * 2 ^ height_of p n = span p n some in
            let le : 39 ≤ height_of p n = omega arith in
            let tall : 2 ^ 39 ≤ 2 ^ height_of p n = pow-le-pow_right two le in
            let e : 4 * 2 ^ 39 ≤ p * 2 ^ height_of p n = mul-le 4 (2 ^ 39) p (2 ^ height_of p n) wide tall in
            omega arith)
      ]
    ]

-- the range is one of the ranges beside an edge
pub record IsPlaced (p : ℕ) (touch : Touch) (range : Range) : Type 0 where
  pub h : ℕ
  pub low : h < height_of p touch.size
  pub size : range.size ≡ p * 2 ^ h
  pub some : 1 ≤ range.size
  pub fits : range.size ≤ span_of p touch.size
  pub of_first : range.offset / p < touch.first → range ≡ tree_range p h (beside (touch.first / 2 ^ h))
  pub of_last : touch.first ≤ range.offset / p → range ≡ tree_range p h (beside (touch.last / 2 ^ h))

half_at : HeightsHold → SpanOfNone → SpanOfSome → (p h q c : ℕ) (touch : Touch) (range : Range) → 1 ≤ p → touch.first ≤ touch.last → (c ≡ 2 * q) ⊎ (c ≡ 2 * q + 1) → range ≡ tree_range p h c
    → IsRowRange p touch (tree_range p (suc h) q) → ¬ Meets p touch range → IsPlaced p touch range
half_at heights no_span span p h q c touch range pos ordered half is row apart =
    let w : ℕ = 2 ^ h in
    let s : ℕ = p * w in
    let top : ℕ = height_of p touch.size in
    let next : h + 1 ≡ suc h = omega arith in
    let d : p * 2 ^ suc h ≡ 2 * s = ap (λ n. p * 2 ^ n) (sym next) ∙ double p h in
    let bytes : 1 ≤ s = size_pos p h pos in
    let inside : q * (p * 2 ^ suc h) + p * 2 ^ suc h ≤ span_of p touch.size = row.within in
    let live : 1 ≤ touch.size = elim (cases_lt 0 touch.size) [
      | inl some ↦ some
      | inr none ↦ absurd (let e : touch.size ≡ 0 = omega arith in let f : span_of p touch.size ≡ 0 = ap (span_of p) e ∙ no_span p in omega arith)
    ] in
    let root : span_of p touch.size ≡ p * 2 ^ top = span p touch.size live in
    let lower : h < top = elim (cases_lt h top) [
      | inl lt ↦ lt
      | inr ge ↦ absurd (let e : p * 2 ^ top ≤ s = taller p top h ge in omega arith)
    ] in
    let P : Range → Type 0 = λ r. ¬ Meets p touch r in
    let untouched : ¬ Meets p touch (tree_range p h c) = subst P is apart in
    let side : ((c * w < touch.first) × (c ≡ beside (touch.first / w))) ⊎ ((touch.first ≤ c * w) × (c ≡ beside (touch.last / w))) =
    half_core p h q c touch.first touch.last pos ordered half row.met.0 row.met.1 untouched in
    let offset : range.offset ≡ c * s = ap (λ (r : Range). r.offset) is in
    let size : range.size ≡ s = ap (λ (r : Range). r.size) is in
    let number : range.offset / p ≡ c * w = ap (λ n. n / p) (offset ∙ times c p w) ∙ mul-div_cancel (c * w) pos in
    record {
      h = h;
      low = lower;
      size = size;
      some = omega arith;
      fits = omega arith;
      of_first = λ lt. elim side [
        | inl first ↦ is ∙ ap (tree_range p h) first.1
        | inr last ↦ absurd (let from : touch.first ≤ c * w = last.0 in omega arith)
      ];
      of_last = λ le. elim side [
        | inl first ↦ absurd (let before : c * w < touch.first = first.0 in omega arith)
        | inr last ↦ is ∙ ap (tree_range p h) last.1
      ];
    }

-- an untouched half, by its node's height and number
by_node : HeightsHold → SpanOfNone → SpanOfSome → LowHalvesAlign → HighHalvesAlign → (p H q : ℕ) (touch : Touch) (range node : Range) → 1 ≤ p → touch.first ≤ touch.last → node ≡ tree_range p H q
    → IsRowRange p touch node → p < node.size → (range ≡ left_half node) ⊎ (range ≡ right_half node) → ¬ Meets p touch range → IsPlaced p touch range
by_node heights no_span span low high p zero q touch range node pos ordered is row inner half apart =
    absurd (let e : node.size ≡ p * 2 ^ 0 = ap (λ (r : Range). r.size) is in omega arith)
by_node heights no_span span low high p (suc h) q touch range node pos ordered is row inner half apart =
    let P : Range → Type 0 = λ n. IsRowRange p touch n in
    let row' : IsRowRange p touch (tree_range p (suc h) q) = subst P is row in
    elim half [
      | inl left ↦ half_at heights no_span span p h q (2 * q) touch range pos ordered (inl refl) (left ∙ ap left_half is ∙ low p h q) row' apart
      | inr right ↦ half_at heights no_span span p h q (2 * q + 1) touch range pos ordered (inr refl) (right ∙ ap right_half is ∙ high p h q) row' apart
    ]

untouched_half : HeightsHold → SpanOfNone → SpanOfSome → LowHalvesAlign → HighHalvesAlign → (p : ℕ) (touch : Touch) (range : Range) → 1 ≤ p → touch.first ≤ touch.last → IsUntouchedHalf p touch range → IsPlaced p touch range
untouched_half heights no_span span low high p touch range pos ordered is =
    by_node heights no_span span low high p is.of_row.aligned.0 is.of_row.aligned.1 touch range is.node pos ordered is.of_row.aligned.2 is.of_row is.inner is.half is.untouched

-- ---- pages
page_number : (p i : ℕ) (range : Range) → 1 ≤ p → range ≡ page_range p i → (range.size ≡ p) × (range.offset / p ≡ i)
page_number p i range pos is =
    let offset : range.offset ≡ i * p = ap (λ (r : Range). r.offset) is in
    let size : range.size ≡ p = ap (λ (r : Range). r.size) is in
    (size, ap (λ n. n / p) offset ∙ mul-div_cancel i pos)

-- a border that is no edge's page is beside an edge
pub placed : HeightsHold → SpanOfNone → SpanOfSome → LowHalvesAlign → HighHalvesAlign → (p : ℕ) (touch : Touch) (range : Range) → 1 ≤ p → touch.first ≤ touch.last
    → ¬ ((range.size ≡ p) × (range.offset / p ≡ touch.first)) → ¬ ((range.size ≡ p) × (range.offset / p ≡ touch.last)) → IsBorder p touch range → IsPlaced p touch range
placed heights no_span span low high p touch range pos ordered not_first not_last is =
    elim is [
      | inl half ↦ untouched_half heights no_span span low high p touch range pos ordered half
      | inr page ↦ elim page [
        | inl first ↦ absurd (not_first (page_number p touch.first range pos first))
        | inr last ↦ absurd (not_last (page_number p touch.last range pos last))
      ]
    ]

-- ---- which border it is
-- a border of a page's bytes is the page of its number
aligned_page : (p h c page : ℕ) (range : Range) → 1 ≤ p → range ≡ tree_range p h c → range.size ≡ p → range.offset / p ≡ page → range ≡ page_range p page
aligned_page p h c page range pos is size number =
    let e : p * 2 ^ h ≡ p = sym (ap (λ (r : Range). r.size) is) ∙ size in
    let offset : range.offset ≡ c * p = ap (λ (r : Range). r.offset) is ∙ ap (λ n. c * n) e in
    let same : c ≡ page = sym (mul-div_cancel c pos) ∙ ap (λ n. n / p) (sym offset) ∙ number in
    let made : ℕ → ℕ → Range = λ i n. record { offset = i * n; size = n } in
    is ∙ ap (made c) e ∙ ap (λ i. made i p) same

pub page_numbered : HeightsHold → SpanOfNone → SpanOfSome → LowHalvesAlign → HighHalvesAlign → (p page : ℕ) (touch : Touch) (range : Range) → 1 ≤ p → touch.first ≤ touch.last
    → IsBorder p touch range → range.size ≡ p → range.offset / p ≡ page → range ≡ page_range p page
page_numbered heights no_span span low high p page touch range pos ordered is size number =
    elim is [
      | inl half ↦
          let at = untouched_half heights no_span span low high p touch range pos ordered half in
          elim (cases_lt (range.offset / p) touch.first) [
            | inl before ↦ aligned_page p at.h (beside (touch.first / 2 ^ at.h)) page range pos (at.of_first before) size number
            | inr after ↦ aligned_page p at.h (beside (touch.last / 2 ^ at.h)) page range pos (at.of_last after) size number
          ]
      | inr edge ↦ elim edge [
        | inl first ↦ first ∙ ap (page_range p) (sym (page_number p touch.first range pos first).1 ∙ number)
        | inr last ↦ last ∙ ap (page_range p) (sym (page_number p touch.last range pos last).1 ∙ number)
      ]
    ]

-- the others stand beside the first page's way down or beside the last page's, at the height that the code computes
abbrev pub StandsBeside : ℕ → Touch → ℕ → ℕ → Range → Type 0
StandsBeside p touch page level range = (level < height_of p touch.size) × (range ≡ tree_range p level (beside (page / 2 ^ level)))

level_is : HeightsHold → (p h level size : ℕ) → 1 ≤ p → size ≡ p * 2 ^ h → level ≡ height_of p size → level ≡ h
level_is heights p h level size pos is code = code ∙ ap (height_of p) is ∙ height_is heights p h pos

pub first_side : HeightsHold → (p level : ℕ) (touch : Touch) (range : Range) → 1 ≤ p → IsPlaced p touch range → level ≡ height_of p range.size
    → range.offset / p < touch.first → StandsBeside p touch touch.first level range
first_side heights p level touch range pos at code before =
    let same : level ≡ at.h = level_is heights p at.h level range.size pos at.size code in
    let P : ℕ → Type 0 = λ h. StandsBeside p touch touch.first h range in
    subst P (sym same) (at.low, at.of_first before)

pub last_side : HeightsHold → (p level : ℕ) (touch : Touch) (range : Range) → 1 ≤ p → IsPlaced p touch range → level ≡ height_of p range.size
    → touch.first ≤ range.offset / p → StandsBeside p touch touch.last level range
last_side heights p level touch range pos at code after =
    let same : level ≡ at.h = level_is heights p at.h level range.size pos at.size code in
    let P : ℕ → Type 0 = λ h. StandsBeside p touch touch.last h range in
    subst P (sym same) (at.low, at.of_last after)
