-- The bytes of a page stay from its newest update on.
use Rattle.std.proofs.Common.{◌≡◌, ◌⊎◌, ℕ, ◌+◌, ◌-◌, ◌*◌, ◌/◌, ◌<◌, ◌≤◌, zero, suc, List, [], ◌∷◌, ◌++◌, length, take, drop, arith, inl, inr, refl, ap, sym, subst, ◌∙◌, max, length-take, length-append, length-drop, append_assoc}
use Rattle.std.specs.List.{range_with_len}
use Rattle.std.proofs.lemmas.Bool.{cases_lt}
use Rattle.std.proofs.lemmas.List.{take-append-le, take-take, drop-take, drop-drop, drop_at, length-take-le, length-map}
use Rattle.std.proofs.lemmas.List.FromFn.{length-range_with_len, get_or-map-range_with_len}
use Rattle.std.proofs.Math.Seq.{take-suc}
use Rattle.blob_model.specs.Content.{Update, put, content, content_from, offset_of, size_of}
use Rattle.tree_geom.specs.declared.touch.Touch.{Touch}
use Rattle.tree_geom.specs.Geometry.{Meets, page_range}
use Rattle.tree_geom.proofs.Touches.{meets_cases}
use Rattle.range_log.specs.Log.{touch_at, newest_of}
use Rattle.range_log.specs.Extents.{Extent, no_extent, extent_at, size_after, InBounds, touches}
use Rattle.range_log.specs.Updates.{update_at, no_update, extent_of, extents, Replayable, page_bytes}
use Rattle.range_log.specs.Laws.{ExtentsAre, EachExtentIs, ContentsGrow, PageBytesStay, ExtentsStand}
use Rattle.range_log.proofs.Greatest.{newest_hit, newest_miss}
use Rattle.range_log.proofs.Grown.{touch-touches}

pub length-extents : ExtentsAre
unfolding extents
length-extents us = length-map (range_with_len 1 (length us)) (λ k. extent_of us k) ∙ length-range_with_len 1 (length us)

pub extent_is : EachExtentIs
unfolding extents
extent_is us k h = get_or-map-range_with_len (λ j. extent_of us j) 1 (length us) k (suc k) no_extent h (omega arith)

pub content_append : (c : List ℕ) (xs ys : List Update) → content_from c (xs ++ ys) ≡ content_from (content_from c xs) ys
content_append c [] ys = refl
content_append c (x ∷ xs) ys = content_append (put c (offset_of x.place (length c)) x.bytes) xs ys

-- one more version's bytes
pub content_next : ContentsGrow
content_next us v h = ap (content_from []) (take-suc us v no_update h) ∙ content_append [] (take v us) (update_at us (suc v) ∷ [])

pub length-put : (c : List ℕ) (at : ℕ) (b : List ℕ) → at ≤ length c → length (put c at b) ≡ max (length c) (at + length b)
length-put c at b h = simp (length-append, length-drop, length-take) (omega arith)

pub size_is : (us : List Update) (v : ℕ) → Replayable us → v ≤ length us → size_after (extents us) v ≡ size_of us v
size_is us zero ok h = refl
size_is us (suc v) ok h =
    let c : List ℕ = content us v in
    let b : List ℕ = (update_at us (suc v)).bytes in
    let x : Extent = extent_of us (suc v) in
    let before : size_after (extents us) v ≡ length c = size_is us v ok (omega arith) in
    let e : extent_at (extents us) (suc v) ≡ x = extent_is us v (omega arith) in
    let at : (extent_at (extents us) (suc v)).at ≡ x.at = ap (λ (y : Extent). y.at) e in
    let len : (extent_at (extents us) (suc v)).len ≡ length b = ap (λ (y : Extent). y.len) e in
    let next : length (content us (suc v)) ≡ length (put c x.at b) = ap length (content_next us v (omega arith)) in
    let grown : length (put c x.at b) ≡ max (length c) (x.at + length b) = length-put c x.at b (ok v (omega arith)).0 in
    omega arith

pub bounds_hold : (us : List Update) → Replayable us → InBounds (extents us)
bounds_hold us ok k h =
    let in_list : k < length us = omega (arith, length-extents us) in
    let x : Extent = extent_of us (suc k) in
    let e : extent_at (extents us) (suc k) ≡ x = extent_is us k in_list in
    let at : (extent_at (extents us) (suc k)).at ≡ x.at = ap (λ (y : Extent). y.at) e in
    let len : (extent_at (extents us) (suc k)).len ≡ x.len = ap (λ (y : Extent). y.len) e in
    let size : size_after (extents us) k ≡ size_of us k = size_is us k ok (omega arith) in
    let was : (x.at ≤ size_of us k) × (1 ≤ x.len) = ok k in_list in
    (omega arith, omega arith)

pub extents_stand : ExtentsStand
extents_stand us ok = (bounds_hold us ok, length-extents us, λ v h. size_is us v ok h)

-- what lies before or after the bytes put stays
before_put : (p o at : ℕ) (c b : List ℕ) → at ≤ length c → o + p ≤ at → take p (drop o (put c at b)) ≡ take p (drop o c)
before_put p o at c b fits h =
    sym (drop-take o p (put c at b))
    ∙ ap (drop o) (ap (take (o + p)) (append_assoc (take at c) b (drop (at + length b) c))
    ∙ take-append-le (o + p) (take at c) (b ++ drop (at + length b) c) (omega (arith, length-take-le at c fits))
    ∙ take-take (o + p) at c h)
    ∙ drop-take o p c

after_put : (o at : ℕ) (c b : List ℕ) → at ≤ length c → at + length b ≤ o → drop o (put c at b) ≡ drop o c
after_put o at c b fits h =
    let m : ℕ = at + length b in
    let e : m + (o - m) ≡ o = omega arith in
    let front : length (take at c ++ b) ≡ m = length-append (take at c) b ∙ ap (λ n. n + length b) (length-take-le at c fits) in
    ap (λ n. drop n (put c at b)) (sym e)
    ∙ sym (drop-drop (o - m) m (put c at b))
    ∙ ap (drop (o - m)) (drop_at (take at c ++ b) (drop m c) m front)
    ∙ drop-drop (o - m) m c
    ∙ ap (λ n. drop n c) e

untouched : (p i at len : ℕ) → 1 ≤ p → 1 ≤ len → ¬ ((at / p * p < i * p + p) × (i * p < ((at + len - 1) / p + 1) * p) × (0 < p)) → (i * p + p ≤ at) ⊎ (at + len ≤ i * p)
untouched p i at len pos some miss =
    elim (cases_lt (at / p * p) (i * p + p)) [
      | inl a ↦ elim (cases_lt (i * p) (((at + len - 1) / p + 1) * p)) [
        | inl b ↦ absurd (miss (a, b, pos))
        | inr b ↦ inr (let e : at + len - 1 < ((at + len - 1) / p + 1) * p = omega arith in omega arith)
      ]
      | inr a ↦ inl (let e : at / p * p ≤ at = omega arith in omega arith)
    ]

page_kept : (p i at : ℕ) (c b : List ℕ) → at ≤ length c → (i * p + p ≤ at) ⊎ (at + length b ≤ i * p) → take p (drop (i * p) (put c at b)) ≡ take p (drop (i * p) c)
page_kept p i at c b fits apart =
    elim apart [
      | inl before ↦ before_put p (i * p) at c b fits before
      | inr after ↦ ap (take p) (after_put (i * p) at c b fits after)
    ]

-- an update that doesn't touch the page leaves its bytes
update_kept : (p v i : ℕ) (us : List Update) → 1 ≤ p → Replayable us → v < length us
    → ¬ Meets p (touch_at (touches p (extents us)) (suc v)) (page_range p i) → page_bytes p us (suc v) i ≡ page_bytes p us v i
update_kept p v i us pos ok h miss =
    let in_list : v < length (extents us) = omega (arith, length-extents us) in
    let x : Extent = extent_at (extents us) (suc v) in
    let y : Extent = extent_of us (suc v) in
    let b : List ℕ = (update_at us (suc v)).bytes in
    let e : x ≡ y = extent_is us v h in
    let at : x.at ≡ y.at = ap (λ (z : Extent). z.at) e in
    let len : x.len ≡ length b = ap (λ (z : Extent). z.len) e in
    let was : (y.at ≤ size_of us v) × (1 ≤ y.len) = ok v h in
    let P : Touch → Type 0 = λ t. Meets p t (page_range p i) in
    ap (λ c. take p (drop (i * p) c)) (content_next us v h)
    ∙ page_kept p i y.at (content us v) b was.0
    (elim (untouched p i x.at x.len pos (omega arith) (λ m. miss (subst P (sym (touch-touches p (extents us) v in_list)) m))) [
      | inl before ↦ inl (omega arith)
      | inr after ↦ inr (omega arith)
    ])

pub page_bytes_stay : PageBytesStay
unfolding newest_of
page_bytes_stay p zero i us pos ok h = refl
page_bytes_stay p (suc v) i us pos ok h =
    let log : List Touch = touches p (extents us) in
    elim (meets_cases p (touch_at log (suc v)) (page_range p i)) [
      | inl hit ↦ ap (λ n. page_bytes p us n i) (sym (newest_hit p log v (page_range p i) hit))
      | inr miss ↦
          update_kept p v i us pos ok h miss
          ∙ page_bytes_stay p v i us pos ok (omega arith)
          ∙ ap (λ n. page_bytes p us n i) (sym (newest_miss p log v (page_range p i) miss))
    ]
