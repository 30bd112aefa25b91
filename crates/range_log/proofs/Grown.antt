-- What a log says of a blob that grows from its end: facts on touches alone.
use Rattle.std.proofs.Common.{◌≡◌, ℕ, ◌+◌, ◌-◌, ◌*◌, ◌/◌, ◌<◌, ◌≤◌, zero, suc, length, arith, refl, ap, ◌∙◌, max}
use Rattle.std.specs.List.{range_with_len}
use Rattle.std.proofs.lemmas.List.{length-map}
use Rattle.std.proofs.lemmas.List.FromFn.{length-range_with_len, get_or-map-range_with_len}
use Rattle.std.proofs.lemmas.Nat.{le-div}
use Rattle.tree_geom.specs.declared.touch.Touch.{Touch}
use Rattle.tree_geom.specs.Geometry.{no_touch}
use Rattle.range_log.specs.Log.{touch_at, size_at}
use Rattle.range_log.specs.Laws.{TouchesAre, EachTouchIs, SizesAre, LogsAreGrown}
use Rattle.range_log.specs.Extents.{extent_at, size_after, touch_of, touches}

pub length-touches : TouchesAre
unfolding touches
length-touches p us = length-map (range_with_len 1 (length us)) (λ k. touch_of p us k) ∙ length-range_with_len 1 (length us)

pub touch-touches : EachTouchIs
unfolding touches
touch-touches p us k h = get_or-map-range_with_len (λ j. touch_of p us j) 1 (length us) k (suc k) no_touch h (omega arith)

pub size-touches : SizesAre
size-touches p us zero h = refl
size-touches p us (suc k) h = ap (λ (t : Touch). t.size) (touch-touches p us k (omega arith))

-- ---- the pages of the bytes at to at + len - 1
first_page : (p at size : ℕ) → 1 ≤ p → at ≤ size → at / p * p ≤ size
first_page p at size pos h = omega arith

pub pages_rise : (p a b : ℕ) → 1 ≤ p → a ≤ b → a / p ≤ b / p
pages_rise p a b pos h = le-div (a / p) b p pos (first_page p a b pos h)

last_page : (p at len size : ℕ) → 1 ≤ p → 1 ≤ len → (at + len - 1) / p * p < max size (at + len)
last_page p at len size pos some = let e : (at + len - 1) / p * p ≤ at + len - 1 = first_page p (at + len - 1) (at + len - 1) pos (omega arith) in omega arith

page_end : (p at len size : ℕ) → 1 ≤ p → size < max size (at + len) → max size (at + len) ≤ ((at + len - 1) / p + 1) * p
page_end p at len size pos grows =
    let e : at + len - 1 < ((at + len - 1) / p + 1) * p = omega arith in
    omega arith

pub grown_updates : LogsAreGrown
grown_updates p us pos bounds =
    let within : (k : ℕ) → k < length (touches p us) → k < length us = λ k h. omega (arith, h, length-touches p us) in
    let is : (k : ℕ) → k < length (touches p us) → touch_at (touches p us) (suc k) ≡ touch_of p us (suc k) = λ k h. touch-touches p us k (within k h) in
    let size : (k : ℕ) → k ≤ length (touches p us) → size_at (touches p us) k ≡ size_after us k = λ k h. size-touches p us k (omega (arith, h, length-touches p us)) in
    record {
      begins = λ k h. rw (is k h, size k (omega (arith, h))) (first_page p (extent_at us (suc k)).at (size_after us k) pos (bounds k (within k h)).0);
      ordered = λ k h. rw (is k h) (pages_rise p (extent_at us (suc k)).at ((extent_at us (suc k)).at + (extent_at us (suc k)).len - 1) pos (omega (arith, (bounds k (within k h)).1)));
      ends = λ k h. rw (is k h, size (suc k) (omega arith)) (last_page p (extent_at us (suc k)).at (extent_at us (suc k)).len (size_after us k) pos (bounds k (within k h)).1);
      rises = λ k h. rw (size k (omega (arith, h)), size (suc k) (omega arith)) (omega arith);
      reaches = λ k h. rw (is k h, size k (omega (arith, h)), size (suc k) (omega arith)) (λ lt. page_end p (extent_at us (suc k)).at (extent_at us (suc k)).len (size_after us k) pos lt);
    }
