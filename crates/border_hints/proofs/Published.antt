-- The newest versions of ranges in the published snapshot, from the root down.
use Rattle.std.proofs.Common.{◌≡◌, ◌⊎◌, ℕ, zero, suc, ◌+◌, ◌*◌, ◌^◌, ◌<◌, ◌≤◌, List, length, arith, inl, inr, refl, ap, sym, subst, ◌∙◌}
use Rattle.std.proofs.lemmas.Bool.{cases_lt}
use Rattle.std.proofs.lemmas.Nat.{mul-le, pow_pos}
use Rattle.std.proofs.lemmas.List.{length-map}
use Rattle.std.proofs.Math.Nat.{pow-succ', pow-le-pow_right}
use Rattle.tree_geom.specs.declared.touch.Touch.{Touch}
use Rattle.tree_geom.specs.Geometry.{doublings, tree_range, height_of, span_of, left_half, right_half}
use Rattle.tree_geom.specs.Laws.{HeightsHold, SpanOfSome, RangesNest, LowHalvesAlign, HighHalvesAlign}
use Rattle.range_log.specs.Log.{newest_of, touch_at, size_at, HasNode}
use Rattle.range_log.specs.Laws.{Grown, LinksAgree, NewestOfNone, NewestHits, NewestHasNode, NewestIsNone, SizesAre, LogsAreGrown, ExtentsStand}
use Rattle.range_log.specs.Updates.{extents}
use Rattle.snapshot.specs.Versions.{Version, update_of_row, updates_of, size_now, IsVersion}
use Rattle.range_log.proofs.Bytes.{length-extents}
use Rattle.border_hints.specs.Numbered.{log_of}
use Rattle.tree_geom.proofs.Spans.{size_pos}

-- ---- the snapshot's log
pub log_grown : LogsAreGrown → ExtentsStand → (s : Version) → IsVersion s → 1 ≤ s.page_size → Grown s.page_size (log_of s)
log_grown grown stand s is pos = grown s.page_size (extents (updates_of s)) pos (stand (updates_of s) is.replayable).0

pub log_size : SizesAre → ExtentsStand → (s : Version) → IsVersion s → size_at (log_of s) (length s.rows) ≡ size_now s
log_size sizes stand s is =
    let count : length (updates_of s) ≡ length s.rows = length-map s.rows update_of_row in
    sizes s.page_size (extents (updates_of s)) (length s.rows) (omega (arith, length-extents (updates_of s), count))
    ∙ (stand (updates_of s) is.replayable).2 (length s.rows) (omega (arith, count))

pub double : (p h : ℕ) → p * 2 ^ (h + 1) ≡ 2 * (p * 2 ^ h)
double p h = let e : h + 1 ≡ suc h = omega arith in rw (e, pow-succ' 2 h) (omega arith)

pub taller : (p h top : ℕ) → h ≤ top → p * 2 ^ h ≤ p * 2 ^ top
taller p h top le = let two : 0 < 2 = omega arith in mul-le p (2 ^ h) p (2 ^ top) (omega arith) (pow-le-pow_right two le)

-- ---- the halves of a range
module _ (p : ℕ) (log : List Touch) (v : ℕ) where
  -- the newest version for a half, by that for the range
  pub half_of : LinksAgree → (h q c : ℕ) → (c ≡ 2 * q) ⊎ (c ≡ 2 * q + 1)
      → newest_of p log (newest_of p log v (tree_range p (h + 1) q)) (tree_range p h c) ≡ newest_of p log v (tree_range p h c)
  half_of agree h q c is =
      let s : ℕ = p * 2 ^ h in
      let d : p * 2 ^ (h + 1) ≡ 2 * s = double p h in
      let whole : q * (p * 2 ^ (h + 1)) ≡ 2 * q * s = rw d (omega arith) in
      elim is [
        | inl low ↦
            let e : c * s ≡ 2 * q * s = ap (λ n. n * s) low in
            agree p v log (tree_range p h c) (tree_range p (h + 1) q) (omega arith) (omega arith)
        | inr high ↦
            let e : c * s ≡ 2 * q * s + s = rw high (omega arith) in
            agree p v log (tree_range p h c) (tree_range p (h + 1) q) (omega arith) (omega arith)
      ]

  -- where none touches a range, none touches a half
  pub none_in_half : LinksAgree → NewestOfNone → (h q c : ℕ) → (c ≡ 2 * q) ⊎ (c ≡ 2 * q + 1)
      → 0 ≡ newest_of p log v (tree_range p (h + 1) q) → 0 ≡ newest_of p log v (tree_range p h c)
  none_in_half agree none h q c is zero_is =
      sym (sym (half_of agree h q c is) ∙ ap (λ j. newest_of p log j (tree_range p h c)) (sym zero_is) ∙ none p log (tree_range p h c))

  module _ (g : Grown p log) (pos : 1 ≤ p) (in_log : v ≤ length log) where
    -- a range that some version touches begins before the size
    pub begins_within : NewestIsNone → (h q : ℕ) → 1 ≤ newest_of p log v (tree_range p h q) → q * (p * 2 ^ h) < size_at log v
    begins_within none h q some =
        elim (cases_lt (q * (p * 2 ^ h)) (size_at log v)) [
          | inl lt ↦ lt
          | inr past ↦ absurd (let e : newest_of p log v (tree_range p h q) ≡ 0 = none p log v h q g in_log past in omega arith)
        ]

    -- below the root of version v, the newest version has a node for its range
    pub node_below : NewestIsNone → NewestHasNode → HeightsHold → SpanOfSome → RangesNest → (h q at : ℕ) → at ≡ newest_of p log v (tree_range p h q) → 1 ≤ at
        → h ≤ height_of p (size_at log v) → HasNode p log at (tree_range p h q)
    node_below none node heights span nest h q at is some low =
        let begun : q * (p * 2 ^ h) < size_at log v = begins_within none h q (omega arith) in
        let top : ℕ = height_of p (size_at log v) in
        let holds : size_at log v ≤ p * 2 ^ top = (heights p (size_at log v) pos).reaches in
        let ends : q * (p * 2 ^ h) + p * 2 ^ h ≤ 1 * (p * 2 ^ top) = nest p h top q 1 low (omega arith) in
        let e : span_of p (size_at log v) ≡ p * 2 ^ top = span p (size_at log v) (omega arith) in
        let within : q * (p * 2 ^ h) + p * 2 ^ h ≤ span_of p (size_at log v) = omega arith in
        let P : ℕ → Type 0 = λ j. HasNode p log j (tree_range p h q) in
        subst P (sym is) (node p log v h q pos g in_log (inr within) (omega arith))

-- the newest version that touches a page has a leaf for it
pub newest_leaf : NewestHasNode → (p : ℕ) (log : List Touch) (v page at : ℕ) → Grown p log → 1 ≤ p → v ≤ length log → at ≡ newest_of p log v (tree_range p 0 page) → 1 ≤ at
    → HasNode p log at (tree_range p 0 page)
newest_leaf node p log v page at g pos in_log is some =
    let P : ℕ → Type 0 = λ j. HasNode p log j (tree_range p 0 page) in
    subst P (sym is) (node p log v 0 page pos g in_log (inl refl) (omega arith))

-- a range from byte 0 on that holds the root of version v was touched by it
pub holds_root : NewestHits → NewestOfNone → (p : ℕ) (log : List Touch) (v h : ℕ) → Grown p log → 1 ≤ p → v ≤ length log → size_at log v ≤ p * 2 ^ h → newest_of p log v (tree_range p h 0) ≡ v
holds_root hits none p log zero h g pos le small = none p log (tree_range p h 0)
holds_root hits none p log (suc k) h g pos le small =
    let t : Touch = touch_at log (suc k) in
    let ordered : t.first ≤ t.last = g.ordered k le in
    let ends : t.last * p < size_at log (suc k) = g.ends k le in
    let first : t.first * p ≤ t.last * p = mul-le t.first p t.last p ordered (omega arith) in
    hits p log k (tree_range p h 0) (omega arith, omega (arith, size_pos p h pos), omega (arith, size_pos p h pos))

-- above the root of version v, the root lies in the lower half alone, if the range holds it
pub above_root : NewestHits → NewestOfNone → NewestIsNone → HeightsHold → (p : ℕ) (log : List Touch) (v : ℕ) → Grown p log → 1 ≤ p → v ≤ length log
    → (h q at : ℕ) → at ≡ newest_of p log v (tree_range p (h + 1) q) → 1 ≤ at → height_of p (size_at log v) ≤ h
    → (at ≡ newest_of p log v (tree_range p h (2 * q))) × (0 ≡ newest_of p log v (tree_range p h (2 * q + 1)))
above_root hits none past heights p log v g pos in_log h q at is some low =
    let size : ℕ = size_at log v in
    let s : ℕ = p * 2 ^ h in
    let d : p * 2 ^ (h + 1) ≡ 2 * s = double p h in
    let begun : q * (p * 2 ^ (h + 1)) < size = begins_within p log v g pos in_log past (h + 1) q (omega (arith, is)) in
    let top : ℕ = height_of p size in
    let reach : size ≤ p * 2 ^ top = (heights p size pos).reaches in
    let up : p * 2 ^ top ≤ s = taller p top h low in
    let zero_q : q ≡ 0 = elim (cases_lt 0 q) [
      | inl more ↦ absurd (let e : 1 * (p * 2 ^ (h + 1)) ≤ q * (p * 2 ^ (h + 1)) = mul-le 1 (p * 2 ^ (h + 1)) q (p * 2 ^ (h + 1)) more (omega arith) in omega arith)
      | inr none_more ↦ omega arith
    ] in
    let twice : 2 * q ≡ 0 = omega arith in
    let whole : newest_of p log v (tree_range p (h + 1) 0) ≡ v = holds_root hits none p log v (h + 1) g pos in_log (omega arith) in
    let half : newest_of p log v (tree_range p h 0) ≡ v = holds_root hits none p log v h g pos in_log (omega arith) in
    let upper : 1 * s ≤ (2 * q + 1) * s = mul-le 1 s (2 * q + 1) s (omega arith) (omega arith) in (
      is ∙ ap (λ n. newest_of p log v (tree_range p (h + 1) n)) zero_q ∙ whole ∙ sym (ap (λ n. newest_of p log v (tree_range p h n)) twice ∙ half),
      sym (past p log v h (2 * q + 1) g in_log (omega arith)),
    )

-- ---- a node's links
pub link_low : LinksAgree → LowHalvesAlign → (p : ℕ) (log : List Touch) (v h q at link : ℕ) → at ≡ newest_of p log v (tree_range p (h + 1) q)
    → link ≡ newest_of p log at (left_half (tree_range p (h + 1) q)) → link ≡ newest_of p log v (tree_range p h (2 * q))
link_low agree align p log v h q at link newest got =
    let e : h + 1 ≡ suc h = omega arith in
    got
    ∙ ap (λ k. newest_of p log at (left_half (tree_range p k q))) e
    ∙ ap (newest_of p log at) (align p h q)
    ∙ ap (λ j. newest_of p log j (tree_range p h (2 * q))) newest
    ∙ half_of p log v agree h q (2 * q) (inl refl)

pub link_high : LinksAgree → HighHalvesAlign → (p : ℕ) (log : List Touch) (v h q at link : ℕ) → at ≡ newest_of p log v (tree_range p (h + 1) q)
    → link ≡ newest_of p log at (right_half (tree_range p (h + 1) q)) → link ≡ newest_of p log v (tree_range p h (2 * q + 1))
link_high agree align p log v h q at link newest got =
    let e : h + 1 ≡ suc h = omega arith in
    got
    ∙ ap (λ k. newest_of p log at (right_half (tree_range p k q))) e
    ∙ ap (newest_of p log at) (align p h q)
    ∙ ap (λ j. newest_of p log j (tree_range p h (2 * q + 1))) newest
    ∙ half_of p log v agree h q (2 * q + 1) (inr refl)

pub inner_size : (p h : ℕ) → 1 ≤ p → p < p * 2 ^ (h + 1)
inner_size p h pos = let f : p * 1 ≤ p * 2 ^ h = mul-le p 1 p (2 ^ h) (omega arith) (pow_pos h) in omega (arith, double p h)

-- a tree over no bytes has the height 0
pub height_none : (p n : ℕ) → n ≡ 0 → 0 ≡ height_of p n
unfolding height_of doublings
height_none p n e = ap (height_of p) (sym e)
