-- The links of a node, by its height and number.
use Rattle.std.proofs.Common.{◌≡◌, ℕ, suc, ◌+◌, ◌-◌, ◌*◌, ◌/◌, ◌^◌, ◌<◌, ◌≤◌, List, arith, ap, sym, subst, ◌∙◌}
use Rattle.std.proofs.lemmas.Nat.{mul-le, pow_pos}
use Rattle.std.proofs.Math.Nat.{div-mul-le_self, lt-div-mul-add}
use Rattle.tree_geom.specs.declared.touch.Touch.{Touch}
use Rattle.tree_geom.specs.Geometry.{tree_range, left_half, right_half, height_of, Meets}
use Rattle.tree_geom.specs.Laws.{LowHalvesAlign, HighHalvesAlign}
use Rattle.tree_geom.proofs.Spans.{page_pos}
use Rattle.range_log.specs.Log.{newest_of, touch_at}
use Rattle.range_log.specs.Laws.{NewestHits, NewestMisses}
use Rattle.border_hints.specs.Numbered.{NumberedUpdate, own_touch, log_upto, IsValidTicket}
use Rattle.border_hints.specs.Borders.{beside, BorderLinks, AreBorders}
use Rattle.border_hints.proofs.Turning.{halved, beside_even, beside_odd}
use Rattle.tree_weaver.specs.Planned.{own_link, AreOwnBorders}
use Rattle.tree_weaver.proofs.Shapes.{page_high, number_met, link_hit, link_miss}

-- ---- the numbers of the ranges of a height
-- touched pages meet none before the first page's
number_before : (p h n : ℕ) (u : Touch) → n < u.first / 2 ^ h → ¬ Meets p u (tree_range p h n)
number_before p h n u lt met =
    let w : ℕ = 2 ^ h in
    let ends : (n + 1) * w ≤ u.first = page_high u.first w (n + 1) (omega arith) in
    let scaled : (n + 1) * w * p ≤ u.first * p = mul-le ((n + 1) * w) p u.first p ends (omega arith) in
    let same : n * (p * w) + p * w ≡ (n + 1) * w * p = omega arith in
    let late : u.first * p < n * (p * w) + p * w = met.0 in
    omega arith

-- and none behind the last page's
number_behind : (p h n : ℕ) (u : Touch) → u.last / 2 ^ h < n → ¬ Meets p u (tree_range p h n)
number_behind p h n u lt met =
    let w : ℕ = 2 ^ h in
    let wide : 0 < w = pow_pos h in
    let high : u.last < u.last / w * w + w = lt-div-mul-add wide in
    let up : (u.last / w + 1) * w ≤ n * w = mul-le (u.last / w + 1) w n w (omega arith) (omega arith) in
    let begins : u.last + 1 ≤ n * w = omega arith in
    let scaled : (u.last + 1) * p ≤ n * w * p = mul-le (u.last + 1) p (n * w) p begins (omega arith) in
    let same : n * (p * w) ≡ n * w * p = omega arith in
    let early : n * (p * w) < (u.last + 1) * p = met.1 in
    omega arith

-- the number of a range over touched pages is small
pub number_fits : (t : NumberedUpdate) (h q : ℕ) → IsValidTicket t → q ≤ (own_touch t).last / 2 ^ h → q ≤ 2 ^ 40
number_fits t h q is to =
    let p : ℕ = t.snapshot.page_size in
    let last : ℕ = (own_touch t).last in
    let a : q * 2 ^ h ≤ last = page_high last (2 ^ h) q to in
    let b : q * 1 ≤ q * 2 ^ h = mul-le q 1 q (2 ^ h) (omega arith) (pow_pos h) in
    let d : last * 1 ≤ last * p = mul-le last 1 last p (omega arith) (page_pos p is.published.page_size) in
    let e : last * p ≤ t.at + t.len - 1 = div-mul-le_self (t.at + t.len - 1) p in
    omega (arith, is.size, is.fits)

-- ---- the halves of a range
-- a page's range one height up, by that of the height
one_up : (page h : ℕ) → page / 2 ^ h / 2 ≡ page / 2 ^ suc h
one_up page h = let e : h + 1 ≡ suc h = omega arith in halved page h ∙ ap (λ l. page / 2 ^ l) e

-- a half before the first page's range of its height stands beside that
odd_half : (f n : ℕ) → f / 2 ≤ n / 2 → n < f → beside f ≡ n
odd_half f n le lt =
    let e : f - 1 ≡ n = omega arith in
    beside_odd f (omega arith) ∙ e

-- and one behind the last page's beside that one
even_half : (l n : ℕ) → n / 2 ≤ l / 2 → l < n → beside l ≡ n
even_half l n le lt =
    let e : l + 1 ≡ n = omega arith in
    beside_even l (omega arith) ∙ e

-- the halves of a range, by the height below
pub low_is : LowHalvesAlign → (p level q : ℕ) → 1 ≤ level → left_half (tree_range p level q) ≡ tree_range p (level - 1) (2 * q)
low_is align p level q above = let next : level ≡ suc (level - 1) = omega arith in ap (λ l. left_half (tree_range p l q)) next ∙ align p (level - 1) q

pub high_is : HighHalvesAlign → (p level q : ℕ) → 1 ≤ level → right_half (tree_range p level q) ≡ tree_range p (level - 1) (2 * q + 1)
high_is align p level q above = let next : level ≡ suc (level - 1) = omega arith in ap (λ l. right_half (tree_range p l q)) next ∙ align p (level - 1) q

-- a height below the root's, as the borders tell it
pub height_asked : (b : BorderLinks) (t : NumberedUpdate) (h : ℕ) → AreOwnBorders t b → h < height_of t.snapshot.page_size t.size → h < height_of b.page_size b.touch.size
height_asked b t h own low =
    let P : ℕ → Type 0 = λ p. h < height_of p b.touch.size in
    let Q : Touch → Type 0 = λ u. h < height_of t.snapshot.page_size u.size in
    subst P (sym own.page_size) (subst Q (sym own.touch) low)

-- the link for range number n of height h: u is what the update touches
module _ (t : NumberedUpdate) (is : IsValidTicket t) (own : touch_at (log_upto t) t.version ≡ own_touch t) (h n : ℕ) (u : Touch) (same : u ≡ own_touch t) where
  -- the update touches it
  pub link_own : NewestHits → u.first / 2 ^ h ≤ n → n ≤ u.last / 2 ^ h → t.version ≡ own_link t (tree_range t.snapshot.page_size h n)
  link_own hits from to =
      let P : Touch → Type 0 = λ v. (v.first / 2 ^ h ≤ n) × (n ≤ v.last / 2 ^ h) in
      let within : P (own_touch t) = subst P same (from, to) in
      link_hit hits t (tree_range t.snapshot.page_size h n) is own (number_met t.snapshot.page_size h n (own_touch t) (page_pos t.snapshot.page_size is.published.page_size) within.0 within.1)

  -- it stands beside the way down to an edge of what the update touches
  link_beside : NewestMisses → (edge : Touch → ℕ) (b : BorderLinks) (answer : ℕ) → AreOwnBorders t b
      → ((log : List Touch) (k : ℕ) → AreBorders log k b → answer ≡ newest_of b.page_size log k (tree_range b.page_size h (beside (edge b.touch / 2 ^ h))))
      → beside (edge (own_touch t) / 2 ^ h) ≡ n → ¬ Meets t.snapshot.page_size (own_touch t) (tree_range t.snapshot.page_size h n) → answer ≡ own_link t (tree_range t.snapshot.page_size h n)
  link_beside misses edge b answer borders told next apart =
      let p : ℕ = t.snapshot.page_size in
      let newest : ℕ → ℕ → ℕ = λ q m. newest_of q (log_upto t) (t.version - 1) (tree_range q h m) in
      told (log_upto t) (t.version - 1) borders.newest
      ∙ ap (λ q. newest q (beside (edge b.touch / 2 ^ h))) borders.page_size
      ∙ ap (λ v. newest p (beside (edge v / 2 ^ h))) borders.touch
      ∙ ap (newest p) next
      ∙ link_miss misses t (tree_range p h n) is own apart

  -- it comes before all that the update touches
  pub link_below : NewestMisses → (b : BorderLinks) (answer : ℕ) → AreOwnBorders t b
      → ((log : List Touch) (k : ℕ) → AreBorders log k b → answer ≡ newest_of b.page_size log k (tree_range b.page_size h (beside (b.touch.first / 2 ^ h))))
      → (own_touch t).first / 2 ^ suc h ≤ n / 2 → n < u.first / 2 ^ h → answer ≡ own_link t (tree_range t.snapshot.page_size h n)
  link_below misses b answer borders told from before =
      let first : ℕ = (own_touch t).first in
      let P : Touch → Type 0 = λ v. n < v.first / 2 ^ h in
      let short : n < first / 2 ^ h = subst P same before in
      let up = one_up first h in
      link_beside misses (λ v. v.first) b answer borders told (odd_half (first / 2 ^ h) n (omega (arith, up)) short) (number_before t.snapshot.page_size h n (own_touch t) short)

  -- it comes behind all that
  pub link_above : NewestMisses → (b : BorderLinks) (answer : ℕ) → AreOwnBorders t b
      → ((log : List Touch) (k : ℕ) → AreBorders log k b → answer ≡ newest_of b.page_size log k (tree_range b.page_size h (beside (b.touch.last / 2 ^ h))))
      → n / 2 ≤ (own_touch t).last / 2 ^ suc h → u.last / 2 ^ h < n → answer ≡ own_link t (tree_range t.snapshot.page_size h n)
  link_above misses b answer borders told to behind =
      let last : ℕ = (own_touch t).last in
      let P : Touch → Type 0 = λ v. v.last / 2 ^ h < n in
      let past : last / 2 ^ h < n = subst P same behind in
      let up = one_up last h in
      link_beside misses (λ v. v.last) b answer borders told (even_half (last / 2 ^ h) n (omega (arith, up)) past) (number_behind t.snapshot.page_size h n (own_touch t) past)
