-- The ranges of a row's nodes, and the parts of its leaves.
use Rattle.std.proofs.Common.{◌≡◌, ◌⊎◌, ℕ, zero, suc, ◌+◌, ◌-◌, ◌*◌, ◌/◌, ◌^◌, ◌<◌, ◌≤◌, List, length, arith, inl, inr, refl, ap, sym, subst, ◌∙◌, true, false, Bool}
use Rattle.std.specs.Prelude.{◌==◌, ◌&&◌, not, if◌then◌else◌}
use Rattle.std.proofs.lemmas.Bool.{cases_order, false≢true}
use Rattle.std.proofs.lemmas.Bool.Decides.{nat_tests}
use Rattle.std.proofs.lemmas.Nat.{mul-le, pow_pos}
use Rattle.std.proofs.Math.Nat.{div-mul-le_self, lt-div-mul-add, mul-div_cancel}
use Rattle.tree_geom.specs.declared.range.Range.{Range}
use Rattle.tree_geom.specs.declared.touch.Touch.{Touch}
use Rattle.tree_geom.specs.Geometry.{tree_range, page_range, height_of, span_of, covers, touched_by, leaves_open, Meets}
use Rattle.tree_geom.specs.Laws.{HeightsHold, SpanOfSome, RangesNest, MeetsIsTrue, TouchesTellCover}
use Rattle.range_log.specs.Log.{newest_of, touch_at}
use Rattle.range_log.specs.Depths.{depth_of}
use Rattle.page_store.specs.Stored.{Cut, bytes_of_pages}
use Rattle.range_log.specs.Laws.{NewestHits, NewestMisses}
use Rattle.border_hints.specs.Numbered.{NumberedUpdate, own_touch, log_upto, IsValidTicket}
use Rattle.border_hints.specs.Borders.{IsRowRange, BorderLinks, AreBorders}
use Rattle.border_hints.proofs.Depths.{depth_whole}
use Rattle.tree_weaver.specs.Planned.{own_link, own_back, own_depth, own_leaf, own_inner, own_node, AreOwnBorders}
use Rattle.tree_geom.proofs.Spans.{page_pos, size_pos}
use Rattle.border_hints.proofs.Published.{double}

-- ---- the pages of some bytes
pub page_low : (at p i : ℕ) → 1 ≤ p → at / p ≤ i → at < i * p + p
page_low at p i pos le =
    let a : at < at / p * p + p = lt-div-mul-add pos in
    let b : at / p * p ≤ i * p = mul-le (at / p) p i p le (omega arith) in
    omega arith

pub page_high : (n p i : ℕ) → i ≤ n / p → i * p ≤ n
page_high n p i le =
    let a : n / p * p ≤ n = div-mul-le_self n p in
    let b : i * p ≤ n / p * p = mul-le i p (n / p) p le (omega arith) in
    omega arith

-- a page that the update stores anew it doesn't cover
pub uncovered : (whole rest : Bool) → (not whole && rest) ≡ true → whole ≡ false
uncovered true rest e = sym e
uncovered false rest e = refl

-- a page that the update touches and doesn't cover is its first or its last
pub uncovered_edge : TouchesTellCover → (at len p size i : ℕ) → 1 ≤ p → 1 ≤ len → at + len ≤ size → at / p ≤ i → i ≤ (at + len - 1) / p → covers p at len size i ≡ false
    → (i ≡ at / p) ⊎ (i ≡ (at + len - 1) / p)
uncovered_edge tells at len p size i pos some fits low high un =
    let t : Touch = touched_by p at len size in
    let is : leaves_open t i ≡ true = tells p at len size i pos some fits low high ∙ ap not un in
    elim (cases_order i t.first) [
      | inl e ↦ inl e
      | inr past ↦ elim (cases_order i t.last) [
        | inl e ↦ inr e
        | inr short ↦
            let first : (i == t.first) ≡ false = grind (arith, nat_tests, past) in
            let last : (i == t.last) ≡ false = grind (arith, nat_tests, short) in
            let none : leaves_open t i ≡ false = rw (first, last) refl in
            absurd (false≢true (sym none ∙ is))
      ]
    ]

-- ---- links
link_cases : (t : NumberedUpdate) → IsValidTicket t → t.version ≡ suc (t.version - 1)
link_cases t is = omega (arith, is.version)

pub link_hit : NewestHits → (t : NumberedUpdate) (range : Range) → IsValidTicket t → touch_at (log_upto t) t.version ≡ own_touch t
    → Meets t.snapshot.page_size (own_touch t) range → t.version ≡ own_link t range
link_hit hits t range is own met =
    let p : ℕ = t.snapshot.page_size in
    let k : ℕ = t.version - 1 in
    let e : t.version ≡ suc k = link_cases t is in
    let here : touch_at (log_upto t) (suc k) ≡ own_touch t = ap (touch_at (log_upto t)) (sym e) ∙ own in
    let P : Touch → Type 0 = λ u. Meets p u range in
    let took : newest_of p (log_upto t) (suc k) range ≡ suc k = hits p (log_upto t) k range (subst P (sym here) met) in
    e ∙ sym took ∙ ap (λ n. newest_of p (log_upto t) n range) (sym e)

pub link_miss : NewestMisses → (t : NumberedUpdate) (range : Range) → IsValidTicket t → touch_at (log_upto t) t.version ≡ own_touch t → ¬ Meets t.snapshot.page_size (own_touch t) range
    → newest_of t.snapshot.page_size (log_upto t) (t.version - 1) range ≡ own_link t range
link_miss misses t range is own apart =
    let p : ℕ = t.snapshot.page_size in
    let k : ℕ = t.version - 1 in
    let e : t.version ≡ suc k = link_cases t is in
    let here : touch_at (log_upto t) (suc k) ≡ own_touch t = ap (touch_at (log_upto t)) (sym e) ∙ own in
    let P : Touch → Type 0 = λ u. ¬ Meets p u range in
    sym (misses p (log_upto t) k range (subst P (sym here) apart)) ∙ ap (λ n. newest_of p (log_upto t) n range) (sym e)

-- ---- the nodes of a level
-- touched pages meet the ranges of a height from the first page's to the last page's
pub number_met : (p h n : ℕ) (u : Touch) → 1 ≤ p → u.first / 2 ^ h ≤ n → n ≤ u.last / 2 ^ h → Meets p u (tree_range p h n)
number_met p h n u pos from to =
    let w : ℕ = 2 ^ h in
    let wide : 1 ≤ w = pow_pos h in
    let begins : n * w ≤ u.last = page_high u.last w n to in
    let first : u.first < n * w + w = page_low u.first w n wide from in
    let scaled : n * w * p ≤ u.last * p = mul-le (n * w) p u.last p begins (omega arith) in
    let over : (u.first + 1) * p ≤ (n * w + w) * p = mul-le (u.first + 1) p (n * w + w) p (omega arith) (omega arith) in
    let offset : n * (p * w) ≡ n * w * p = omega arith in
    let size : p * w ≡ w * p = omega arith in
    let both : (n * w + w) * p ≡ n * w * p + w * p = omega arith in
    (omega arith, omega arith, size_pos p h pos)

-- and these have nodes in the row
pub level_range : HeightsHold → SpanOfSome → RangesNest → (p h q : ℕ) (u : Touch) → 1 ≤ p → 1 ≤ u.size → u.last * p < u.size → h ≤ height_of p u.size
    → u.first / 2 ^ h ≤ q → q ≤ u.last / 2 ^ h → IsRowRange p u (tree_range p h q)
level_range heights span nest p h q u pos some ends low from to =
    let w : ℕ = 2 ^ h in
    let s : ℕ = p * w in
    let top : ℕ = height_of p u.size in
    let reach : u.size ≤ p * 2 ^ top = (heights p u.size pos).reaches in
    let root : span_of p u.size ≡ p * 2 ^ top = span p u.size some in
    let begins : q * w ≤ u.last = page_high u.last w q to in
    let scaled : q * w * p ≤ u.last * p = mul-le (q * w) p u.last p begins (omega arith) in
    let offset : q * s ≡ q * w * p = omega arith in
    let inside : q * s + s ≤ 1 * (p * 2 ^ top) = nest p h top q 1 low (omega arith) in
    record {
      aligned = (h, q, refl);
      within = omega arith;
      met = number_met p h q u pos from to;
    }

-- a page's node is its leaf, a larger range's an inner node
pub node_leaf : (t : NumberedUpdate) (h q : ℕ) → 1 ≤ t.snapshot.page_size → h ≡ 0 → own_leaf t q ≡ own_node t (tree_range t.snapshot.page_size h q)
node_leaf t h q pos e =
    let p : ℕ = t.snapshot.page_size in
    let size : p * 2 ^ h ≡ p = rw e (omega arith) in
    let test : (p * 2 ^ h == p) ≡ true = grind (arith, nat_tests) in
    let number : q * (p * 2 ^ h) / p ≡ q = ap (λ n. q * n / p) size ∙ mul-div_cancel q pos in
    ap (own_leaf t) (sym number) ∙ sym (ap (λ b. if b then own_leaf t (q * (p * 2 ^ h) / p) else own_inner t (tree_range p h q)) test)

pub node_inner : (t : NumberedUpdate) (h q : ℕ) → t.snapshot.page_size < t.snapshot.page_size * 2 ^ h
    → own_inner t (tree_range t.snapshot.page_size h q) ≡ own_node t (tree_range t.snapshot.page_size h q)
node_inner t h q wide =
    let p : ℕ = t.snapshot.page_size in
    let test : (p * 2 ^ h == p) ≡ false = grind (arith, nat_tests) in
    sym (ap (λ b. if b then own_leaf t (q * (p * 2 ^ h) / p) else own_inner t (tree_range p h q)) test)

pub inner_wide : (p h : ℕ) → 1 ≤ p → 1 ≤ h → p < p * 2 ^ h
inner_wide p zero pos some = absurd (omega arith)
inner_wide p (suc h) pos some =
    let e : h + 1 ≡ suc h = omega arith in
    let d : p * 2 ^ suc h ≡ 2 * (p * 2 ^ h) = ap (λ n. p * 2 ^ n) (sym e) ∙ double p h in
    let f : p * 1 ≤ p * 2 ^ h = mul-le p 1 p (2 ^ h) (omega arith) (pow_pos h) in
    omega arith

-- ---- what the code tests and asks
not_not : (b : Bool) → not (not b) ≡ b
not_not true = refl
not_not false = refl

-- whether the update covers a page that it touches, as its touch tells
pub cover_told : TouchesTellCover → (t : NumberedUpdate) (page : ℕ) (u : Touch) (open' : Bool) → IsValidTicket t → (own_touch t).first ≤ page → page ≤ (own_touch t).last
    → u ≡ own_touch t → open' ≡ leaves_open u page → covers t.snapshot.page_size t.at t.len t.size page ≡ not open'
cover_told tells t page u open' is from to same told =
    let p : ℕ = t.snapshot.page_size in
    let whole : Bool = covers p t.at t.len t.size page in
    let e : open' ≡ not whole =
    told ∙ ap (λ (v : Touch). leaves_open v page) same ∙ tells p t.at t.len t.size page (page_pos p is.published.page_size) is.some (omega (arith, is.size)) from to in
    sym (not_not whole) ∙ ap not (sym e)

-- the back of a leaf that covers its page, and that of one that doesn't, as the borders tell it
pub covered_back : (t : NumberedUpdate) (page : ℕ) → covers t.snapshot.page_size t.at t.len t.size page ≡ true → 0 ≡ own_back t page
covered_back t page whole =
    sym (ap (λ b. if b then 0 else newest_of t.snapshot.page_size (log_upto t) (t.version - 1) (page_range t.snapshot.page_size page)) whole)

pub answered_back : (b : BorderLinks) (t : NumberedUpdate) (page answer : ℕ) → AreOwnBorders t b
    → ((log : List Touch) (k : ℕ) → AreBorders log k b → answer ≡ newest_of b.page_size log k (page_range b.page_size page))
    → covers t.snapshot.page_size t.at t.len t.size page ≡ false → answer ≡ own_back t page
answered_back b t page answer own told part =
    let newest : ℕ → ℕ = λ p. newest_of p (log_upto t) (t.version - 1) (page_range p page) in
    told (log_upto t) (t.version - 1) own.newest ∙ ap newest own.page_size ∙ sym (ap (λ b. if b then 0 else newest t.snapshot.page_size) part)

-- how deep a leaf lies that covers its page
pub covered_depth : MeetsIsTrue → TouchesTellCover → (t : NumberedUpdate) (page : ℕ) → IsValidTicket t → touch_at (log_upto t) t.version ≡ own_touch t
    → (own_touch t).first ≤ page → page ≤ (own_touch t).last
    → covers t.snapshot.page_size t.at t.len t.size page ≡ true → 0 ≡ own_depth t page
covered_depth met tells t page is own from to whole =
    let p : ℕ = t.snapshot.page_size in
    let k : ℕ = t.version - 1 in
    let e : k + 1 ≡ t.version = omega (arith, is.version) in
    let pos : 1 ≤ p = page_pos p is.published.page_size in
    let shut : leaves_open (own_touch t) page ≡ false = tells p t.at t.len t.size page pos is.some (omega (arith, is.size)) from to ∙ ap not whole in
    depth_whole met p (log_upto t) (own_touch t) k page pos (ap (touch_at (log_upto t)) e ∙ own) from to shut ∙ ap (λ n. depth_of p (log_upto t) n page) e

-- and another one, as the borders tell it
pub answered_depth : (b : BorderLinks) (t : NumberedUpdate) (page answer : ℕ) → IsValidTicket t → AreOwnBorders t b → touch_at (log_upto t) t.version ≡ own_touch t
    → ((log : List Touch) (k : ℕ) → AreBorders log k b → touch_at log (k + 1) ≡ b.touch → answer ≡ depth_of b.page_size log (k + 1) page) → answer ≡ own_depth t page
answered_depth b t page answer is borders own told =
    let k : ℕ = t.version - 1 in
    let e : k + 1 ≡ t.version = omega (arith, is.version) in
    told (log_upto t) k borders.newest (ap (touch_at (log_upto t)) e ∙ own ∙ sym borders.touch)
    ∙ ap (λ p. depth_of p (log_upto t) (k + 1) page) borders.page_size
    ∙ ap (λ n. depth_of t.snapshot.page_size (log_upto t) n page) e

-- ---- the code's ranges and pages
-- a page that the update touches and doesn't cover is an edge, as the borders tell it
pub own_edge : TouchesTellCover → (b : BorderLinks) (t : NumberedUpdate) (page : ℕ) → IsValidTicket t → b.touch ≡ own_touch t → (own_touch t).first ≤ page → page ≤ (own_touch t).last
    → covers t.snapshot.page_size t.at t.len t.size page ≡ false → (page ≡ b.touch.first) ⊎ (page ≡ b.touch.last)
own_edge tells b t page is same from to part =
    let P : Touch → Type 0 = λ u. (page ≡ u.first) ⊎ (page ≡ u.last) in
    let p : ℕ = t.snapshot.page_size in
    subst P (sym same) (uncovered_edge tells t.at t.len p t.size page (page_pos p is.published.page_size) is.some (omega (arith, is.size)) from to part)

-- the range of a node of the row, as the code tells it
pub own_range : HeightsHold → SpanOfSome → RangesNest → (t : NumberedUpdate) (h q : ℕ) → IsValidTicket t → h ≤ height_of t.snapshot.page_size t.size
    → (own_touch t).first / 2 ^ h ≤ q → q ≤ (own_touch t).last / 2 ^ h → IsRowRange t.snapshot.page_size (own_touch t) (tree_range t.snapshot.page_size h q)
own_range heights span nest t h q is low from to =
    let p : ℕ = t.snapshot.page_size in
    let e : (t.at + t.len - 1) / p * p ≤ t.at + t.len - 1 = div-mul-le_self (t.at + t.len - 1) p in
    level_range heights span nest p h q (own_touch t) (page_pos p is.published.page_size) (omega (arith, is.some, is.size)) (omega (arith, is.some, is.size)) low from to

pub own_fits : SpanOfSome → (t : NumberedUpdate) (h q z : ℕ) → IsValidTicket t → t.snapshot.page_size * 2 ^ height_of t.snapshot.page_size t.size ≤ 2 ^ 40
    → IsRowRange t.snapshot.page_size (own_touch t) (tree_range t.snapshot.page_size h q) → z ≡ t.snapshot.page_size * 2 ^ h → q * z + z ≤ 2 ^ 40
own_fits span t h q z is root row size =
    let p : ℕ = t.snapshot.page_size in
    let s : span_of p t.size ≡ p * 2 ^ height_of p t.size = span p t.size (omega (arith, is.some, is.size)) in
    let e : q * (p * 2 ^ h) + p * 2 ^ h ≤ span_of p t.size = row.within in
    let P : ℕ → Type 0 = λ n. q * n + n ≤ 2 ^ 40 in
    subst P (sym size) (omega arith)

pub stored_fits : (n len count p b : ℕ) (pages told : Cut) → told ≡ pages → n ≤ len → len ≡ length (bytes_of_pages pages.pages) → pages.page_size ≡ p
    → length (bytes_of_pages told.pages) ≤ count * told.page_size → count < 2 ^ 32 → b ≡ p → n ≤ 4294967295 * b
stored_fits n len count p b pages told e le is size enough few same =
    let P : Cut → Type 0 = λ c. length (bytes_of_pages c.pages) ≤ count * c.page_size in
    let all : length (bytes_of_pages pages.pages) ≤ count * pages.page_size = subst P e enough in
    let f : count * pages.page_size ≡ count * p = ap (λ m. count * m) size in
    let g : count * p ≤ 4294967295 * p = mul-le count p 4294967295 p (omega arith) (omega arith) in
    let h : 4294967295 * b ≡ 4294967295 * p = ap (λ m. 4294967295 * m) same in
    omega arith
