-- A descent by links comes to the newest version.
use Rattle.std.proofs.Common.{◌≡◌, ℕ, ◌+◌, ◌*◌, ◌/◌, ◌^◌, ◌<◌, ◌≤◌, zero, suc, List, length, arith, inl, inr, refl, ap, sym, subst, ◌∙◌, true, false}
use Rattle.std.specs.Prelude.{nat_lt, nat_le, ◌==◌}
use Rattle.std.proofs.lemmas.Bool.{cases_lt}
use Rattle.std.proofs.lemmas.Bool.Decides.{nat_tests}
use Rattle.std.proofs.lemmas.Nat.{mul-le}
use Rattle.std.proofs.Math.Nat.{pow-le-pow_right, pow-succ'}
use Rattle.tree_geom.specs.declared.range.Range.{Range}
use Rattle.tree_geom.specs.declared.touch.Touch.{Touch}
use Rattle.tree_geom.specs.Geometry.{left_half, right_half, tree_range, span_of, height_of, Meets}
use Rattle.tree_geom.proofs.Spans.{left_aligned, right_aligned, size_pos, ranges_nest, span_some, span_holds, span_none}
use Rattle.range_log.specs.Log.{touch_at, size_at, newest_of}
use Rattle.range_log.specs.Extents.{touches}
use Rattle.range_log.proofs.Parts.{Within, meets_wider, newest_within}
use Rattle.range_log.specs.Walk.{half_toward, descend, root_of, found, LinksFind, RootsStand}
use Rattle.range_log.proofs.Greatest.{newest_hit, newest_none}
use Rattle.range_log.proofs.Links.{newest_past}
use Rattle.range_log.specs.Laws.{Grown}
use Rattle.range_log.proofs.Grown.{grown_updates, length-touches}

pub double : (p h : ℕ) → p * 2 ^ suc h ≡ 2 * (p * 2 ^ h)
double p h = rw (pow-succ' 2 h) (omega arith)

-- the half towards an aligned range has a place of its own among the ranges of its height, and holds the range
pub half_is : (p h q top at : ℕ) → h ≤ top → Within (tree_range p h q) (tree_range p (suc top) at)
    → (c : ℕ) × (half_toward (tree_range p (suc top) at) (tree_range p h q) ≡ tree_range p top c) × Within (tree_range p h q) (tree_range p top c) × Within (tree_range p top c) (tree_range p (suc top) at)
half_is p h q top at le w =
    let r : Range = tree_range p (suc top) at in
    let t : Range = tree_range p h q in
    let left : left_half r ≡ tree_range p top (2 * at) = left_aligned p top at in
    let right : right_half r ≡ tree_range p top (2 * at + 1) = right_aligned p top at in
    let middle : r.offset + r.size / 2 ≡ (2 * at + 1) * (p * 2 ^ top) = ap (λ (x : Range). x.offset) right in
    let begin : r.offset ≡ 2 * at * (p * 2 ^ top) = ap (λ (x : Range). x.offset) left in
    let half : r.size / 2 ≡ p * 2 ^ top = ap (λ (x : Range). x.size) left in
    let whole : r.size ≡ 2 * (p * 2 ^ top) = omega (arith, half, begin, middle, double p top) in
    elim (cases_lt t.offset (r.offset + r.size / 2)) [
      | inl before ↦
          let test : nat_lt t.offset (r.offset + r.size / 2) ≡ true = grind (arith, nat_tests) in
          (2 * at, rw test left, (omega (arith, w, begin), omega (arith, begin, middle, half, ranges_nest p h top q (2 * at + 1) le (omega arith))), (omega (arith, begin), omega (arith, begin, whole)))
      | inr after ↦
          let test : nat_lt t.offset (r.offset + r.size / 2) ≡ false = grind (arith, nat_tests) in
          (2 * at + 1, rw test right, (omega (arith, middle), omega (arith, w, begin, whole)), (omega (arith, begin, middle), omega (arith, begin, whole)))
    ]

-- a range, of its two numbers
abbrev pub sized : ℕ → ℕ → Range
sized o s = record { offset = o; size = s }

-- an aligned range within one of its own size is that one
same_range : (p h q at : ℕ) → 1 ≤ p → Within (tree_range p h q) (tree_range p h at) → tree_range p h at ≡ tree_range p h q
same_range p h q at pos w =
    let same : at * (p * 2 ^ h) ≡ q * (p * 2 ^ h) = omega (arith, w) in
    ap (λ (o : ℕ). sized o (p * 2 ^ h)) same

stop : (most p : ℕ) (log : List Touch) (j : ℕ) (r target : Range) → r.size ≤ target.size → descend most p log j r target ≡ j
unfolding descend
stop zero p log j r target le = refl
stop (suc most) p log j r target le = let e : nat_le r.size target.size ≡ true = grind (arith, nat_tests) in rw (e, descend)

step_none : (most p : ℕ) (log : List Touch) (j : ℕ) (r target : Range) → target.size < r.size → newest_of p log j (half_toward r target) ≡ 0
    → descend (suc most) p log j r target ≡ 0
unfolding descend
step_none most p log j r target lt none =
    let e : nat_le r.size target.size ≡ false = grind (arith, nat_tests) in
    let f : (newest_of p log j (half_toward r target) == 0) ≡ true = grind (arith, nat_tests) in
    rw (e, f, descend)

step_on : (most p : ℕ) (log : List Touch) (j : ℕ) (r target : Range) → target.size < r.size → 1 ≤ newest_of p log j (half_toward r target)
    → descend (suc most) p log j r target ≡ descend most p log (newest_of p log j (half_toward r target)) (half_toward r target) target
unfolding descend
step_on most p log j r target lt some =
    let e : nat_le r.size target.size ≡ false = grind (arith, nat_tests) in
    let f : (newest_of p log j (half_toward r target) == 0) ≡ false = grind (arith, nat_tests) in
    rw (e, f, descend)

there : (most p : ℕ) (log : List Touch) (v at h q : ℕ) → 1 ≤ p → Within (tree_range p h q) (tree_range p h at)
    → descend most p log (newest_of p log v (tree_range p h at)) (tree_range p h at) (tree_range p h q) ≡ newest_of p log v (tree_range p h q)
there most p log v at h q pos w =
    stop most p log (newest_of p log v (tree_range p h at)) (tree_range p h at) (tree_range p h q) (omega arith)
    ∙ ap (newest_of p log v) (same_range p h q at pos w)

descent : (top most p : ℕ) (log : List Touch) (v at h q : ℕ) → 1 ≤ p → h ≤ top → top ≤ most + h → Within (tree_range p h q) (tree_range p top at)
    → descend most p log (newest_of p log v (tree_range p top at)) (tree_range p top at) (tree_range p h q) ≡ newest_of p log v (tree_range p h q)
descent zero most p log v at h q pos le enough w =
    let P : ℕ → Type 0 = λ j. Within (tree_range p h q) (tree_range p j at)
    → descend most p log (newest_of p log v (tree_range p j at)) (tree_range p j at) (tree_range p h q) ≡ newest_of p log v (tree_range p h q) in
    let e : h ≡ zero = omega arith in
    subst P e (there most p log v at h q pos) w
descent (suc top) zero p log v at h q pos le enough w =
    let P : ℕ → Type 0 = λ j. Within (tree_range p h q) (tree_range p j at)
    → descend zero p log (newest_of p log v (tree_range p j at)) (tree_range p j at) (tree_range p h q) ≡ newest_of p log v (tree_range p h q) in
    let e : h ≡ suc top = omega arith in
    subst P e (there zero p log v at h q pos) w
descent (suc top) (suc most) p log v at h q pos le enough w =
    elim (cases_lt h (suc top)) [
      | inr same ↦
          let P : ℕ → Type 0 = λ j. Within (tree_range p h q) (tree_range p j at)
          → descend (suc most) p log (newest_of p log v (tree_range p j at)) (tree_range p j at) (tree_range p h q) ≡ newest_of p log v (tree_range p h q) in
          let e : h ≡ suc top = omega arith in
          subst P e (there (suc most) p log v at h q pos) w
      | inl below ↦
          let r : Range = tree_range p (suc top) at in
          let t : Range = tree_range p h q in
          let j : ℕ = newest_of p log v r in
          let d = half_is p h q top at (omega arith) w in
          let half : Range = tree_range p top d.0 in
          let two : 0 < 2 = omega arith in
          let larger : t.size < r.size = (let e : p * 2 ^ h ≤ p * 2 ^ top = mul-le p (2 ^ h) p (2 ^ top) (omega arith) (pow-le-pow_right two (omega arith)) in omega (arith, double p top, size_pos p top pos)) in
          let next : newest_of p log j (half_toward r t) ≡ newest_of p log v half = ap (newest_of p log j) d.1 ∙ newest_within p log v half r d.3 in
          let rest : newest_of p log (newest_of p log v half) t ≡ newest_of p log v t = newest_within p log v t half d.2 in
          elim (cases_lt 0 (newest_of p log v half)) [
            | inl some ↦
                step_on most p log j r t larger (omega (arith, next, some))
                ∙ ap (λ i. descend most p log i (half_toward r t) t) next
                ∙ ap (λ s. descend most p log (newest_of p log v half) s t) d.1
                ∙ descent top most p log v d.0 h q pos (omega arith) (omega arith) d.2
            | inr none ↦
                let zero_link : newest_of p log v half ≡ 0 = omega arith in
                step_none most p log j r t larger (next ∙ zero_link)
                ∙ sym (newest_none p log t)
                ∙ ap (λ i. newest_of p log i t) (sym zero_link)
                ∙ rest
          ]
    ]

-- ---- from the root
pub root_meets : (p : ℕ) (log : List Touch) (v : ℕ) → 1 ≤ p → Grown p log → v < length log → Meets p (touch_at log (suc v)) (root_of p log (suc v))
root_meets p log v pos g in_log =
    let holds : size_at log (suc v) ≤ span_of p (size_at log (suc v)) = span_holds p (size_at log (suc v)) pos in
    let first : (touch_at log (suc v)).first * p ≤ (touch_at log (suc v)).last * p = mul-le (touch_at log (suc v)).first p (touch_at log (suc v)).last p (g.ordered v in_log) (omega arith) in
    (omega (arith, g.ends v in_log), (let e : 1 * p ≤ ((touch_at log (suc v)).last + 1) * p = mul-le 1 p ((touch_at log (suc v)).last + 1) p (omega arith) (omega arith) in omega arith), omega (arith, g.ends v in_log))

pub root_is : (p : ℕ) (log : List Touch) (v : ℕ) → 1 ≤ size_at log v → root_of p log v ≡ tree_range p (height_of p (size_at log v)) 0
root_is p log v some =
    let s : span_of p (size_at log v) ≡ p * 2 ^ height_of p (size_at log v) = span_some p (size_at log v) some in
    let z : 0 ≡ 0 * (p * 2 ^ height_of p (size_at log v)) = omega arith in
    ap (sized 0) s ∙ ap (λ o. sized o (p * 2 ^ height_of p (size_at log v))) z

pub roots_stand : RootsStand
roots_stand p zero us pos bounds some in_list = absurd (omega arith)
roots_stand p (suc v) us pos bounds some in_list =
    let log : List Touch = touches p us in
    let g : Grown p log = grown_updates p us pos bounds in
    let in_log : v < length log = omega (arith, length-touches p us) in
    record {
      version = (some, in_log);
      aligned = (height_of p (size_at log (suc v)), 0, root_is p log (suc v) (omega (arith, g.ends v in_log)));
      within = omega arith;
      met = root_meets p log v pos g in_log;
    }

found_past : (p : ℕ) (log : List Touch) (v : ℕ) (t : Range) → span_of p (size_at log v) ≤ t.offset → found p log v t ≡ 0
unfolding found
found_past p log v t past = let e : nat_le (span_of p (size_at log v)) t.offset ≡ true = grind (arith, nat_tests) in rw (e, found)

found_inside : (p : ℕ) (log : List Touch) (v : ℕ) (t : Range) → t.offset < span_of p (size_at log v)
    → found p log v t ≡ descend (height_of p (size_at log v)) p log v (root_of p log v) t
unfolding found
found_inside p log v t inside = let e : nat_le (span_of p (size_at log v)) t.offset ≡ false = grind (arith, nat_tests) in rw (e, found)

find_from_root : (p v h q : ℕ) (log : List Touch) → 1 ≤ p → Grown p log → v < length log → q * (p * 2 ^ h) < span_of p (size_at log (suc v))
    → descend (height_of p (size_at log (suc v))) p log (suc v) (root_of p log (suc v)) (tree_range p h q) ≡ newest_of p log (suc v) (tree_range p h q)
find_from_root p v h q log pos g in_log inside =
    let top : ℕ = height_of p (size_at log (suc v)) in
    let t : Range = tree_range p h q in
    let root : Range = root_of p log (suc v) in
    let some : 1 ≤ size_at log (suc v) = omega (arith, g.ends v in_log) in
    let span : span_of p (size_at log (suc v)) ≡ p * 2 ^ top = span_some p (size_at log (suc v)) some in
    let met : Meets p (touch_at log (suc v)) root = root_meets p log v pos g in_log in
    let is : root ≡ tree_range p top 0 = root_is p log (suc v) some in
    let from : newest_of p log (suc v) (tree_range p top 0) ≡ suc v = ap (newest_of p log (suc v)) (sym is) ∙ newest_hit p log v root met in
    elim (cases_lt top h) [
      | inl over ↦
          let two : 0 < 2 = omega arith in
          let larger : p * 2 ^ top ≤ p * 2 ^ h = mul-le p (2 ^ top) p (2 ^ h) (omega arith) (pow-le-pow_right two (omega arith)) in
          let first : q * (p * 2 ^ h) ≡ 0 = elim (cases_lt 0 q) [
            | inl later ↦ absurd (let e : 1 * (p * 2 ^ h) ≤ q * (p * 2 ^ h) = mul-le 1 (p * 2 ^ h) q (p * 2 ^ h) later (omega arith) in omega arith)
            | inr none ↦ (let e : q ≡ 0 = omega arith in let f : q * (p * 2 ^ h) ≡ 0 * (p * 2 ^ h) = ap (λ n. n * (p * 2 ^ h)) e in omega arith)
          ] in
          stop top p log (suc v) root t (omega arith)
          ∙ sym (newest_hit p log v t (meets_wider p (touch_at log (suc v)) root t (omega arith, omega arith) met))
      | inr under ↦
          let w : Within t (tree_range p top 0) = (omega arith, omega (arith, ranges_nest p h top q 1 under (omega arith))) in
          ap (λ s. descend top p log (suc v) s t) is
          ∙ ap (λ j. descend top p log j (tree_range p top 0) t) (sym from)
          ∙ descent top top p log (suc v) 0 h q pos under (omega arith) w
    ]

pub links_find : LinksFind
links_find p zero h q us pos bounds in_list =
    found_past p (touches p us) 0 (tree_range p h q) (let e : span_of p 0 ≡ 0 = span_none p in omega (arith, e)) ∙ sym (newest_none p (touches p us) (tree_range p h q))
links_find p (suc v) h q us pos bounds in_list =
    let log : List Touch = touches p us in
    let g : Grown p log = grown_updates p us pos bounds in
    let in_log : v < length log = omega (arith, length-touches p us) in
    elim (cases_lt (q * (p * 2 ^ h)) (span_of p (size_at log (suc v)))) [
      | inl inside ↦ found_inside p log (suc v) (tree_range p h q) inside ∙ find_from_root p v h q log pos g in_log inside
      | inr past ↦
          found_past p log (suc v) (tree_range p h q) past
          ∙ sym (newest_past p log (suc v) h q g in_log (omega (arith, span_holds p (size_at log (suc v)) pos)))
    ]
