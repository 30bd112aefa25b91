-- The visit bound by the pages, the height and the depths of leaves.
use Rattle.std.proofs.Common.{◌≡◌, ℕ, zero, suc, ◌+◌, ◌-◌, ◌*◌, ◌/◌, ◌%◌, ◌^◌, ◌<◌, ◌≤◌, length, arith, ap, sym, ◌∙◌, false}
use Rattle.std.proofs.lemmas.Bool.Decides.{nat_tests}
use Rattle.std.specs.Prelude.{◌==◌}
use Rattle.std.proofs.lemmas.List.FromFn.{length-range_with_len}
use Rattle.tree_geom.specs.declared.range.Range.{Range}
use Rattle.tree_geom.specs.Geometry.{Aligned, height_of, page_range, right_half}
use Rattle.range_log.specs.Visits.{pages_met, backs_of}
use Rattle.range_log.specs.Depths.{depth_of}
use Rattle.range_log.specs.Laws.{ExtentsStand, DepthCountsBacks}
use Rattle.range_log.specs.Walk.{nodes_visited, WalksAreBounded}
use Rattle.snapshot.specs.Versions.{Version, updates_of, size_now, HasNodeFor, IsVersion}
use Rattle.tree_geom.proofs.Spans.{page_pos}
use Rattle.range_log.proofs.Bytes.{length-extents}
use Rattle.range_reader.specs.Reading.{falls, log_of, newest_in, backs_in, bound, bound_of_tree}
use Rattle.range_reader.proofs.Among.{length-updates}
use Rattle.range_reader.proofs.Walking.{page_of_range, page_step, within_page}
use Rattle.range_log.proofs.Walk.{double}
use Rattle.range_reader.proofs.Rooted.{size_known, walk_bound}

-- a page has as many backs as its newest leaf is deep
pub backs_by_depth : DepthCountsBacks → ExtentsStand → (s : Version) → IsVersion s → (i : ℕ)
    → backs_of s.page_size (falls s) (length s.rows) i ≡ depth_of s.page_size (log_of s) (newest_in s (page_range s.page_size i)) i
backs_by_depth depths stand s is i =
    depths s.page_size (length s.rows) i (falls s) (page_pos s.page_size is.page_size) (stand (updates_of s) is.replayable).0 (omega (arith, length-extents (updates_of s), length-updates s))

-- at a page: as many backs as the leaf of its newest version is deep
pub page_depth : DepthCountsBacks → ExtentsStand → (s : Version) → IsVersion s → (at from n : ℕ) (r : Range) → at ≡ newest_in s r → HasNodeFor s at r → r.size ≡ s.page_size
    → r.offset ≤ from → from + n ≤ r.offset + r.size → 1 ≤ n → backs_in s from n ≡ depth_of s.page_size (log_of s) at (r.offset / s.page_size)
page_depth depths stand s is at from n r newest has whole le fits some =
    let p : ℕ = s.page_size in
    let pos : 1 ≤ p = page_pos p is.page_size in
    let i : ℕ = r.offset / p in
    let step = page_step s r from n pos has.aligned whole le fits some in
    let this : newest_in s (page_range p i) ≡ at = ap (newest_in s) (sym (page_of_range p r pos has.aligned whole)) ∙ sym newest in
    step.backs ∙ backs_by_depth depths stand s is i ∙ ap (λ k. depth_of p (log_of s) k i) this

-- the upper half of a range begins with a page
pub middle_page : (p : ℕ) (r : Range) → Aligned p r → p < r.size → (c : ℕ) × ((right_half r).offset ≡ c * p)
middle_page p r (zero, q, e) large = absurd (let s : r.size ≡ p * 2 ^ 0 = ap (λ (x : Range). x.size) e in let o : p * 2 ^ 0 ≡ p = omega arith in omega arith)
middle_page p r (suc k, q, e) large =
    let s : r.size ≡ p * 2 ^ suc k = ap (λ (x : Range). x.size) e in
    let o : r.offset ≡ q * (p * 2 ^ suc k) = ap (λ (x : Range). x.offset) e in
    let two : p * 2 ^ suc k ≡ 2 * (p * 2 ^ k) = double p k in
    let half : r.size / 2 ≡ p * 2 ^ k = omega arith in
    let low : r.offset ≡ 2 * q * (p * 2 ^ k) = o ∙ ap (λ m. q * m) two ∙ (let f : q * (2 * (p * 2 ^ k)) ≡ 2 * q * (p * 2 ^ k) = omega arith in f) in
    let high : (2 * q + 1) * 2 ^ k * p ≡ 2 * q * (p * 2 ^ k) + p * 2 ^ k = omega arith in
    ((2 * q + 1) * 2 ^ k, omega arith)

-- what the pages and the height decide
pub tree_part : (s : Version) (o n : ℕ) → 1 ≤ n → bound_of_tree s o n ≡ 2 * ((o + n - 1) / s.page_size + 1 - o / s.page_size) + 2 * height_of s.page_size (size_now s)
tree_part s o n some =
    let e : (n == 0) ≡ false = grind (arith, nat_tests) in
    rw e (ap (λ m. 2 * m + 2 * height_of s.page_size (size_now s)) (length-range_with_len (o / s.page_size) ((o + n - 1) / s.page_size + 1 - o / s.page_size)))

-- the bound is that and the backs
pub bound_is : ExtentsStand → (s : Version) → IsVersion s → (o n : ℕ) → 1 ≤ n → bound s o n ≡ bound_of_tree s o n + backs_in s o n
bound_is stand s is o n some =
    let e : (n == 0) ≡ false = grind (arith, nat_tests) in
    rw e (ap (λ z. 2 * length (pages_met s.page_size o n) + 2 * height_of s.page_size z + backs_in s o n) (size_known stand s is))

-- of bytes in one page: two nodes for the page, two for each level, and the page's backs
pub page_bound : ExtentsStand → (s : Version) → IsVersion s → (o n : ℕ) → 1 ≤ n → o % s.page_size + n ≤ s.page_size
    → bound s o n ≡ 2 + 2 * height_of s.page_size (size_now s) + backs_of s.page_size (falls s) (length s.rows) (o / s.page_size)
page_bound stand s is o n some fits =
    let page = within_page s o n (page_pos s.page_size is.page_size) some fits in
    omega (arith, bound_is stand s is o n some, tree_part s o n some, page.0, page.1)

pub bound_sum : ExtentsStand → (s : Version) → IsVersion s → (o n bytes page_size size : ℕ) → 1 ≤ n → bytes ≡ s.page_size → page_size ≡ s.page_size → size ≡ size_now s
    → 2 * ((o + n - 1) / bytes + 1 - o / bytes) + 2 * height_of page_size size + backs_in s o n ≡ bound s o n
bound_sum stand s is o n bytes page_size size some same same' is_size =
    let sum : ℕ → ℕ → ℕ → ℕ = λ b p z. 2 * ((o + n - 1) / b + 1 - o / b) + 2 * height_of p z + backs_in s o n in
    ap (λ b. sum b page_size size) same ∙ ap (λ p. sum s.page_size p size) same' ∙ ap (λ z. sum s.page_size s.page_size z) is_size
    ∙ ap (λ m. m + backs_in s o n) (sym (tree_part s o n some)) ∙ sym (bound_is stand s is o n some)

-- a walk without the backs is within that part
pub tree_walk_bound : WalksAreBounded → ExtentsStand → (s : Version) → IsVersion s → (o n : ℕ) → 1 ≤ n → o + n ≤ size_now s
    → nodes_visited (height_of s.page_size (size_now s)) 0 (o / s.page_size) ((o + n - 1) / s.page_size) ≤ bound_of_tree s o n
tree_walk_bound walks stand s is o n some fits =
    let w = walk_bound stand s is walks o n some fits in
    omega (arith, w, bound_is stand s is o n some)
