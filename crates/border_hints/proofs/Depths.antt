-- How deep the newest lower leaf of a page lies, from the snapshot's on.
use Rattle.std.proofs.Common.{◌≡◌, ◌⊎◌, ℕ, suc, ◌+◌, ◌*◌, ◌%◌, ◌<◌, ◌≤◌, List, [], ◌∷◌, ◌++◌, length, map, arith, inl, inr, refl, ap, sym, ◌∙◌, true, false, Bool}
use Rattle.std.specs.Prelude.{if◌then◌else◌}
use Rattle.std.proofs.lemmas.Nat.{mul-le}
use Rattle.tree_geom.specs.declared.touch.Touch.{Touch}
use Rattle.tree_geom.specs.declared.node.Node.{Node}
use Rattle.tree_geom.specs.Geometry.{page_range, tree_range, meets_of, leaves_open}
use Rattle.tree_geom.specs.Nodes.{depth_in}
use Rattle.tree_geom.specs.Laws.{MeetsIsTrue, PagesAlign}
use Rattle.range_log.specs.Log.{touch_at}
use Rattle.range_log.specs.Depths.{fold_number, depth_of, depth_after}
use Rattle.range_log.specs.Laws.{TouchesAre, DepthsStay}
use Rattle.range_log.specs.Open.{open_at}
use Rattle.range_log.specs.Rows.{node_of}
use Rattle.range_log.specs.Extents.{Extent}
use Rattle.range_log.specs.Updates.{extents}
use Rattle.range_log.proofs.Nodes.{node_leaf, leaf_depth}
use Rattle.snapshot.specs.Versions.{Version, updates_of}
use Rattle.border_hints.specs.Numbered.{NumberedUpdate, log_of, own_touch, log_upto}
use Rattle.border_hints.specs.Borders.{BorderLinks}
use Rattle.border_hints.proofs.Tickets.{length-log_of, length-log_with}
use Rattle.border_hints.proofs.Turning.{touch_in, touch_waiting}
use Rattle.range_log.proofs.Depths.{depth_next}

-- an update that doesn't touch the page, and one that does
pub after_miss : (p : ℕ) (u : Touch) (i d : ℕ) → meets_of p u (page_range p i) ≡ false → d ≡ depth_after fold_number p u i d
after_miss p u i d miss = sym (ap (λ b. if b then (if leaves_open u i then suc d % fold_number else 0) else d) miss)

pub after_hit : (p : ℕ) (u : Touch) (i d : ℕ) (open_page : Bool) → meets_of p u (page_range p i) ≡ true → leaves_open u i ≡ open_page
    → depth_after fold_number p u i d ≡ (if open_page then suc d % fold_number else 0)
after_hit p u i d open_page hit is =
    ap (λ b. if b then (if leaves_open u i then suc d % fold_number else 0) else d) hit ∙ ap (λ b. if b then suc d % fold_number else 0) is

after_met : MeetsIsTrue → (p : ℕ) (u : Touch) (i d : ℕ) → 1 ≤ p → u.first ≤ i → i ≤ u.last → depth_after fold_number p u i d ≡ (if leaves_open u i then suc d % fold_number else 0)
after_met met p u i d pos from to =
    let low : u.first * p ≤ i * p = mul-le u.first p i p from (omega arith) in
    let high : (i + 1) * p ≤ (u.last + 1) * p = mul-le (i + 1) p (u.last + 1) p (omega arith) (omega arith) in
    after_hit p u i d (leaves_open u i) (met p u (page_range p i) (omega arith, omega arith, omega arith)) refl

depth_met : MeetsIsTrue → (p : ℕ) (log : List Touch) (u : Touch) (k i : ℕ) → 1 ≤ p → touch_at log (k + 1) ≡ u → u.first ≤ i → i ≤ u.last
    → depth_of p log (k + 1) i ≡ (if leaves_open u i then suc (depth_of p log k i) % fold_number else 0)
depth_met met p log u k i pos own from to =
    let e : k + 1 ≡ suc k = omega arith in
    ap (λ n. depth_of p log n i) e
    ∙ depth_next p log k i
    ∙ ap (λ v. depth_after fold_number p v i (depth_of p log k i)) (ap (touch_at log) (sym e) ∙ own)
    ∙ after_met met p u i (depth_of p log k i) pos from to

-- where it covers the page, its leaf has no backs
pub depth_whole : MeetsIsTrue → (p : ℕ) (log : List Touch) (u : Touch) (k i : ℕ) → 1 ≤ p → touch_at log (k + 1) ≡ u → u.first ≤ i → i ≤ u.last
    → leaves_open u i ≡ false → 0 ≡ depth_of p log (k + 1) i
depth_whole met p log u k i pos own from to whole =
    sym (depth_met met p log u k i pos own from to ∙ ap (λ b. if b then suc (depth_of p log k i) % fold_number else 0) whole)

-- where it doesn't, its leaf lies one deeper than the newest one before, or stores the page anew
pub depth_part : MeetsIsTrue → (p : ℕ) (log : List Touch) (u : Touch) (k i d : ℕ) → 1 ≤ p → touch_at log (k + 1) ≡ u → u.first ≤ i → i ≤ u.last
    → leaves_open u i ≡ true → d ≡ depth_of p log k i → (d + 1) % fold_number ≡ depth_of p log (k + 1) i
depth_part met p log u k i d pos own from to part is =
    let e : depth_of p log (k + 1) i ≡ suc (depth_of p log k i) % fold_number =
    depth_met met p log u k i pos own from to ∙ ap (λ b. if b then suc (depth_of p log k i) % fold_number else 0) part in
    let more : d + 1 ≡ suc (depth_of p log k i) = omega arith in
    ap (λ n. n % fold_number) more ∙ sym e

-- ---- what the borders tell of an edge's page
edge_within : (u : Touch) (page : ℕ) → u.first ≤ u.last → (page ≡ u.first) ⊎ (page ≡ u.last) → (u.first ≤ page) × (page ≤ u.last)
edge_within u page ordered edge =
    elim edge [
      | inl e ↦ (omega arith, omega arith)
      | inr e ↦ (omega arith, omega arith)
    ]

module _ (met : MeetsIsTrue) (b : BorderLinks) (page : ℕ) (pos : 1 ≤ b.page_size) (ordered : b.touch.first ≤ b.touch.last) (edge : (page ≡ b.touch.first) ⊎ (page ≡ b.touch.last)) where
  pub whole_edge : leaves_open b.touch page ≡ false → (log : List Touch) (k : ℕ) → touch_at log (k + 1) ≡ b.touch → 0 ≡ depth_of b.page_size log (k + 1) page
  whole_edge whole log k own =
      let within = edge_within b.touch page ordered edge in
      depth_whole met b.page_size log b.touch k page pos own within.0 within.1 whole

  pub part_edge : leaves_open b.touch page ≡ true → (d : ℕ) (log : List Touch) (k : ℕ) → d ≡ depth_of b.page_size log k page → touch_at log (k + 1) ≡ b.touch
      → (d + 1) % fold_number ≡ depth_of b.page_size log (k + 1) page
  part_edge part d log k is own =
      let within = edge_within b.touch page ordered edge in
      depth_part met b.page_size log b.touch k page d pos own within.0 within.1 part is

-- ---- from the snapshot on
-- what the leaf of a page in a row says
pub leaf_says : PagesAlign → (s : Version) (j page : ℕ) (node : Node) → 1 ≤ s.page_size → node ≡ node_of s.page_size (extents (updates_of s)) j (tree_range s.page_size 0 page)
    → depth_in node ≡ depth_of s.page_size (log_of s) j page
leaf_says align s j page node pos found =
    let us : List Extent = extents (updates_of s) in
    ap depth_in (found ∙ ap (node_of s.page_size us j) (sym (align s.page_size page)) ∙ node_leaf s.page_size j page us pos) ∙ leaf_depth s.page_size j page us

-- the leaves of the snapshot's versions are as deep in the ticket's touches
pub depth_stays : TouchesAre → DepthsStay → (t : NumberedUpdate) (page : ℕ)
    → depth_of t.snapshot.page_size (log_of t.snapshot) (length t.snapshot.rows) page ≡ depth_of t.snapshot.page_size (log_upto t) (length t.snapshot.rows) page
depth_stays are stay t page =
    let p : ℕ = t.snapshot.page_size in
    let s : List Touch = log_of t.snapshot in
    let w : List Touch = map touch_in t.waiting in
    let v : ℕ = length t.snapshot.rows in
    let count : length s ≡ v = length-log_of are t.snapshot in
    let both : length (s ++ w) ≡ v + length t.waiting = length-log_with are t.snapshot t.waiting in
    sym (stay p v page (s ++ w) (own_touch t ∷ []) (omega arith) ∙ stay p v page s w (omega arith))

-- a waiting update more
pub depth_waiting : TouchesAre → (t : NumberedUpdate) (page i k : ℕ) → i < length t.waiting → k ≡ i + 1
    → depth_of t.snapshot.page_size (log_upto t) (length t.snapshot.rows + k) page
    ≡ depth_after fold_number t.snapshot.page_size (open_at t.waiting i).touch page (depth_of t.snapshot.page_size (log_upto t) (length t.snapshot.rows + i) page)
depth_waiting are t page i k lt next =
    let p : ℕ = t.snapshot.page_size in
    let v : ℕ = length t.snapshot.rows in
    let e : v + k ≡ suc (v + i) = omega arith in
    ap (λ n. depth_of p (log_upto t) n page) e
    ∙ depth_next p (log_upto t) (v + i) page
    ∙ ap (λ u. depth_after fold_number p u page (depth_of p (log_upto t) (v + i) page)) (touch_waiting are t i lt)
