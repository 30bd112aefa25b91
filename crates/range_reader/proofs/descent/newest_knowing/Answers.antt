use Rattle.std.proofs.Common.{ℕ, ◌*◌, ◌/◌, ◌^◌, ◌<◌, ◌≤◌, arith, ap, sym, ◌∙◌, subst}
use Rattle.tree_geom.specs.declared.node.NodeKey.{NodeKey}
use Rattle.tree_geom.specs.Geometry.{page_range, height_of}
use Rattle.snapshot.specs.Versions.{size_now, HasNodeFor}
use Rattle.tree_geom.proofs.Spans.{page_pos}
use Rattle.range_reader.specs.Reading.{newest_in}
use Rattle.range_reader.proofs.Walking.{down}
use Rattle.range_reader.proofs.Rooted.{root_stands, root_newest, root_tree}
use Rattle.range_reader.proofs.Descending.{under_root}
use Rattle.range_reader.proofs.descent.newest_knowing.Goals as goal

pub newest_of_page-requires-clause-valid : goal.newest_of_page-requires-clause-valid
newest_of_page-requires-clause-valid g c =
    let p = c.args.snapshot.now.page_size in
    let size = c.bytes-bytes.ensures.is ∙ c.page_size.ensures in
    omega (arith, ap (λ n. c.args.at / n * p) size, down c.args.at p, c.requires.valid)

pub returns-then-is_empty-clause-newest : goal.returns-then-is_empty-clause-newest
returns-then-is_empty-clause-newest g c =
    let s = c.args.snapshot.now in
    let size = c.bytes-bytes.ensures.is ∙ c.page_size.ensures in
    c.newest_of_page.ensures.newest ∙ ap (λ n. newest_in s (page_range s.page_size (c.args.at / n))) size

pub returns-then-is_empty-clause-has : goal.returns-then-is_empty-clause-has
returns-then-is_empty-clause-has g c =
    let s = c.args.snapshot.now in
    let size = c.bytes-bytes.ensures.is ∙ c.page_size.ensures in
    let H : ℕ → Type 0 = λ n. HasNodeFor s c.newest_of_page.result (page_range s.page_size (c.args.at / n)) in
    subst H size c.newest_of_page.ensures.has

pub newest_leaf-requires-clause-newest : goal.newest_leaf-requires-clause-newest
newest_leaf-requires-clause-newest g c =
    let s = c.args.snapshot.now in
    let is = c.version-version.ensures.stands in
    let key = ap (λ (k : NodeKey). k.range) c.in-Some.ensures.key in
    let some : 1 ≤ size_now s = omega (arith, c.requires.valid) in
    c.version-version.ensures.count ∙ root_newest c.page_bytes_stay.ensures.extents s is c.links_find.ensures.roots c.newest_is_greatest.ensures.greatest c.in-Some.root.range some key

pub newest_leaf-requires-clause-has : goal.newest_leaf-requires-clause-has
newest_leaf-requires-clause-has g c =
    let s = c.args.snapshot.now in
    let is = c.version-version.ensures.stands in
    let key = ap (λ (k : NodeKey). k.range) c.in-Some.ensures.key in
    let some : 1 ≤ size_now s = omega (arith, c.requires.valid) in
    let H : ℕ → Type 0 = λ j. HasNodeFor s j c.in-Some.root.range in
    subst H (sym c.version-version.ensures.count) (root_stands c.page_bytes_stay.ensures.extents s is c.links_find.ensures.roots c.in-Some.root.range some key)

pub newest_leaf-requires-clause-ends : goal.newest_leaf-requires-clause-ends
newest_leaf-requires-clause-ends g c =
    let start = ap (λ (k : NodeKey). k.range.offset) c.in-Some.ensures.key in
    omega (arith, start, c.in-Some.ensures.holds, c.requires.valid)

pub returns-clause-steps : goal.returns-clause-steps
returns-clause-steps g c =
    let s = c.args.snapshot.now in
    let p = s.page_size in
    let h = height_of p (size_now s) in
    let i = c.args.at / p in
    let is = c.version-version.ensures.stands in
    let pos = page_pos p is.page_size in
    let key = ap (λ (k : NodeKey). k.range) c.in-Some.ensures.key in
    let some : 1 ≤ size_now s = omega (arith, c.requires.valid) in
    let below : i < 2 ^ h = under_root p i (size_now s) h pos (omega (arith, down c.args.at p, c.requires.valid)) (c.spans_hold.ensures.heights p (size_now s) pos).reaches in
    let few = c.visited_are_few.ensures.few h i i (omega arith) below in
    let f = c.newest_leaf.ensures.steps h 0 (root_tree c.page_bytes_stay.ensures.extents s is c.in-Some.root.range some key) in
    omega (arith, f, few, c.requires.levels)
