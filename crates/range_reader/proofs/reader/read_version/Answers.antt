use Rattle.std.proofs.Common.{◌≡◌, ℕ, ◌+◌, ◌-◌, ◌*◌, ◌/◌, ◌%◌, ◌<◌, ◌≤◌, length, arith, ap, sym, ◌∙◌, subst, true, false}
use Rattle.std.proofs.lemmas.Bool.Decides.{nat_tests}
use Rattle.tree_geom.specs.declared.node.NodeKey.{NodeKey}
use Rattle.tree_geom.specs.Geometry.{height_of}
use Rattle.snapshot.specs.Versions.{size_now, HasNodeFor}
use Rattle.tree_geom.proofs.Spans.{page_pos}
use Rattle.range_reader.proofs.Walking.{down, up}
use Rattle.range_reader.proofs.Rooted.{not_zero, root_stands, root_newest, root_tree, walk_bound}
use Rattle.range_reader.proofs.reader.read_version.Goals as goal
use Rattle.range_reader.proofs.reader.read_version.Goals.{in-Ok, in-Err}

pub walk-requires-clause-newest : goal.walk-requires-clause-newest
walk-requires-clause-newest g c =
    let s = c.args.source.now.view.now in
    let is = c.version-version.ensures.stands in
    let key = ap (λ (k : NodeKey). k.range) c.in-Some.ensures.key in
    let some : 1 ≤ size_now s = not_zero (size_now s) (λ e. let w : true ≡ false = c.in-Some.ensures.none.1 e in cc) in
    c.version-version.ensures.count ∙ root_newest c.page_bytes_stay.ensures.extents s is c.links_find.ensures.roots c.newest_is_greatest.ensures.greatest c.in-Some.root.range some key

pub walk-requires-clause-has : goal.walk-requires-clause-has
walk-requires-clause-has g c =
    let s = c.args.source.now.view.now in
    let is = c.version-version.ensures.stands in
    let key = ap (λ (k : NodeKey). k.range) c.in-Some.ensures.key in
    let some : 1 ≤ size_now s = not_zero (size_now s) (λ e. let w : true ≡ false = c.in-Some.ensures.none.1 e in cc) in
    let H : ℕ → Type 0 = λ j. HasNodeFor s j c.in-Some.root.range in
    subst H (sym c.version-version.ensures.count) (root_stands c.page_bytes_stay.ensures.extents s is c.links_find.ensures.roots c.in-Some.root.range some key)

pub walk-requires-clause-ends : goal.walk-requires-clause-ends
walk-requires-clause-ends g c =
    let start = ap (λ (k : NodeKey). k.range.offset) c.in-Some.ensures.key in
    omega (arith, start, c.in-Some.ensures.holds)

pub walk_to_page-requires-clause-levels : goal.walk_to_page-requires-clause-levels
walk_to_page-requires-clause-levels g c =
    let s = c.args.source.now.view.now in
    c.height-levels.ensures.is ∙ ap (λ p. height_of p c.size-size.result) c.page_size-page_size.ensures ∙ ap (height_of s.page_size) c.size-size.ensures.size

pub walk_to_page-requires-clause-one_page : goal.walk_to_page-requires-clause-one_page
walk_to_page-requires-clause-one_page g c =
    let size = c.bytes-bytes.ensures.is ∙ c.page_size-page_size.ensures in
    omega (arith, ap (λ n. c.args.offset % n) size, size, c.if-offset-bytes.true)

pub returns-clause-steps : goal.returns-clause-steps
returns-clause-steps g c =
    let s = c.args.source.now.view.now in
    let p = s.page_size in
    let n = length c.args.out.now in
    let o = c.args.offset in
    let is = c.version-version.ensures.stands in
    let pos : 1 ≤ p = page_pos p is.page_size in
    let key = ap (λ (k : NodeKey). k.range) c.in-Some.ensures.key in
    let some : 1 ≤ size_now s = not_zero (size_now s) (λ e. let w : true ≡ false = c.in-Some.ensures.none.1 e in cc) in
    let one : 1 ≤ n = grind (arith, nat_tests) in
    let end : o + n - 1 < ((o + n - 1) / p + 1) * p = up (o + n - 1) p pos in
    let f = c.walk.ensures.steps (height_of p (size_now s)) 0 (o / p) ((o + n - 1) / p) (root_tree c.page_bytes_stay.ensures.extents s is c.in-Some.root.range some key)
    (down o p) (omega (arith, end, one)) in
    let fits : o + n ≤ size_now s = omega arith in
    omega (arith, f, walk_bound c.page_bytes_stay.ensures.extents s is c.visited_are_few.ensures.bounded o n one fits)

pub returns-then-offset-bytes-clause-answers : goal.returns-then-offset-bytes-clause-answers
returns-then-offset-bytes-clause-answers g c =
    let one : 1 ≤ length c.args.out.now = grind (arith, nat_tests) in
    record {
      refused = λ over. absurd (omega (arith, over));
      past = elim c.match-walk_to_page.branch [ in-Ok w ↦ rw w.result-is tt | in-Err w ↦ rw w.result-is tt ];
      some = elim c.match-walk_to_page.branch [ in-Ok w ↦ rw w.result-is tt | in-Err w ↦ rw w.result-is one ];
      failed = elim c.match-walk_to_page.branch [ in-Ok w ↦ rw w.result-is tt | in-Err w ↦ rw w.result-is w.in-Err.ensures.failed ];
      counted = elim c.match-walk_to_page.branch [ in-Ok w ↦ rw w.result-is tt | in-Err w ↦ rw w.result-is w.in-Err.ensures.counted ];
    }
