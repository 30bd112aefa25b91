use Rattle.std.proofs.Common.{◌≡◌, ℕ, ◌+◌, ◌-◌, ◌*◌, ◌/◌, ◌<◌, ◌≤◌, arith, ap, sym, ◌∙◌, subst, true, false}
use Rattle.std.proofs.lemmas.Bool.Decides.{nat_tests}
use Rattle.tree_geom.specs.declared.node.NodeKey.{NodeKey}
use Rattle.tree_geom.specs.Geometry.{height_of}
use Rattle.snapshot.specs.Versions.{Version, size_now, HasNodeFor}
use Rattle.range_reader.specs.Reading.{newest_in, backs_in}
use Rattle.tree_geom.proofs.Spans.{page_pos}
use Rattle.range_reader.proofs.Walking.{down, up}
use Rattle.range_reader.proofs.Rooted.{not_zero, root_stands, root_newest, root_tree}
use Rattle.range_reader.proofs.Stating.{bound_sum, tree_walk_bound}
use Rattle.range_reader.proofs.bound.stated.Goals as goal

pub depths-backs-requires-clause-newest : goal.depths-backs-requires-clause-newest
depths-backs-requires-clause-newest g c =
    let s = c.args.snapshot.now in
    let is = c.version-version.ensures.stands in
    let key = ap (λ (k : NodeKey). k.range) c.in-Some.ensures.key in
    let some : 1 ≤ size_now s = not_zero (size_now s) (λ e. let w : true ≡ false = c.in-Some.ensures.none.1 e in cc) in
    let N : Version → Type 0 = λ v. c.version-version.result ≡ newest_in v c.in-Some.root.range in
    subst N (sym c.view-view.ensures)
    (c.version-version.ensures.count
    ∙ root_newest c.page_bytes_stay.ensures.extents s is c.links_find.ensures.roots c.newest_is_greatest.ensures.greatest c.in-Some.root.range some key)

pub depths-backs-requires-clause-has : goal.depths-backs-requires-clause-has
depths-backs-requires-clause-has g c =
    let s = c.args.snapshot.now in
    let is = c.version-version.ensures.stands in
    let key = ap (λ (k : NodeKey). k.range) c.in-Some.ensures.key in
    let some : 1 ≤ size_now s = not_zero (size_now s) (λ e. let w : true ≡ false = c.in-Some.ensures.none.1 e in cc) in
    let H : ℕ → Type 0 = λ j. HasNodeFor s j c.in-Some.root.range in
    let V : Version → Type 0 = λ v. HasNodeFor v c.version-version.result c.in-Some.root.range in
    subst V (sym c.view-view.ensures) (subst H (sym c.version-version.ensures.count) (root_stands c.page_bytes_stay.ensures.extents s is c.links_find.ensures.roots c.in-Some.root.range some key))

pub returns-clause-exact : goal.returns-clause-exact
returns-clause-exact g c =
    let s = c.args.snapshot.now in
    let is = c.version-version.ensures.stands in
    let one : 1 ≤ c.args.length = grind (arith, nat_tests) in
    let sum = bound_sum c.page_bytes_stay.ensures.extents s is c.args.offset c.args.length c.bytes-bytes.result c.page_size-page_size.result c.size-size.result one
    (c.bytes-bytes.ensures.is ∙ c.page_size-page_size.ensures) c.page_size-page_size.ensures c.size-size.ensures.size in
    let backs = c.depths-backs.ensures.depths ∙ ap (λ (v : Version). backs_in v c.args.offset c.args.length) c.view-view.ensures in
    omega (arith, sum, backs, c.height.ensures.is, c.from-levels.ensures)

pub returns-clause-steps : goal.returns-clause-steps
returns-clause-steps g c =
    let s = c.args.snapshot.now in
    let p = s.page_size in
    let n = c.args.length in
    let o = c.args.offset in
    let is = c.version-version.ensures.stands in
    let pos : 1 ≤ p = page_pos p is.page_size in
    let key = ap (λ (k : NodeKey). k.range) c.in-Some.ensures.key in
    let some : 1 ≤ size_now s = not_zero (size_now s) (λ e. let w : true ≡ false = c.in-Some.ensures.none.1 e in cc) in
    let one : 1 ≤ n = grind (arith, nat_tests) in
    let end : o + n - 1 < ((o + n - 1) / p + 1) * p = up (o + n - 1) p pos in
    let walked = rw (c.view-view.ensures) at c.depths-backs.ensures.steps in
    let f = walked (height_of p (size_now s)) 0 (o / p) ((o + n - 1) / p) (root_tree c.page_bytes_stay.ensures.extents s is c.in-Some.root.range some key) (down o p)
    (omega (arith, end, one)) in
    let fits : o + n ≤ size_now s = omega arith in
    omega (arith, f, tree_walk_bound c.visited_are_few.ensures.bounded c.page_bytes_stay.ensures.extents s is o n one fits)
