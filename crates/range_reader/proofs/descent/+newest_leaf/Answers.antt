use Rattle.std.proofs.Common.{rules, ◌≡◌, ℕ, ◌+◌, ◌*◌, ◌/◌, ◌<◌, ◌≤◌, arith, ap, ◌∙◌, subst}
use Rattle.tree_geom.specs.declared.range.Range.{Range}
use Rattle.tree_geom.specs.Geometry.{tree_range}
use Rattle.tree_geom.proofs.Spans.{page_pos}
use Rattle.snapshot.specs.Versions.{HasNodeFor}
use Rattle.range_reader.specs.Reading.{newest_in}
use Rattle.range_reader.proofs.Walking.{InnerStep, InnerNode, page_step, inner_node, halved, down, up}
use Rattle.range_reader.proofs.Holding.{page_is}
use Rattle.range_reader.proofs.descent.+newest_leaf.Given.{Over}
use Rattle.range_reader.proofs.descent.+newest_leaf.Goals.{After-halves}
use Rattle.range_reader.proofs.descent.+newest_leaf.Goals as goal

pub returns-then-range-bytes-clause-newest : goal.returns-then-range-bytes-clause-newest
returns-then-range-bytes-clause-newest g t c =
    let s = c.args.snapshot.now in
    let p = s.page_size in
    let size = c.bytes.ensures.is ∙ c.page_size.ensures in
    let pos = page_pos p c.stands.ensures.page_size in
    c.requires.newest ∙ ap (newest_in s) (page_is p c.args.range c.args.at pos c.requires.has.aligned (c.if-range-bytes.true ∙ size) c.requires.begins c.requires.ends)

pub returns-then-range-bytes-clause-has : goal.returns-then-range-bytes-clause-has
returns-then-range-bytes-clause-has g t c =
    let s = c.args.snapshot.now in
    let p = s.page_size in
    let size = c.bytes.ensures.is ∙ c.page_size.ensures in
    let pos = page_pos p c.stands.ensures.page_size in
    let H : Range → Type 0 = λ r. HasNodeFor s c.args.version r in
    subst H (page_is p c.args.range c.args.at pos c.requires.has.aligned (c.if-range-bytes.true ∙ size) c.requires.begins c.requires.ends) c.requires.has

pub returns-then-range-bytes-clause-steps : goal.returns-then-range-bytes-clause-steps
returns-then-range-bytes-clause-steps g t c =
    λ h q e.
    let s = c.args.snapshot.now in
    let p = s.page_size in
    let i = c.args.at / p in
    let size = c.bytes.ensures.is ∙ c.page_size.ensures in
    let pos : 1 ≤ p = page_pos p c.stands.ensures.page_size in
    let end : c.args.at < (i + 1) * p = up c.args.at p pos in
    let step = page_step s c.args.range c.args.at 1 pos c.requires.has.aligned (c.if-range-bytes.true ∙ size) c.requires.begins (omega (arith, c.requires.ends)) (omega arith) in
    omega (arith, step.visits c.visited_are_few.ensures.leaf h q i i e (down c.args.at p) (omega (arith, end)))

-- ---- at an inner node
node : (g : Over) (t : ℕ) (c : After-halves g t) → InnerNode c.args.snapshot.now c.args.range c.halves.result.0 c.halves.result.1 c.known_links-left.result.0 c.known_links-left.result.1
node g t c =
    inner_node c.links_step.ensures.step c.page_bytes_stay.ensures.extents c.args.snapshot.now c.stands.ensures c.args.version _ _ c.bytes.result c.args.range _ _
    c.requires.newest c.requires.has c.if-range-bytes.false (c.bytes.ensures.is ∙ c.page_size.ensures) c.halves.ensures.lower c.halves.ensures.upper
    (omega (arith, c.requires.begins, c.requires.valid)) c.known_links-left.ensures.left c.known_links-left.ensures.right

inner : (g : Over) (t : ℕ) (c : After-halves g t) (h q : ℕ) → let p = c.args.snapshot.now.page_size in c.args.range ≡ tree_range p h q → InnerStep p h q (c.args.at / p) (c.args.at / p) c.args.range
inner g t c h q e =
    let p = c.args.snapshot.now.page_size in
    let i = c.args.at / p in
    let end : c.args.at < (i + 1) * p = up c.args.at p (page_pos p c.stands.ensures.page_size) in
    (node g t c).step c.visited_are_few.ensures.inner h q i i c.args.at 1 e (down c.args.at p) (omega (arith, end)) c.requires.begins (omega (arith, c.requires.ends)) (omega arith)

pub halves-requires-clause-even : goal.halves-requires-clause-even
halves-requires-clause-even g t c =
    halved c.args.snapshot.now c.stands.ensures c.args.version c.bytes.result c.args.range c.requires.has c.if-range-bytes.false (c.bytes.ensures.is ∙ c.page_size.ensures)

pub newest_leaf-requires : goal.newest_leaf-requires
newest_leaf-requires g t c κs within =
    let next = (node g t (goal.at.newest_leaf-requires g t c).After-halves).left_newest in
    (search rules, (within, (c.requires.here, (c.known_links-left.ensures.known, (next.0, (next.1, (search rules, (search rules, (search rules, search rules)))))))))

pub returns-then-at-high-clause-steps : goal.returns-then-at-high-clause-steps
returns-then-at-high-clause-steps g t c =
    λ h q e.
    let i = inner g t (goal.at.returns-then-at-high-clause-steps g t c).After-halves h q e in
    omega (arith, c.newest_leaf.ensures.steps i.below (2 * q) (c.halves.ensures.lower ∙ i.left), i.visits, c.known_links-left.ensures.step)

pub newest_leaf-requires-2 : goal.newest_leaf-requires-2
newest_leaf-requires-2 g t c κs within =
    let of = node g t (goal.at.newest_leaf-requires-2 g t c).After-halves in
    let next = of.right_newest (omega (arith, c.requires.valid, c.if-at-high.false)) in
    (search rules, (within, (c.requires.here, (c.known_links-left.ensures.known, (next.0, (next.1, (search rules, (omega (arith, of.ends, c.requires.ends), (search rules, search rules)))))))))

pub returns-clause-steps : goal.returns-clause-steps
returns-clause-steps g t c =
    λ h q e.
    let i = inner g t (goal.at.returns-clause-steps g t c).After-halves h q e in
    omega (arith, c.newest_leaf-2.ensures.steps i.below (2 * q + 1) (c.halves.ensures.upper ∙ i.right), i.visits, c.known_links-left.ensures.step)
