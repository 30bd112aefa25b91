use Rattle.std.proofs.Common.{rules, ◌≡◌, ℕ, ◌+◌, ◌-◌, ◌*◌, ◌/◌, ◌<◌, ◌≤◌, arith, ap, sym, ◌∙◌, subst}
use Rattle.tree_geom.specs.declared.range.Range.{Range}
use Rattle.tree_geom.specs.Geometry.{page_range, tree_range}
use Rattle.tree_geom.proofs.Spans.{page_pos}
use Rattle.range_log.specs.Depths.{depth_of}
use Rattle.snapshot.specs.Versions.{HasNodeFor}
use Rattle.range_reader.specs.Reading.{log_of}
use Rattle.snapshot.proofs.Finding.{in_rows}
use Rattle.range_reader.proofs.Walking.{InnerStep, InnerNode, page_of_range, page_step, larger, inner_node, halved, backs_join}
use Rattle.range_reader.proofs.Stating.{page_depth, middle_page}
use Rattle.range_reader.proofs.bound.+depths.Given.{Over}
use Rattle.range_reader.proofs.bound.+depths.Goals.{After-halves}
use Rattle.range_reader.proofs.bound.+depths.Goals as goal

pub leaf-newest-requires-clause-has : goal.leaf-newest-requires-clause-has
leaf-newest-requires-clause-has g t c =
    let s = c.args.snapshot.now in
    let is = c.stands.ensures in
    let size = c.bytes-size.ensures.is ∙ c.page_size.ensures in
    let pos = page_pos s.page_size is.page_size in
    let at = page_of_range s.page_size c.args.range pos c.requires.has.aligned (c.if-range-size.true ∙ size) ∙ ap (λ n. page_range s.page_size (c.args.range.offset / n)) (sym size) in
    let H : Range → Type 0 = λ r. HasNodeFor s c.args.at r in
    subst H at c.requires.has

pub returns-then-range-size-clause-depths : goal.returns-then-range-size-clause-depths
returns-then-range-size-clause-depths g t c =
    let s = c.args.snapshot.now in
    let is = c.stands.ensures in
    let size = c.bytes-size.ensures.is ∙ c.page_size.ensures in
    c.from.ensures ∙ c.leaf-newest.ensures.leaf.depth ∙ ap (λ n. depth_of s.page_size (log_of s) c.args.at (c.args.range.offset / n)) size
    ∙ sym (page_depth c.depth_counts_backs.ensures.backs c.page_bytes_stay.ensures.extents s is c.args.at c.args.from c.args.count c.args.range c.requires.newest c.requires.has
    (c.if-range-size.true ∙ size) c.requires.begins c.requires.ends c.requires.some)

pub returns-then-range-size-clause-few : goal.returns-then-range-size-clause-few
returns-then-range-size-clause-few g t c =
    let s = c.args.snapshot.now in
    let is = c.stands.ensures in
    let depth = c.from.ensures ∙ c.leaf-newest.ensures.leaf.depth in
    let few = c.depth_counts_backs.ensures.few s.page_size c.args.at (c.args.range.offset / c.bytes-size.result) (log_of s) in
    omega (arith, depth, few, (in_rows s c.args.at c.args.range c.requires.has).1, is.counted, c.requires.some)

pub returns-then-range-size-clause-steps : goal.returns-then-range-size-clause-steps
returns-then-range-size-clause-steps g t c =
    λ h q first last e before after.
    let s = c.args.snapshot.now in
    let is = c.stands.ensures in
    let size = c.bytes-size.ensures.is ∙ c.page_size.ensures in
    let pos = page_pos s.page_size is.page_size in
    let step = page_step s c.args.range c.args.from c.args.count pos c.requires.has.aligned (c.if-range-size.true ∙ size) c.requires.begins c.requires.ends c.requires.some in
    omega (arith, c.leaf-newest.ensures.step, step.visits c.visited_are_few.ensures.leaf h q first last e before after)

-- ---- at an inner node
node : (g : Over) (t : ℕ) (c : After-halves g t) → InnerNode c.args.snapshot.now c.args.range c.halves.result.0 c.halves.result.1 c.links-left.result.0 c.links-left.result.1
node g t c =
    inner_node c.links_step.ensures.step c.page_bytes_stay.ensures.extents c.args.snapshot.now c.stands.ensures c.args.at _ _ c.bytes-size.result c.args.range _ _
    c.requires.newest c.requires.has c.if-range-size.false (c.bytes-size.ensures.is ∙ c.page_size.ensures) c.halves.ensures.lower c.halves.ensures.upper
    (omega (arith, c.requires.begins, c.requires.valid, c.requires.some)) c.links-left.ensures.left c.links-left.ensures.right

inner : (g : Over) (t : ℕ) (c : After-halves g t) (h q first last : ℕ) → let p = c.args.snapshot.now.page_size in c.args.range ≡ tree_range p h q → first * p ≤ c.args.from
    → c.args.from + c.args.count ≤ (last + 1) * p → InnerStep p h q first last c.args.range
inner g t c h q first last e before after =
    (node g t c).step c.visited_are_few.ensures.inner h q first last c.args.from c.args.count e before after c.requires.begins c.requires.ends c.requires.some

pub halves-requires-clause-even : goal.halves-requires-clause-even
halves-requires-clause-even g t c =
    halved c.args.snapshot.now c.stands.ensures c.args.at c.bytes-size.result c.args.range c.requires.has c.if-range-size.false (c.bytes-size.ensures.is ∙ c.page_size.ensures)

pub depths-requires : goal.depths-requires
depths-requires g t c κs within =
    let next = (node g t (goal.at.depths-requires g t c).After-halves).left_newest in
    (search rules, (within, (c.requires.here, (next.0, (next.1, (search rules, (search rules, (search rules, (search rules, search rules)))))))))

pub returns-then-end-high-clause-steps : goal.returns-then-end-high-clause-steps
returns-then-end-high-clause-steps g t c =
    λ h q first last e before after.
    let i = inner g t (goal.at.returns-then-end-high-clause-steps g t c).After-halves h q first last e before after in
    omega (arith, c.depths.ensures.steps i.below (2 * q) first last (c.halves.ensures.lower ∙ i.left) before after, i.visits, c.links-left.ensures.step)

pub depths-requires-then-high-from : goal.depths-requires-then-high-from
depths-requires-then-high-from g t c κs within =
    let of = node g t (goal.at.depths-requires-then-high-from g t c).After-halves in
    let next = of.right_newest (omega (arith, c.requires.valid, c.requires.some, c.if-high-from.true)) in
    (search rules, (within, (c.requires.here, (next.0, (next.1, (search rules, (omega (arith, of.ends, c.requires.ends), (search rules, (search rules, search rules)))))))))

pub returns-then-high-from-clause-steps : goal.returns-then-high-from-clause-steps
returns-then-high-from-clause-steps g t c =
    λ h q first last e before after.
    let i = inner g t (goal.at.returns-then-high-from-clause-steps g t c).After-halves h q first last e before after in
    omega (arith, c.depths-then-high-from.ensures.steps i.below (2 * q + 1) first last (c.halves.ensures.upper ∙ i.right) before after, i.visits, c.links-left.ensures.step)

pub depths-front-requires : goal.depths-front-requires
depths-front-requires g t c κs within =
    let next = (node g t (goal.at.depths-front-requires g t c).After-halves).left_newest in
    (search rules, (within, (c.requires.here, (next.0, (next.1, (search rules, (search rules, (search rules, (search rules, search rules)))))))))

pub depths-back-requires : goal.depths-back-requires
depths-back-requires g t c κs within =
    let of = node g t (goal.at.depths-back-requires g t c).After-halves in
    let next = of.right_newest (omega (arith, c.requires.valid, c.requires.some, c.if-end-high.false)) in
    let high = c.halves.result.1 in
    let ends : high.offset + (c.args.from + c.args.count - high.offset) ≤ high.offset + high.size = omega (arith, of.ends, c.requires.ends, c.if-high-from.false, c.if-end-high.false) in
    (search rules, (within, (c.requires.here, (next.0, (next.1, (search rules, (ends, (search rules, (search rules, search rules)))))))))

pub returns-clause-depths : goal.returns-clause-depths
returns-clause-depths g t c =
    let s = c.args.snapshot.now in
    let pos = page_pos s.page_size c.stands.ensures.page_size in
    let mid = c.halves.result.1.offset in
    let lt : c.args.from < mid = c.if-high-from.false in
    let far : mid < c.args.from + c.args.count = c.if-end-high.false in
    let large = larger s.page_size c.args.range pos c.requires.has.aligned (λ e. c.if-range-size.false (e ∙ sym (c.bytes-size.ensures.is ∙ c.page_size.ensures))) in
    let page = middle_page s.page_size c.args.range c.requires.has.aligned large in
    let at : mid ≡ page.0 * s.page_size = ap (λ (x : Range). x.offset) c.halves.ensures.upper ∙ page.1 in
    omega (arith, c.depths-front.ensures.depths, c.depths-back.ensures.depths, backs_join s c.args.from mid c.args.count page.0 pos at lt far)

pub returns-clause-steps : goal.returns-clause-steps
returns-clause-steps g t c =
    λ h q first last e before after.
    let i = inner g t (goal.at.returns-clause-steps g t c).After-halves h q first last e before after in
    let lt = c.if-high-from.false in
    let far = c.if-end-high.false in
    let f = c.depths-front.ensures.steps i.below (2 * q) first last (c.halves.ensures.lower ∙ i.left) before (omega (arith, after, lt, far)) in
    let k = c.depths-back.ensures.steps i.below (2 * q + 1) first last (c.halves.ensures.upper ∙ i.right) (omega (arith, before, lt)) (omega (arith, after, lt, far)) in
    omega (arith, f, k, i.visits, c.links-left.ensures.step)
