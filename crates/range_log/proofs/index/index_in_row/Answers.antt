use Rattle.std.proofs.Common.{◌+◌, ◌-◌, arith, ap, ◌∙◌}
use Rattle.std.specs.Prelude.{slice_get}
use Rattle.tree_geom.proofs.Pages.{page_bounds}
use Rattle.range_log.specs.Rows.{levels_of}
use Rattle.range_log.proofs.Positions.{none_of_size, none_at, level_fits, level_power, first_found, found_at}
use Rattle.range_log.proofs.index.index_in_row.Goals as goal
use Rattle.range_log.proofs.index.index_in_row.Goals.{then-number-range-via-then-number-range, then-number-range-via-else-number-range+then-number-level, then-number-range-via-else-number-range+else-number-level+then-level-number}

pub level_of_size-requires-clause-least : goal.level_of_size-requires-clause-least
level_of_size-requires-clause-least c = omega (arith, page_bounds c.args.p c.requires.page_size)

pub level_of_size-requires-clause-greatest : goal.level_of_size-requires-clause-greatest
level_of_size-requires-clause-greatest c = omega (arith, page_bounds c.args.p c.requires.page_size)

pub returns-in_default : goal.returns-in_default
returns-in_default c = none_of_size c.args.p c.args.touch.now c.args.height c.args.range (omega (arith, page_bounds c.args.p c.requires.page_size)) c.in_default.ensures

pub overflow_mul-level : goal.overflow_mul-level
overflow_mul-level c =
    let f =
    level_fits c.args.p c.args.touch.now c.args.height c.in-Some.ensures.0 c.args.range.size c.in-Some.level.first c.in-Some.level.last c.in-Some.level.count
    (omega (arith, page_bounds c.args.p c.requires.page_size)) c.requires.ordered c.requires.fits c.in-Some.ensures.1 in
    omega (arith, f.0)

pub overflow_sub-result-2 : goal.overflow_sub-result-2
overflow_sub-result-2 c =
    let f =
    level_fits c.args.p c.args.touch.now c.args.height c.in-Some.ensures.0 c.args.range.size c.in-Some.level.first c.in-Some.level.last c.in-Some.level.count
    (omega (arith, page_bounds c.args.p c.requires.page_size)) c.requires.ordered c.requires.fits c.in-Some.ensures.1 in
    omega (arith, f.1, c.requires.count)

pub returns-then-level-range : goal.returns-then-level-range
returns-then-level-range c =
    first_found c.args.p c.args.touch.now c.args.height c.in-Some.ensures.0 c.in-Some.level.first c.in-Some.level.last c.in-Some.level.count c.args.count c.args.range
    c.requires.ordered c.in-Some.ensures.1 c.requires.count c.if-level-range.true

pub number_of-number-requires : goal.number_of-number-requires
number_of-number-requires c =
    level_power c.args.p c.args.touch.now c.args.height c.in-Some.ensures.0 c.args.range.size c.in-Some.level.first c.in-Some.level.last c.in-Some.level.count
    c.requires.page_size c.in-Some.ensures.1

pub returns-then-number-range : goal.returns-then-number-range
returns-then-number-range c =
    none_at c.args.p c.args.touch.now c.args.height c.in-Some.ensures.0 c.in-Some.level.first c.in-Some.level.last c.in-Some.level.count c.number_of-number.result c.args.range
    (omega (arith, page_bounds c.args.p c.requires.page_size)) c.in-Some.ensures.1 c.number_of-number.ensures
    (λ begin from to. elim c.then-number-range.branch [
      | then-number-range-via-then-number-range w ↦ w.if-number-range.true begin
      | then-number-range-via-else-number-range+then-number-level w ↦ omega (arith, w.if-number-level.true)
      | then-number-range-via-else-number-range+else-number-level+then-level-number w ↦ omega (arith, w.if-level-number.true)
    ])

pub overflow_sub-result : goal.overflow_sub-result
overflow_sub-result c =
    let f =
    level_fits c.args.p c.args.touch.now c.args.height c.in-Some.ensures.0 c.args.range.size c.in-Some.level.first c.in-Some.level.last c.in-Some.level.count
    (omega (arith, page_bounds c.args.p c.requires.page_size)) c.requires.ordered c.requires.fits c.in-Some.ensures.1 in
    omega (arith, f.1, c.requires.count)

pub overflow_add-result : goal.overflow_add-result
overflow_add-result c =
    let f =
    level_fits c.args.p c.args.touch.now c.args.height c.in-Some.ensures.0 c.args.range.size c.in-Some.level.first c.in-Some.level.last c.in-Some.level.count
    (omega (arith, page_bounds c.args.p c.requires.page_size)) c.requires.ordered c.requires.fits c.in-Some.ensures.1 in
    omega (arith, f, c.requires.count)

pub returns : goal.returns
returns c =
    ap (λ n. slice_get (levels_of c.args.p c.args.touch.now (c.args.height + 1)) (n - c.in-Some.level.count + (c.number_of-number.result - c.in-Some.level.first))) c.requires.count
    ∙ found_at c.args.p c.args.touch.now c.args.height c.in-Some.ensures.0 c.in-Some.level.first c.in-Some.level.last c.in-Some.level.count c.number_of-number.result c.args.range
    c.in-Some.ensures.1 (omega arith) (omega arith) (omega arith)
