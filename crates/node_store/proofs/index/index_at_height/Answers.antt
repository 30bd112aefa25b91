use Rattle.std.proofs.Common.{◌+◌, ◌-◌, ◌*◌, ◌^◌, ◌≤◌, arith, refl, ap, sym, ◌∙◌}
use Rattle.std.specs.Prelude.{slice_get}
use Rattle.std.proofs.Math.Nat.{mul-div_cancel}
use Rattle.tree_geom.specs.Geometry.{tree_range}
use Rattle.tree_geom.proofs.Spans.{size_pos}
use Rattle.range_log.specs.Rows.{levels_of}
use Rattle.range_log.proofs.Exact.{powers}
use Rattle.range_log.proofs.Positions.{none_of_size, none_at, found_at}
use Rattle.node_store.proofs.Ranges.{level_within, level_counts}
use Rattle.node_store.proofs.index.index_at_height.Goals as goal
use Rattle.node_store.proofs.index.index_at_height.Goals.{then-number-level-via-then-number-level, then-number-level-via-else-number-level+then-level-number}

pub returns-then-top-height-clause-place : goal.returns-then-top-height-clause-place
returns-then-top-height-clause-place c p pos =
    none_of_size p c.args.touch.now c.args.top (tree_range p c.args.height c.args.number) pos
    (λ h low size. let e : c.args.height ≤ h = powers p c.args.height h pos (omega (arith, size)) in omega arith)

pub returns-then-number-level-clause-place : goal.returns-then-number-level-clause-place
returns-then-number-level-clause-place c p pos =
    let level = c.level_at-level.result in
    let is = level_within p c.args.touch.now c.args.top c.args.height (p * 2 ^ c.args.height) level.first level.last level.count (omega arith) (c.level_at-level.ensures p) in
    none_at p c.args.touch.now c.args.top c.args.height level.first level.last level.count c.args.number (tree_range p c.args.height c.args.number) pos is
    (sym (mul-div_cancel c.args.number (size_pos p c.args.height pos)))
    (λ begin from to. elim c.then-number-level.branch [
      | then-number-level-via-then-number-level w ↦ omega (arith, w.if-number-level.true)
      | then-number-level-via-else-number-level+then-level-number w ↦ omega (arith, w.if-level-number.true)
    ])

pub overflow_sub-result : goal.overflow_sub-result
overflow_sub-result c =
    let level = c.level_at-level.result in
    let f = level_counts c.args.touch.now c.args.top c.args.height level.first level.last level.count c.args.count c.requires.ordered c.requires.fits (omega arith)
    (c.level_at-level.ensures 1) (c.requires.count 1) in
    omega (arith, f.0)

pub overflow_add-result : goal.overflow_add-result
overflow_add-result c =
    let level = c.level_at-level.result in
    let f = level_counts c.args.touch.now c.args.top c.args.height level.first level.last level.count c.args.count c.requires.ordered c.requires.fits (omega arith)
    (c.level_at-level.ensures 1) (c.requires.count 1) in
    omega (arith, f)

pub returns-clause-within : goal.returns-clause-within
returns-clause-within c =
    let level = c.level_at-level.result in
    let f = level_counts c.args.touch.now c.args.top c.args.height level.first level.last level.count c.args.count c.requires.ordered c.requires.fits (omega arith)
    (c.level_at-level.ensures 1) (c.requires.count 1) in
    omega (arith, f)

pub returns-clause-place : goal.returns-clause-place
returns-clause-place c p pos =
    let level = c.level_at-level.result in
    let is = level_within p c.args.touch.now c.args.top c.args.height (p * 2 ^ c.args.height) level.first level.last level.count (omega arith) (c.level_at-level.ensures p) in
    ap (λ n. slice_get (levels_of p c.args.touch.now (c.args.top + 1)) (n - level.count + (c.args.number - level.first))) (c.requires.count p)
    ∙ found_at p c.args.touch.now c.args.top c.args.height level.first level.last level.count c.args.number (tree_range p c.args.height c.args.number) is refl
    (omega arith) (omega arith)
