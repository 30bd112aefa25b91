use Rattle.std.proofs.Common.{◌+◌, arith, inl, inr}
use Rattle.range_log.proofs.Positions.{reached_first, reached_next, reached_fits, reached_level, reached_none, reached_past}
use Rattle.range_log.proofs.index.level_above.Goals as goal
use Rattle.range_log.proofs.index.level_above.Goals.{else-loop-first-test, then-loop-first-test+else-width-size, then-loop-first-test+then-width-size+else-level-height}

pub loop-first-init : goal.loop-first-init
loop-first-init c = reached_first c.args.p c.args.touch.now c.args.height c.args.size c.requires.ordered

pub overflow_mul-width : goal.overflow_mul-width
overflow_mul-width c =
    let f = reached_fits c.args.p c.args.touch.now c.args.height c.args.size c.loop-first.level c.loop-first.width c.loop-first.first c.loop-first.last c.loop-first.count
    c.requires.least c.requires.greatest c.requires.height c.requires.ordered c.requires.fits c.loop-first.invariant in
    omega (arith, f.0)

pub overflow_sub-count-in-loop-first : goal.overflow_sub-count-in-loop-first
overflow_sub-count-in-loop-first c =
    let f = reached_fits c.args.p c.args.touch.now c.args.height c.args.size c.loop-first.level c.loop-first.width c.loop-first.first c.loop-first.last c.loop-first.count
    c.requires.least c.requires.greatest c.requires.height c.requires.ordered c.requires.fits c.loop-first.invariant in
    omega (arith, f.1)

pub overflow_add-count-in-loop-first-2 : goal.overflow_add-count-in-loop-first-2
overflow_add-count-in-loop-first-2 c =
    let f = reached_fits c.args.p c.args.touch.now c.args.height c.args.size c.loop-first.level c.loop-first.width c.loop-first.first c.loop-first.last c.loop-first.count
    c.requires.least c.requires.greatest c.requires.height c.requires.ordered c.requires.fits c.loop-first.invariant in
    omega (arith, f)

pub loop-first-preserved : goal.loop-first-preserved
loop-first-preserved c =
    reached_next c.args.p c.args.touch.now c.args.height c.args.size c.loop-first.level c.loop-first.width c.loop-first.first c.loop-first.last c.loop-first.count
    c.requires.ordered (omega arith) (omega arith) c.loop-first.invariant

pub overflow_add-result : goal.overflow_add-result
overflow_add-result c =
    let f = reached_fits c.args.p c.args.touch.now c.args.height c.args.size c.loop-first.level c.loop-first.width c.loop-first.first c.loop-first.last c.loop-first.count
    c.requires.least c.requires.greatest c.requires.height c.requires.ordered c.requires.fits c.loop-first.invariant in
    omega (arith, f)

pub returns-in_default : goal.returns-in_default
returns-in_default c =
    reached_none c.args.p c.args.touch.now c.args.height c.args.size c.loop-first.level c.loop-first.width c.loop-first.first c.loop-first.last c.loop-first.count
    c.loop-first.invariant c.in_default.ensures.times

pub returns-then-height-level : goal.returns-then-height-level
returns-then-height-level c =
    reached_past c.args.p c.args.touch.now c.args.height c.args.size c.loop-first.level c.loop-first.width c.loop-first.first c.loop-first.last c.loop-first.count
    c.in-Some.rest c.requires.least c.loop-first.invariant c.in-Some.ensures.times (omega arith)

pub returns : goal.returns
returns c = (
  c.loop-first.level + c.in-Some.rest,
  reached_level c.args.p c.args.touch.now c.args.height c.args.size c.loop-first.level c.loop-first.width c.loop-first.first c.loop-first.last c.loop-first.count c.in-Some.rest
      c.requires.least c.loop-first.invariant c.in-Some.ensures.times (omega arith)
      (elim c.loop-first-test.branch [
        | else-loop-first-test w ↦ inl (omega (arith, w.loop-first-test.false))
        | then-loop-first-test+else-width-size w ↦ inr (inl (omega (arith, w.if-width-size.false)))
        | then-loop-first-test+then-width-size+else-level-height w ↦ inr (inr (omega (arith, w.if-level-height.false)))
      ]),
)
