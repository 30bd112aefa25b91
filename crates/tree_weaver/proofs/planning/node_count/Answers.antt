use Rattle.std.proofs.Common.{arith, refl}
use Rattle.tree_weaver.proofs.PutRows.{counted_alone, counted_none, counted_more, counted_fits}
use Rattle.tree_weaver.proofs.planning.node_count.Goals as goal

pub returns-then-touch : goal.returns-then-touch
returns-then-touch c p = omega (arith, c.from.ensures, counted_alone p c.args.touch.now c.args.height c.if-touch.true)

pub loop-level-init : goal.loop-level-init
loop-level-init c p = counted_none p c.args.touch.now _ refl

pub loop-level-preserved : goal.loop-level-preserved
loop-level-preserved c p = counted_more p c.args.touch.now c.loop-level.level c.loop-level.count c.requires.ordered (c.loop-level.invariant p)

pub overflow_sub-count : goal.overflow_sub-count
overflow_sub-count c =
    let fits = counted_fits c.args.touch.now c.loop-level.level c.loop-level.count c.requires.ordered c.requires.small (omega (arith, c.loop-level-test.true, c.requires.low)) c.loop-level.invariant in
    omega (arith, fits.0)

pub overflow_add-count-in-loop-level : goal.overflow_add-count-in-loop-level
overflow_add-count-in-loop-level c =
    let fits = counted_fits c.args.touch.now c.loop-level.level c.loop-level.count c.requires.ordered c.requires.small (omega (arith, c.loop-level-test.true, c.requires.low)) c.loop-level.invariant in
    omega (arith, fits.1)
