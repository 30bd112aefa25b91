use Rattle.std.proofs.Common.{arith, inl, inr}
use Rattle.node_store.proofs.Ranges.{climbed_first, climbed_next, level_climbed}
use Rattle.node_store.proofs.index.level_at.Goals as goal
use Rattle.node_store.proofs.index.level_at.Goals.{else-loop-first-test, then-loop-first-test+else-level-height}

pub loop-first-init : goal.loop-first-init
loop-first-init c = climbed_first c.args.touch.now c.args.height c.requires.height c.requires.ordered c.requires.fits

pub loop-first-preserved : goal.loop-first-preserved
loop-first-preserved c =
    climbed_next c.args.touch.now c.args.height c.loop-first.level c.loop-first.first c.loop-first.last c.loop-first.count
    c.requires.height c.requires.ordered c.requires.fits (omega arith) c.loop-first.invariant

pub returns : goal.returns
returns c p =
    level_climbed p c.args.touch.now c.args.height c.loop-first.level c.loop-first.first c.loop-first.last c.loop-first.count c.loop-first.invariant
    (elim c.loop-first-test.branch [
      | else-loop-first-test w ↦ inl (omega (arith, w.loop-first-test.false))
      | then-loop-first-test+else-level-height w ↦ inr (omega (arith, w.if-level-height.false))
    ])
