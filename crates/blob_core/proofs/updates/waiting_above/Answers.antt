use Rattle.std.proofs.Common.{◌-◌, ◌++◌, List, arith, ap, ◌∙◌}
use Rattle.range_log.specs.declared.«open».OpenTouch.{OpenTouch}
use Rattle.blob_core.specs.World.{waiting_after}
use Rattle.blob_core.proofs.Logs.{waiting_next}
use Rattle.blob_core.proofs.updates.waiting_above.Goals as goal

pub loop-below-preserved : goal.loop-below-preserved
loop-below-preserved c =
    record {
      above = omega arith;
      rest = ap (λ (l : List OpenTouch). l ++ waiting_after c.args.log.now c.args.published (c.loop-below.below - 1 - c.args.published)) c.in_ok-push.ensures.items
          ∙ waiting_next c.args.log.now c.args.published c.loop-below.below c.loop-below.waiting.items _ c.loop-below-test.true (omega arith) ∙ c.loop-below.invariant.rest;
    }
