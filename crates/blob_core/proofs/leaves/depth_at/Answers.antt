use Rattle.std.proofs.Common.{arith}
use Rattle.blob_core.proofs.Rowing.{depth_next}
use Rattle.blob_core.proofs.leaves.depth_at.Goals as goal

pub depth_with-depth-requires-clause-few : goal.depth_with-depth-requires-clause-few
depth_with-depth-requires-clause-few c =
    omega (arith, c.loop-k.invariant, (c.depth_counts_backs.ensures.few c.args.p c.loop-k.k c.args.page c.args.log.now).0, c.loop-k-test.true)

pub loop-k-preserved : goal.loop-k-preserved
loop-k-preserved c =
    depth_next c.args.p c.args.log.now c.loop-k.k c.args.page c.loop-k.depth c.depth_with-depth.result c.loop-k.invariant c.depth_with-depth.ensures
