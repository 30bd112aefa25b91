use Rattle.std.proofs.Common.{◌≡◌}
use Rattle.range_log.specs.Depths.{depth_of}
use Rattle.blob_core.proofs.leaves.depth_at.Given as goal

abbrev pub invariant-loop-k : goal.invariant-loop-k
invariant-loop-k l = l.depth ≡ depth_of l.p l.log l.k l.page
