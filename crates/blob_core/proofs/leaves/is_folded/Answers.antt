use Rattle.std.proofs.Common.{arith}
use Rattle.blob_core.proofs.Rowing.{log_tells}
use Rattle.blob_core.proofs.leaves.is_folded.Goals as goal

pub depth_at-requires-clause-version : goal.depth_at-requires-clause-version
depth_at-requires-clause-version c =
    omega (arith, (log_tells c.page_bytes_stay.ensures.extents c.args.p c.args.blob.now c.args.log.now c.requires.log).0, c.requires.version.1)
