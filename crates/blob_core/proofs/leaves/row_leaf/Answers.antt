use Rattle.std.proofs.Common.{arith}
use Rattle.tree_geom.specs.Geometry.{page_range}
use Rattle.blob_core.proofs.Rowing.{has_version, log_tells}
use Rattle.blob_core.proofs.leaves.row_leaf.Goals as goal

pub span_stands-requires : goal.span_stands-requires
span_stands-requires c =
    let v = has_version c.args.p c.args.blob.now.updates c.args.version (page_range c.args.p c.args.page) c.requires.has in
    let tells = log_tells c.page_bytes_stay.ensures.extents c.args.p c.args.blob.now c.args.log.now c.requires.log in
    omega (arith, c.size_at.ensures, tells.1 c.args.version v.1, c.requires.log.fits c.args.version v.1)

pub is_folded-requires-clause-version : goal.is_folded-requires-clause-version
is_folded-requires-clause-version c = has_version c.args.p c.args.blob.now.updates c.args.version (page_range c.args.p c.args.page) c.requires.has
