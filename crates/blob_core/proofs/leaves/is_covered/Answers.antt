use Rattle.std.proofs.Common.{arith, ◌∙◌}
use Rattle.blob_core.proofs.Rowing.{log_tells, covered_is, extent_within}
use Rattle.blob_core.proofs.leaves.is_covered.Goals as goal

pub extent-at-requires-clause-count : goal.extent-at-requires-clause-count
extent-at-requires-clause-count c = (log_tells c.page_bytes_stay.ensures.extents c.args.p c.args.blob.now c.args.log.now c.requires.log).0

pub extent-at-requires-clause-sizes : goal.extent-at-requires-clause-sizes
extent-at-requires-clause-sizes c = (log_tells c.page_bytes_stay.ensures.extents c.args.p c.args.blob.now c.args.log.now c.requires.log).1

pub size_at-requires : goal.size_at-requires
size_at-requires c =
    omega (arith, (log_tells c.page_bytes_stay.ensures.extents c.args.p c.args.blob.now c.args.log.now c.requires.log).0, c.requires.version.1)

pub covers_page-requires-clause-end : goal.covers_page-requires-clause-end
covers_page-requires-clause-end c =
    extent_within c.page_bytes_stay.ensures.extents c.args.p c.args.blob.now c.args.log.now c.args.version c.extent-at.result.0 c.extent-at.result.1 c.requires.log
    c.requires.version.0 c.requires.version.1 c.extent-at.ensures.at c.extent-at.ensures.len

pub returns : goal.returns
returns c =
    c.covers_page.ensures
    ∙ covered_is c.args.p c.args.blob.now.updates c.args.log.now c.args.version c.args.page c.extent-at.result.0 c.extent-at.result.1 c.size_at.result c.requires.log.is
    c.requires.version.1 c.extent-at.ensures.at c.extent-at.ensures.len c.size_at.ensures
