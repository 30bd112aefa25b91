use Rattle.std.proofs.Common.{◌+◌, ◌^◌, ap, ◌∙◌}
use Rattle.range_log.specs.Log.{newest_of}
use Rattle.range_reader.specs.Reading.{log_of}
use Rattle.range_reader.proofs.Descending.{page_some, inner_size, low_half, high_half}
use Rattle.range_reader.proofs.source.link_toward.Goals as goal

pub links-left-requires-clause-inner : goal.links-left-requires-clause-inner
links-left-requires-clause-inner g c =
    let p = c.args.row.now.version.page_size in
    inner_size p c.args.height (page_some p (2 ^ (c.args.height + 1)) c.requires.has.met.2)

pub returns-then-number-eq0-clause-link : goal.returns-then-number-eq0-clause-link
returns-then-number-eq0-clause-link g c =
    let s = c.args.row.now.version in
    c.links-left.ensures.left
    ∙ ap (newest_of s.page_size (log_of s) c.args.row.now.update) (low_half c.ranges_align.ensures.low s.page_size c.args.height c.args.page c.if-number-eq0.true)

pub returns-clause-link : goal.returns-clause-link
returns-clause-link g c =
    let s = c.args.row.now.version in
    c.links-left.ensures.right
    ∙ ap (newest_of s.page_size (log_of s) c.args.row.now.update) (high_half c.ranges_align.ensures.high s.page_size c.args.height c.args.page c.if-number-eq0.false)
