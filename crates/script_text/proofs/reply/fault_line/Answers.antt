use Rattle.std.proofs.Common.{codes}
use Rattle.std.specs.Fmt.{decimal}
use Rattle.script_text.proofs.SaidLemmas.{prints_two}
use Rattle.script_text.proofs.reply.fault_line.Goals as goal

pub returns-in-NotPublished : goal.returns-in-NotPublished
returns-in-NotPublished c =
    rw c.in-NotPublished.is (prints_two c.format-in-NotPublished.result (codes "error not-published ") (decimal c.in-NotPublished.version) (codes " ") (decimal c.in-NotPublished.published) c.format-in-NotPublished.ensures.ok)

pub returns-in-OffsetPastSize : goal.returns-in-OffsetPastSize
returns-in-OffsetPastSize c =
    rw c.in-OffsetPastSize.is (prints_two c.format-in-OffsetPastSize.result (codes "error offset-past-size ") (decimal c.in-OffsetPastSize.offset) (codes " ") (decimal c.in-OffsetPastSize.size) c.format-in-OffsetPastSize.ensures.ok)

pub returns-in-BlobTooBig : goal.returns-in-BlobTooBig
returns-in-BlobTooBig c =
    rw c.in-BlobTooBig.is (prints_two c.format-in-BlobTooBig.result (codes "error blob-too-big ") (decimal c.in-BlobTooBig.end) (codes " ") (decimal c.in-BlobTooBig.limit) c.format-in-BlobTooBig.ensures.ok)

pub returns-in-RangePastSize : goal.returns-in-RangePastSize
returns-in-RangePastSize c =
    rw c.in-RangePastSize.is (prints_two c.format-in-RangePastSize.result (codes "error range-past-size ") (decimal c.in-RangePastSize.end) (codes " ") (decimal c.in-RangePastSize.size) c.format-in-RangePastSize.ensures.ok)

pub returns-in-Pending : goal.returns-in-Pending
returns-in-Pending c =
    rw c.in-Pending.is (prints_two c.format-in-Pending.result (codes "error pending ") (decimal c.in-Pending.version) (codes " held ") (decimal c.in-Pending.held) c.format-in-Pending.ensures.ok)
