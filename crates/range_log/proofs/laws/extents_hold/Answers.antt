use Rattle.range_log.proofs.Bytes.{length-extents, extent_is, content_next}
use Rattle.range_log.proofs.laws.extents_hold.Goals as goal

pub returns-clause-count : goal.returns-clause-count
returns-clause-count c = length-extents

pub returns-clause-each : goal.returns-clause-each
returns-clause-each c = extent_is

pub returns-clause-contents : goal.returns-clause-contents
returns-clause-contents c = content_next
