use Rattle.range_reader.proofs.ToldRanges.{same_ranges}
use Rattle.range_reader.proofs.ranges.read_ranges.Goals as goal

pub returns-in-Err-clause-answers : goal.returns-in-Err-clause-answers
returns-in-Err-clause-answers g c = same_ranges _ _ _ _ _ _ c.in-Err.fault c.in-Err.ensures.answers
