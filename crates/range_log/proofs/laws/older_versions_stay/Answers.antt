use Rattle.range_log.proofs.Growth.{newest_above, logs_grow, rows_stay, extents_grow, size_front, extent_of_front}
use Rattle.range_log.proofs.laws.older_versions_stay.Goals as goal

pub returns-clause-above : goal.returns-clause-above
returns-clause-above c = newest_above

pub returns-clause-grow : goal.returns-clause-grow
returns-clause-grow c = logs_grow

pub returns-clause-rows : goal.returns-clause-rows
returns-clause-rows c = rows_stay

pub returns-clause-extents : goal.returns-clause-extents
returns-clause-extents c = extents_grow

pub returns-clause-sizes : goal.returns-clause-sizes
returns-clause-sizes c = size_front

pub returns-clause-places : goal.returns-clause-places
returns-clause-places c = extent_of_front
