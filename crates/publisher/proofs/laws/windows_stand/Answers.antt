use Rattle.publisher.proofs.Growing.{new_stands, numbered_stands, log_published}
use Rattle.publisher.proofs.Leading.{published_counts}
use Rattle.publisher.proofs.Standing.{stands_finished, rows_published}
use Rattle.publisher.proofs.laws.windows_stand.Goals as goal

pub returns-clause-new : goal.returns-clause-new
returns-clause-new c = new_stands

pub returns-clause-numbered : goal.returns-clause-numbered
returns-clause-numbered c = numbered_stands c.older_versions_stay.ensures.rows c.older_versions_stay.ensures.extents c.rows_stay.ensures.more

pub returns-clause-finished : goal.returns-clause-finished
returns-clause-finished c = stands_finished

pub returns-clause-published : goal.returns-clause-published
returns-clause-published c = rows_published

pub returns-clause-logs : goal.returns-clause-logs
returns-clause-logs c = log_published c.older_versions_stay.ensures.rows c.rows_tell.ensures

pub returns-clause-counts : goal.returns-clause-counts
returns-clause-counts c w = published_counts w.rows
