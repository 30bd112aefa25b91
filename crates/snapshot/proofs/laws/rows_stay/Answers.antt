use Rattle.snapshot.proofs.Growing.{IsRowOf-longer, IsRowOf-shorter}
use Rattle.snapshot.proofs.laws.rows_stay.Goals as goal

pub returns-clause-more : goal.returns-clause-more
returns-clause-more c = IsRowOf-longer c.older_versions_stay.ensures.rows c.older_versions_stay.ensures.extents

pub returns-clause-fewer : goal.returns-clause-fewer
returns-clause-fewer c = IsRowOf-shorter c.older_versions_stay.ensures.rows c.older_versions_stay.ensures.extents
