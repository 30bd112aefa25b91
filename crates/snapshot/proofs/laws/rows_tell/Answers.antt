use Rattle.snapshot.proofs.Telling.{told}
use Rattle.snapshot.proofs.laws.rows_tell.Goals as goal

pub returns : goal.returns
returns c p us rows pos ok are = told c.older_versions_stay.ensures.rows p us rows pos ok are
