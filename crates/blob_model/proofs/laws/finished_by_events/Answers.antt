use Rattle.blob_model.proofs.Marks.{finished_by}
use Rattle.blob_model.proofs.laws.finished_by_events.Goals as goal

pub returns : goal.returns
returns c = finished_by
