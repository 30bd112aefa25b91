use Rattle.blob_model.proofs.Marks.{published_within}
use Rattle.blob_model.proofs.laws.published_are_numbered.Goals as goal

pub returns : goal.returns
returns c = published_within
