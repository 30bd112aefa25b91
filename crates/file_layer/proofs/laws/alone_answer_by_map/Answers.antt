use Rattle.file_layer.proofs.Mapped.{answered_by_map}
use Rattle.file_layer.proofs.laws.alone_answer_by_map.Goals as goal

pub returns : goal.returns
returns c = answered_by_map
