use Rattle.version_manager.proofs.GapFinishes.{finished_after}
use Rattle.version_manager.proofs.laws.finished_by_gap.Goals as goal

pub returns : goal.returns
returns c = finished_after
