use Rattle.version_manager.proofs.Lasting.{unfinished}
use Rattle.version_manager.proofs.laws.unfinished_stay.Goals as goal

pub returns : goal.returns
returns c = unfinished
