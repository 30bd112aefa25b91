use Rattle.version_manager.proofs.Lasting.{tickets}
use Rattle.version_manager.proofs.laws.tickets_stay.Goals as goal

pub returns : goal.returns
returns c = tickets c.old_versions_stay.ensures
