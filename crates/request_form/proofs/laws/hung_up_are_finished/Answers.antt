use Rattle.request_form.proofs.HungUpFinished.{hung_up_finished}
use Rattle.request_form.proofs.laws.hung_up_are_finished.Goals as goal

pub returns : goal.returns
returns c = hung_up_finished c.old_versions_stay.ensures c.finished_by_events.ensures
