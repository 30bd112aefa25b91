use Rattle.request_form.proofs.Own.{run_makes}
use Rattle.request_form.proofs.laws.runs_make_own_events.Goals as goal

pub returns : goal.returns
returns c = run_makes
