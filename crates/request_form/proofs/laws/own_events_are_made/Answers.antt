use Rattle.request_form.proofs.Own.{answer_makes}
use Rattle.request_form.proofs.laws.own_events_are_made.Goals as goal

pub returns : goal.returns
returns c = answer_makes
