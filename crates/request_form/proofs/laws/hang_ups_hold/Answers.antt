use Rattle.request_form.proofs.HangUps.{hang_ups}
use Rattle.request_form.proofs.laws.hang_ups_hold.Goals as goal

pub returns : goal.returns
returns c = hang_ups
