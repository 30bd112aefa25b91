use Rattle.request_form.proofs.HangUps.{given_up_more}
use Rattle.request_form.proofs.laws.giving_up_goes_on.Goals as goal

pub returns : goal.returns
returns c = given_up_more
