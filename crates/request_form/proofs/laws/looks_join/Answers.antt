use Rattle.request_form.proofs.Looks.{looks_joined}
use Rattle.request_form.proofs.laws.looks_join.Goals as goal

pub returns : goal.returns
returns c = looks_joined
