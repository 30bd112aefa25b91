use Rattle.world_acts.proofs.Pages.{page_putting, numbers_go_on}
use Rattle.world_acts.proofs.laws.pages_are_put.Goals as goal

pub returns-clause-put : goal.returns-clause-put
returns-clause-put c = page_putting

pub returns-clause-go_on : goal.returns-clause-go_on
returns-clause-go_on c = numbers_go_on
