use Rattle.tree_geom.proofs.Touches.{meets_true, meets_false, meets_cases}
use Rattle.tree_geom.proofs.laws.meets_is_decided.Goals as goal

pub returns-clause-met : goal.returns-clause-met
returns-clause-met c = meets_true

pub returns-clause-apart : goal.returns-clause-apart
returns-clause-apart c = meets_false

pub returns-clause-cases : goal.returns-clause-cases
returns-clause-cases c = meets_cases
