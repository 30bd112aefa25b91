use Rattle.branching.proofs.Parents.{lines_stay, first_lines, branched_lines}
use Rattle.branching.proofs.laws.lineages_tell_origins.Goals as goal

pub returns-clause-stay : goal.returns-clause-stay
returns-clause-stay c = lines_stay

pub returns-clause-first : goal.returns-clause-first
returns-clause-first c = first_lines

pub returns-clause-branched : goal.returns-clause-branched
returns-clause-branched c = branched_lines
