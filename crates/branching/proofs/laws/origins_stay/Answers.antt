use Rattle.branching.proofs.Parents.{origin_older, origin_past, origin_own, origin_shared}
use Rattle.branching.proofs.laws.origins_stay.Goals as goal

pub returns-clause-stay : goal.returns-clause-stay
returns-clause-stay c = origin_older

pub returns-clause-new : goal.returns-clause-new
returns-clause-new c = origin_past

pub returns-clause-own : goal.returns-clause-own
returns-clause-own c = origin_own

pub returns-clause-shared : goal.returns-clause-shared
returns-clause-shared c = origin_shared
