use Rattle.std.proofs.Common.{◌∙◌, ap}
use Rattle.node_door.specs.Own.{OwnAt}
use Rattle.node_door.specs.Door.{id_of}
use Rattle.node_door.proofs.own.OwnPages.reserve.Goals as goal

pub returns-clause-same : goal.returns-clause-same
returns-clause-same c = λ place. c.reserve.ensures.entries.2 place ∙ ap (λ (o : OwnAt). id_of o.pages place) c.self.view_is
