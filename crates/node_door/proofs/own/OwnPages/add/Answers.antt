use Rattle.std.proofs.Common.{◌∙◌, ◌==◌, cond, Some, ap}
use Rattle.node_door.specs.Own.{OwnAt}
use Rattle.node_door.specs.Door.{id_of}
use Rattle.node_door.proofs.own.OwnPages.add.Goals as goal

pub returns : goal.returns
returns c = λ other. c.in-Ok.ensures.updates.0 other ∙ ap (λ (o : OwnAt). cond (c.args.place == other) (Some c.args.id) (id_of o.pages other)) c.self.view_is
