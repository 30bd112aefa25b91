use Rattle.blob_core.proofs.Onward.{reached_on}
use Rattle.blob_core.proofs.world.World.act.Goals as goal

pub invariant_of-self : goal.invariant_of-self
invariant_of-self c = reached_on c.self.inside.page c.self.inside.state c.act.new.self c.args.step.now c.act.result c.self.invariant c.act.ensures.done c.act.ensures.same
