use Rattle.node_door.proofs.Looping.{far_stands, stands_from}
use Rattle.node_door.proofs.loop_link.FarEnd.stands.Goals as goal

pub returns : goal.returns
returns c = stands_from _ _ c.self.view_is (far_stands _ _ _ _ _ c.self.invariant.looped)
