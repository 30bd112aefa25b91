use Rattle.std.proofs.Common.{arith}
use Rattle.node_door.proofs.Calls.{get_called, get_rose, get_never_falls}
use Rattle.node_door.proofs.door.StreamDoorDoor.get.Goals as goal

pub returns-clause-called : goal.returns-clause-called
returns-clause-called g c = get_called _ _ _ _ _ _ c.get_page.ensures.get

pub returns-clause-failed : goal.returns-clause-failed
returns-clause-failed g c = get_rose _ _ _ _ _ _ (omega (arith, c.faults-faults.ensures, c.faults-faults.type_inv)) c.get_page.ensures.get

pub returns-clause-never_falls : goal.returns-clause-never_falls
returns-clause-never_falls g c = get_never_falls _ _ _ _ _ _ (omega (arith, c.faults-faults.ensures, c.faults-faults.type_inv)) c.get_page.ensures.get
