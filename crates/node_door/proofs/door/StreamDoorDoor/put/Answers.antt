use Rattle.std.proofs.Common.{arith}
use Rattle.node_door.proofs.Calls.{put_called, put_rose, put_never_falls}
use Rattle.node_door.proofs.door.StreamDoorDoor.put.Goals as goal

pub returns-clause-called : goal.returns-clause-called
returns-clause-called g c = put_called _ _ _ _ c.put_page.ensures.put

pub returns-clause-failed : goal.returns-clause-failed
returns-clause-failed g c = put_rose _ _ _ _ (omega (arith, c.faults-faults.ensures, c.faults-faults.type_inv)) c.put_page.ensures.put

pub returns-clause-never_falls : goal.returns-clause-never_falls
returns-clause-never_falls g c = put_never_falls _ _ _ _ (omega (arith, c.faults-faults.ensures, c.faults-faults.type_inv)) c.put_page.ensures.put
