use Rattle.node_door.proofs.Turning.{HasPut, ChangedTo}
use Rattle.node_door.proofs.turn.put_in_turn.Given as goal

abbrev pub invariant-loop-index : goal.invariant-loop-index
invariant-loop-index g l = ChangedTo (HasPut g.D.Door.is_true g.D.Door.faults g.D.Door.called l.houses l.p l.buffer l.puts) l.index l.fn.stands l.stands
