use Rattle.std.proofs.Common.{◌≡◌, ◌+◌, ◌≤◌, length, map, take}
use Rattle.std.specs.Prelude.{◌↔◌}
use Rattle.std.specs.VecDeque.{deque_capacity}
use Rattle.page_store.specs.Calls.{Calls}
use Rattle.page_fan.specs.Groups.{HasReplies}
use Rattle.page_fan.specs.Stands.{group_of}
use Rattle.page_fan.proofs.stand.Stand.put_group.Given as goal

abbrev pub invariant-loop-put : goal.invariant-loop-put
invariant-loop-put g l =
    let faults = g.D.Door.faults in
    let is_true = g.D.Door.is_true in
    record {
      replies : HasReplies l.houses l.p l.buffer (l.index + 1) (faults l.fn.self.door) (faults l.self.door) l.self.tray.items;
      truth : is_true l.fn.self.door ↔ is_true l.self.door;
      group : map (λ reply. reply.at) l.self.tray.items ≡ group_of (l.index + 1) (take l.put-index l.puts);
      calls : Calls g.D.Door.called (length l.self.tray.items) l.fn.self.door l.self.door;
      room : deque_capacity l.fn.self.tray ≤ deque_capacity l.self.tray;
    }
