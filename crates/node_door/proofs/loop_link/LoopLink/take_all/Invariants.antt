use Rattle.std.proofs.Common.{◌≡◌, ◌-◌, ◌≤◌, ◌++◌, length, take}
use Rattle.node_door.specs.Loop.{IsBehind}
use Rattle.node_door.proofs.loop_link.LoopLink.take_all.Given as goal

abbrev pub invariant-parts : goal.invariant-parts
invariant-parts l = record {
  within : l.taken ≤ length l.bytes;
  written : l.self.written ≡ l.fn.self.written ++ take l.taken l.bytes;
  given : l.self.given ≡ l.fn.self.given;
  left : IsBehind l.fn.self.left l.self.left;
  page_size : l.self.node.page_size ≡ l.fn.self.node.page_size;
  room : l.self.room ≡ l.fn.self.room;
  faults : l.self.faults ≡ l.fn.self.faults;
  ends : l.self.ends ≡ l.fn.self.ends;
}

abbrev pub decreases-parts : goal.decreases-parts
decreases-parts l = length l.bytes - l.taken
