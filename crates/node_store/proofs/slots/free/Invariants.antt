use Rattle.std.proofs.Common.{◌≡◌, ◌≤◌, length}
use Rattle.std.specs.Prelude.{vec_capacity}
use Rattle.node_store.proofs.slots.free.Given as goal

abbrev pub invariant-loop-slot : goal.invariant-loop-slot
invariant-loop-slot g l = record {
  count : length l.slots.items ≡ l._slot;
  room : l.count ≤ vec_capacity l.slots;
}
