use Rattle.std.proofs.Common.{◌≡◌, ◌-◌, ◌≤◌, take, drop, map, vec_len}
use Rattle.std.specs.Prelude.{vec_capacity}
use Rattle.std.specs.Arc.{arc_value}
use Rattle.radix_list.proofs.grown.Grown.rest.Given as goal

abbrev pub invariant-loop-i : goal.invariant-loop-i
invariant-loop-i g l = record {
  count : vec_len l.items ≡ l.i - l.first;
  room : l.end - l.first ≤ vec_capacity l.items;
  items : map arc_value l.items.items ≡ take (l.i - l.first) (drop l.first l.self);
}
