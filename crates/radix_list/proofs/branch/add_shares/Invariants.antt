use Rattle.std.proofs.Common.{◌≡◌, ◌+◌, ◌++◌, take, map, vec_len}
use Rattle.std.specs.Prelude.{vec_capacity}
use Rattle.std.specs.Arc.{arc_value}
use Rattle.radix_list.proofs.branch.add_shares.Given as goal

abbrev pub invariant-loop-child : goal.invariant-loop-child
invariant-loop-child g l = record {
  count : vec_len l.children ≡ vec_len l.initial.children + l.child-index;
  capacity : vec_capacity l.children ≡ vec_capacity l.initial.children;
  children : map arc_value l.children.items ≡ map arc_value l.initial.children.items ++ map arc_value (take l.child-index l.more);
}
