use Rattle.std.proofs.Common.{◌≡◌, take, map}
use Rattle.std.specs.Arc.{arc_value}
use Rattle.radix_list.specs.Puts.{items_put, slots_told, names_of}
use Rattle.radix_list.proofs.grown.filled.Given as goal

abbrev pub invariant-loop-k : goal.invariant-loop-k
invariant-loop-k g l = record {
  items : items_put l.puts ≡ map arc_value (take l.k l.items);
  slots : slots_told l.puts ≡ take l.k (names_of l.slots);
}
