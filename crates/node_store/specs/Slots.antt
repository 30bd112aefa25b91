-- The slots of a block.
use Rattle.std.specs.Prelude.{List, ◌++◌}
use Rattle.boxcar.specs.Slot.{Named}
use Rattle.node_store.specs.declared.slots.Slots.{Slots}

abbrev pub all_slots : Slots → List Named
all_slots slots = slots.inners.items ++ slots.leaves.items ++ slots.nodes.items
