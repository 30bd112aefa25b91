-- What the nodes of a row keep.
use Rattle.std.specs.Prelude.{◌≡◌, ℕ, List, vec_capacity}
use Rattle.std.specs.Arc.{arc_value}
use Rattle.tree_geom.specs.declared.node.Node.{Node}
use Rattle.node_store.specs.Placed.{names_of, place_told, slots_there}
use Rattle.node_store.specs.Slots.{all_slots}
use Rattle.node_store.specs.Runs.{KeepsFew, KeepsMany, few_nodes, many_nodes}
use Rattle.node_store.specs.declared.slots.Slots.{Slots}
use Rattle.node_store.specs.declared.house.Kept.{Kept}
use Rattle.node_store.specs.declared.house.Kept.TheVariants.{Few, Many}
use Rattle.node_store.specs.declared.house.RowNodes.TheInside.{Inside}

abbrev pub nodes_of : Kept → List Node
nodes_of (Few few) = few_nodes few
nodes_of (Many many) = many_nodes many.value

abbrev pub room_of : Kept → ℕ
room_of (Few few) = few.room
room_of (Many many) = vec_capacity many.value.puts

abbrev pub KeepsSlots : Slots → Kept → Type 0
KeepsSlots slots (Few few) = KeepsFew slots few
KeepsSlots slots (Many many) = KeepsMany slots many.value

-- the row's slots are those of the block whose place in the house its tag tells, and its nodes lie there
pub record KeepsPuts (r : Inside) : Type 0 where
  pub there : names_of (all_slots (arc_value r.slots)) ≡ slots_there (place_told r.tag.numbers)
  pub kept : KeepsSlots (arc_value r.slots) r.kept
