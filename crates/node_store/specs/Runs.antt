-- The nodes of a row, and what it keeps of its slots.
use Rattle.std.specs.Prelude.{◌≡◌, ℕ, ◌+◌, ◌<◌, ◌≤◌, List, ◌++◌, length, map, slice_index_or, vec_capacity}
use Rattle.boxcar.specs.Slot.{Named}
use Rattle.boxcar.specs.Table.{id_at}
use Rattle.boxcar.specs.declared.slot.Written.{Written}
use Rattle.tree_geom.specs.declared.node.Node.{Node}
use Rattle.node_store.specs.declared.slots.Slots.{Slots}
use Rattle.node_store.specs.declared.run.Few.{Few}
use Rattle.node_store.specs.declared.run.Many.{Many}

-- the nodes that puts show
abbrev pub nodes_put : List (Written Node) → List Node
nodes_put puts = map (λ (p : Written Node). p.value) puts

abbrev pub few_nodes : Few → List Node
few_nodes few = nodes_put few.inners ++ nodes_put few.leaves

abbrev pub many_nodes : Many → List Node
many_nodes many = nodes_put many.puts.items

-- put i is of the slot that is i after the first
abbrev pub LieFrom : List Named → ℕ → List (Written Node) → Type 0
LieFrom slots from puts = (i : ℕ) (d : Written Node) → i < length puts → (slice_index_or puts i d).of ≡ id_at slots (from + i)

-- there are slots of both kinds for as many as there is room for, and each put is of its own
pub record KeepsFew (slots : Slots) (few : Few) : Type 0 where
  pub small : few.room ≤ 32
  pub fits : length few.inners + length few.leaves ≤ few.room
  pub inners_within : few.first.inner + few.room ≤ length slots.inners.items
  pub leaves_within : few.first.leaf + few.room ≤ length slots.leaves.items
  pub inners_lie : LieFrom slots.inners.items few.first.inner few.inners
  pub leaves_lie : LieFrom slots.leaves.items few.first.leaf few.leaves

pub record KeepsMany (slots : Slots) (many : Many) : Type 0 where
  pub fits : length many.puts.items ≤ vec_capacity many.puts
  pub within : vec_capacity many.puts ≤ length slots.nodes.items
  pub lie : LieFrom slots.nodes.items 0 many.puts.items
