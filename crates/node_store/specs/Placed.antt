-- What lies in a house, and where.
use Rattle.std.specs.Prelude.{ℕ, ◌%◌, List, map}
use Rattle.boxcar.specs.Slot.{Named}
use Rattle.boxcar.specs.Table.{first, others}
use Rattle.tree_geom.specs.declared.node.Node.{Node}
use Rattle.tree_geom.specs.declared.node.Node.TheVariants.{Inner}

-- where nodes lie: their shard, their shelf there, and the mark of that shelf
pub record Spot : Type 0 where
  pub shard : ℕ
  pub shelf : ℕ
  pub mark : ℕ

-- the names of slots
abbrev pub names_of : List Named → List ℕ
names_of slots = map (λ (s : Named). s.id) slots

-- the version that a row's tag tells
abbrev pub version_told : List ℕ → ℕ
version_told tag = first tag

-- the place that it tells behind the version
abbrev pub place_told : List ℕ → List ℕ
place_told tag = others tag

-- the names of the slots of a block whose place that is: behind where the block was pushed
abbrev pub slots_there : List ℕ → List ℕ
slots_there place = others (others place)

-- where the nodes of a version lie, whose place tells their shelf and its mark
abbrev pub spot_of : ℕ → List ℕ → Spot
spot_of version place = record { shard = version % 16; shelf = first place; mark = first (others place) }

-- the nodes of a row of that version that were put so far, and how many slots there are for them
pub record PlacedNodes : Type 0 where
  pub version : ℕ
  pub room : ℕ
  pub nodes : List Node
  pub spot : Spot

-- one node
pub record PlacedNode : Type 0 where
  pub node : Node
  pub spot : Spot

-- what stands in place of a node that there is none of
abbrev pub no_node : Node
no_node = Inner 0 0
