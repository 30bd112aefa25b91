-- Rows of two nodes.
use Rattle.std.specs.Prelude.{◌≡◌, List, length}
use Rattle.boxcar.specs.Table.{Shelves}
use Rattle.node_store.specs.Placed.{PlacedNodes}
use Rattle.node_store.specs.House.{IsIn}

-- there are two nodes, and they lie in this house
pub record AreTwoIn (house : List Shelves) (row : PlacedNodes) : Type 0 where
  pub here : IsIn house row.spot
  pub two : length row.nodes ≡ 2
