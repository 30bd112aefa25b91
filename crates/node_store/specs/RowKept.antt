-- What a row keeps.
use Rattle.std.specs.Prelude.{◌≡◌, ◌+◌, ◌*◌, ◌^◌, ◌≤◌, length}
use Rattle.range_log.specs.Rows.{levels_of}
use Rattle.node_store.specs.declared.row.Row.TheInside.{Inside}

-- the touched pages stand in order and end at 2^40 at the latest, and there is a node for each range that they meet
pub record KeepsRow (r : Inside) : Type 0 where
  pub low : r.shape.height ≤ 38
  pub ordered : r.shape.touch.first ≤ r.shape.touch.last
  pub fits : r.shape.touch.last * r.shape.page_size ≤ 2 ^ 40
  pub whole : length r.nodes.nodes ≡ length (levels_of r.shape.page_size r.shape.touch (r.shape.height + 1))
