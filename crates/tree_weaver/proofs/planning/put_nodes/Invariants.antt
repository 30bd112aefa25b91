use Rattle.std.proofs.Common.{◌≡◌, ◌++◌, length}
use Rattle.node_store.specs.House.{IsIn}
use Rattle.tree_weaver.specs.Planned.{own_nodes, own_ranges, nodes_of}
use Rattle.tree_weaver.proofs.PutRows.{nodes_below}
use Rattle.tree_weaver.proofs.planning.put_nodes.Given as goal

abbrev pub invariant-loop-level : goal.invariant-loop-level
invariant-loop-level g l = record {
  here : IsIn l.fn.nodes l.row.spot;
  version : l.row.version ≡ l.fn.version;
  room : l.row.room ≡ length (own_ranges l.fn.ticket);
  nodes : l.row.nodes ++ nodes_below l.fn.ticket l.level ≡ nodes_of (own_nodes l.fn.ticket (own_ranges l.fn.ticket));
}
