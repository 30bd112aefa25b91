use Rattle.std.proofs.Common.{◌≡◌, drop}
use Rattle.blob_core.specs.World.{node_at}
use Rattle.blob_core.proofs.finds.find_node.Given as goal

abbrev pub invariant-loop-entry : goal.invariant-loop-entry
invariant-loop-entry l = node_at (drop l.entry-index l.nodes) l.key ≡ node_at l.nodes l.key
