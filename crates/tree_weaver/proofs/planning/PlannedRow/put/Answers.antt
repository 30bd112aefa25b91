use Rattle.std.proofs.Common.{◌≡◌, subst}
use Rattle.std.specs.Prelude.{IfOk}
use Rattle.tree_weaver.specs.Planned.{RowPlan, nodes_of}
use Rattle.tree_weaver.proofs.planning.PlannedRow.put.Goals as goal

pub returns-clause-nodes : goal.returns-clause-nodes
returns-clause-nodes g c =
    let P : RowPlan → Type 0 = λ r. IfOk c.put_nodes.result (λ row. row.nodes ≡ nodes_of r.nodes) in
    subst P c.self.view_is c.put_nodes.ensures.nodes
