use Rattle.std.proofs.Common.{◌≡◌, subst}
use Rattle.std.specs.Prelude.{IfOk}
use Rattle.tree_weaver.specs.Planned.{RowPlan}
use Rattle.tree_weaver.proofs.planning.PlannedRow.nodes.Goals as goal

pub returns : goal.returns
returns c =
    let P : RowPlan → Type 0 = λ r. IfOk c.listed.result (λ list. list.items ≡ r.nodes) in
    subst P c.self.view_is c.listed.ensures
