use Rattle.std.proofs.Common.{List, sym, ap, subst}
use Rattle.node_store.specs.UpdateRows.{UpdateRow}
use Rattle.snapshot.specs.Versions.{IsVersion}
use Rattle.snapshot.proofs.Growing.{IsVersion-older, of_rows}
use Rattle.snapshot.proofs.version.Snapshot.at.Goals as goal

pub invariant_of-result : goal.invariant_of-result
invariant_of-result c =
    let P : List UpdateRow → Type 0 = λ l. IsVersion (of_rows c.self.inside.blob c.self.inside.page_size l) in
    subst P (sym c.in_ok-rows.ensures)
    (IsVersion-older c.older_versions_stay.ensures.rows c.older_versions_stay.ensures.extents (of_rows c.self.inside.blob c.self.inside.page_size c.self.inside.rows) c.args.version c.self.invariant)

pub returns : goal.returns
returns c = rw (← c.self.view_is) (ap (of_rows c.self.inside.blob c.self.inside.page_size) c.in_ok-rows.ensures)
