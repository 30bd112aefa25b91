use Rattle.std.proofs.Common.{List, sym, ap, subst, ◌∙◌}
use Rattle.std.specs.Arc.{arc_value}
use Rattle.node_store.specs.UpdateRows.{UpdateRow}
use Rattle.snapshot.specs.Versions.{IsVersion}
use Rattle.snapshot.proofs.Growing.{IsVersion-push, of_rows, paged_of}
use Rattle.snapshot.proofs.version.Snapshot.with_row.Goals as goal

pub invariant_of-result : goal.invariant_of-result
invariant_of-result c =
    let row = arc_value c.args.row in
    let pages = c.pages.ensures ∙ ap (λ (r : UpdateRow). r.pages) c.deref.ensures in
    let P : List UpdateRow → Type 0 = λ l. IsVersion (of_rows c.self.inside.blob c.self.inside.page_size l) in
    let room = rw (← c.self.view_is) at c.requires.room in
    let own = rw (← c.self.view_is) at c.requires.row in
    let in_bounds = rw (← c.self.view_is) at c.requires.in_bounds in
    let fits = rw (← c.self.view_is) at c.requires.fits in
    subst P (sym c.in_ok-rows.ensures.ok)
    (IsVersion-push c.older_versions_stay.ensures.rows c.older_versions_stay.ensures.extents c.self.inside.blob c.self.inside.page_size c.self.inside.rows row
    c.self.invariant room own in_bounds
    (paged_of row.pages c.pages.result.now c.self.inside.page_size (sym pages) c.stands.ensures.cut own.page_size)
    fits)
