use Rattle.std.proofs.Common.{◌≤◌, length, arith, ap, ◌∙◌}
use Rattle.tree_geom.specs.declared.touch.Touch.{Touch}
use Rattle.node_store.specs.UpdateRows.{UpdateRow}
use Rattle.snapshot.specs.Versions.{updates_of, row_at}
use Rattle.snapshot.proofs.Lists.{length-updates}
use Rattle.snapshot.proofs.Finding.{touch_size}
use Rattle.snapshot.proofs.views.View.size_by.Goals as goal

pub returns-clause-size : goal.returns-clause-size
returns-clause-size c =
    let s = c.args.self.now in
    let is = c.stands.ensures in
    let le : c.args.j ≤ length (updates_of s) = omega (arith, length-updates s.rows, c.requires.version.1) in
    ap (λ (t : Touch). t.size) c.touch.ensures
    ∙ ap (λ (r : UpdateRow). r.touch.size) c.requires.this
    ∙ touch_size c.page_bytes_stay.ensures.extents s.page_size c.args.j (updates_of s) (row_at s.rows c.args.j) is.replayable c.requires.version.0 le
    (is.rows c.args.j c.requires.version.0 c.requires.version.1)

pub returns-clause-fits : goal.returns-clause-fits
returns-clause-fits c = omega (arith, c.stands.ensures.fits c.args.j c.requires.version.1, returns-clause-size c)
