use Rattle.std.proofs.Common.{ap, ◌∙◌}
use Rattle.node_store.specs.UpdateRows.{UpdateRow, bytes_of_page}
use Rattle.snapshot.specs.Versions.{row_at, bytes_of}
use Rattle.snapshot.proofs.views.View.page.Goals as goal

pub returns-clause-bytes : goal.returns-clause-bytes
returns-clause-bytes c below =
    let s = c.args.self.now in
    let own = c.row.ensures.stands.rows c.args.j c.requires.version.0 c.requires.version.1 in
    c.page.ensures.bytes (rw (← c.row.ensures.this) at below) ∙ ap (λ (r : UpdateRow). bytes_of_page r.pages.page_size (bytes_of r) c.args.q) c.row.ensures.this
    ∙ ap (λ p. bytes_of_page p (bytes_of (row_at s.rows c.args.j)) c.args.q) own.page_size
