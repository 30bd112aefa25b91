use Rattle.snapshot.proofs.Finding.{version_finds, version_finds_none, none_then, some_then}
use Rattle.snapshot.proofs.views.View.find.Goals as goal

pub returns-clause-none : goal.returns-clause-none
returns-clause-none g c =
    none_then c.at.result _ _ _
    (λ none has. version_finds_none c.row_keys_exact.ensures.exact c.page_bytes_stay.ensures.extents c.args.self.now c.args.j c.args.range c.row.result.now
    c.row.ensures.stands c.row.ensures.this c.requires.0 c.requires.1 none has)
    c.at.ensures.node

pub returns-clause-found : goal.returns-clause-found
returns-clause-found g c =
    some_then c.at.result _ _ _
    (λ x is. version_finds c.row_keys_exact.ensures.exact c.page_bytes_stay.ensures.extents c.args.self.now c.args.j c.args.range c.row.result.now x
    c.row.ensures.stands c.row.ensures.this c.requires.0 c.requires.1 is)
    c.at.ensures.node
