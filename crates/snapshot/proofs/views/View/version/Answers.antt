use Rattle.std.proofs.Common.{sym}
use Rattle.std.proofs.lemmas.List.{length-take-le}
use Rattle.snapshot.proofs.Growing.{IsVersion-older}
use Rattle.snapshot.proofs.views.View.version.Goals as goal

pub returns-clause-count : goal.returns-clause-count
returns-clause-count c =
    let i = c.self.inside in
    rw (← c.self.view_is) (sym (length-take-le i.version i.snapshot.now.rows c.self.invariant))

pub returns-clause-stands : goal.returns-clause-stands
returns-clause-stands c =
    let i = c.self.inside in
    rw (← c.self.view_is) (IsVersion-older c.older_versions_stay.ensures.rows c.older_versions_stay.ensures.extents i.snapshot.now i.version c.stands.ensures)
