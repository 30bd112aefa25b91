use Rattle.tree_geom.specs.Geometry.{tree_range}
use Rattle.snapshot.proofs.Finding.{version_finds, version_finds_none, has_ranges, none_then, some_then}
use Rattle.snapshot.proofs.views.RowView.find.Goals as goal

pub returns-clause-none : goal.returns-clause-none
returns-clause-none g c =
    let i = c.self.inside in
    let some = rw (← c.self.view_is) at c.requires in
    let this = rw c.in-Some.is at c.self.invariant.2 in
    let node = c.at_height.ensures.node i.version.page_size (has_ranges i.version i.update c.in-Some.row.now c.self.invariant.0 this some c.self.invariant.1) in
    rw (← c.self.view_is) (none_then c.at_height.result _ _ _
    (λ none has. version_finds_none c.row_keys_exact.ensures.exact c.page_bytes_stay.ensures.extents i.version i.update
    (tree_range i.version.page_size c.args.height c.args.number) c.in-Some.row.now c.self.invariant.0 this some c.self.invariant.1 none has)
    node)

pub returns-clause-found : goal.returns-clause-found
returns-clause-found g c =
    let i = c.self.inside in
    let some = rw (← c.self.view_is) at c.requires in
    let this = rw c.in-Some.is at c.self.invariant.2 in
    let node = c.at_height.ensures.node i.version.page_size (has_ranges i.version i.update c.in-Some.row.now c.self.invariant.0 this some c.self.invariant.1) in
    rw (← c.self.view_is) (some_then c.at_height.result _ _ _
    (λ x is. version_finds c.row_keys_exact.ensures.exact c.page_bytes_stay.ensures.extents i.version i.update
    (tree_range i.version.page_size c.args.height c.args.number) c.in-Some.row.now x c.self.invariant.0 this some c.self.invariant.1 is)
    node)
