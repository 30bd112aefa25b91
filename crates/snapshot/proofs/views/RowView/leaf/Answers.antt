use Rattle.tree_geom.specs.Geometry.{tree_range}
use Rattle.snapshot.proofs.Finding.{in_rows, placed_here}
use Rattle.snapshot.proofs.views.RowView.leaf.Goals as goal

pub find-requires : goal.find-requires
find-requires g c =
    let s = c.args.self.now.version in
    (in_rows s c.args.self.now.update (tree_range s.page_size 0 c.args.page) c.requires.has).0

pub parts-requires : goal.parts-requires
parts-requires g c =
    let s = c.args.self.now.version in
    let range = tree_range s.page_size 0 c.args.page in
    let rows = in_rows s c.args.self.now.update range c.requires.has in
    placed_here c.args.nodes.now s c.args.self.now.update range c.in-Some.node c.requires.here rows.0 rows.1 c.in-Some.ensures.found
