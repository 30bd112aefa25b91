use Rattle.snapshot.proofs.Finding.{in_rows, placed_here}
use Rattle.snapshot.proofs.views.View.links.Goals as goal

pub find-requires : goal.find-requires
find-requires g c = in_rows c.args.self.now c.args.j c.args.range c.requires.has

pub links-requires : goal.links-requires
links-requires g c =
    let rows = in_rows c.args.self.now c.args.j c.args.range c.requires.has in
    placed_here c.args.nodes.now c.args.self.now c.args.j c.args.range c.in-Some.node c.requires.here rows.0 rows.1 c.in-Some.ensures.found
