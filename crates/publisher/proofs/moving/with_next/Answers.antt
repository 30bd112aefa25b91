use Rattle.std.specs.Arc.{arc_value}
use Rattle.publisher.proofs.Standing.{next_ready}
use Rattle.publisher.proofs.moving.with_next.Goals as goal

pub with_row-requires-clause-row : goal.with_row-requires-clause-row
with_row-requires-clause-row c = (next_ready c.rows_tell.ensures c.args.snapshot.now (arc_value c.args.row) c.stands.ensures c.requires).0

pub with_row-requires-clause-in_bounds : goal.with_row-requires-clause-in_bounds
with_row-requires-clause-in_bounds c = (next_ready c.rows_tell.ensures c.args.snapshot.now (arc_value c.args.row) c.stands.ensures c.requires).1

pub with_row-requires-clause-fits : goal.with_row-requires-clause-fits
with_row-requires-clause-fits c = (next_ready c.rows_tell.ensures c.args.snapshot.now (arc_value c.args.row) c.stands.ensures c.requires).2
