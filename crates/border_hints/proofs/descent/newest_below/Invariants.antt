use Rattle.std.proofs.Common.{◌≡◌, ◌+◌, ◌-◌, length}
use Rattle.tree_geom.specs.Geometry.{tree_range}
use Rattle.range_log.specs.Log.{newest_of}
use Rattle.border_hints.specs.Numbered.{log_upto}
use Rattle.border_hints.proofs.descent.newest_below.Given as goal

abbrev pub invariant-loop-i : goal.invariant-loop-i
invariant-loop-i l =
    newest_of l.ticket.snapshot.page_size (log_upto l.ticket) (length l.ticket.snapshot.rows + l.i) (tree_range l.ticket.snapshot.page_size l.level l.number)
    ≡ newest_of l.ticket.snapshot.page_size (log_upto l.ticket) (l.ticket.version - 1) (tree_range l.ticket.snapshot.page_size l.level l.number)
