use Rattle.std.proofs.Common.{◌≡◌, ◌+◌, length}
use Rattle.range_log.specs.Depths.{depth_of}
use Rattle.border_hints.specs.Numbered.{log_upto}
use Rattle.border_hints.proofs.descent.depth_below.Given as goal

abbrev pub invariant-loop-i : goal.invariant-loop-i
invariant-loop-i l =
    l.depth ≡ depth_of l.fn.ticket.snapshot.page_size (log_upto l.fn.ticket) (length l.fn.ticket.snapshot.rows + l.i) l.fn.page
