use Rattle.std.proofs.Common.{◌≡◌, ◌+◌, ◌-◌, ◌≤◌, length}
use Rattle.tree_geom.specs.Geometry.{height_of}
use Rattle.border_hints.specs.Numbered.{log_of, log_upto}
use Rattle.border_hints.proofs.Turning.{Down}
use Rattle.border_hints.proofs.descent.descend.Given as goal

abbrev pub invariant-loop-level : goal.invariant-loop-level
invariant-loop-level g l = record {
  down : Down l.fn.ticket.snapshot.page_size (log_upto l.fn.ticket) (log_of l.fn.ticket.snapshot) (length l.fn.ticket.snapshot.rows) (l.fn.ticket.version - 1)
      (height_of l.fn.ticket.snapshot.page_size l.fn.ticket.size) l.page l.level l.at l.edge.besides;
  version : l.row.version ≡ l.fn.ticket.snapshot;
  row : l.row.update ≡ l.at;
  counted : l.steps + l.level ≤ l.initial.steps + l.initial.level;
}
