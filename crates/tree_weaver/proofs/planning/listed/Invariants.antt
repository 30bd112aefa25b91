use Rattle.std.proofs.Common.{◌≡◌, ◌++◌}
use Rattle.range_log.specs.Rows.{levels_of}
use Rattle.border_hints.specs.Numbered.{own_touch}
use Rattle.tree_weaver.specs.Planned.{own_nodes}
use Rattle.tree_weaver.proofs.planning.listed.Given as goal

abbrev pub invariant-loop-level : goal.invariant-loop-level
invariant-loop-level l =
    l.row.items ++ own_nodes l.fn.ticket (levels_of l.fn.ticket.snapshot.page_size (own_touch l.fn.ticket) l.level)
    ≡ own_nodes l.fn.ticket (levels_of l.fn.ticket.snapshot.page_size (own_touch l.fn.ticket) l.initial.level)
