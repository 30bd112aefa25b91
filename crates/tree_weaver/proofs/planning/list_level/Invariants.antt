use Rattle.std.proofs.Common.{◌≡◌, ◌-◌, ◌++◌, ◌/◌, ◌^◌, map}
use Rattle.std.specs.List.{range_with_len}
use Rattle.border_hints.specs.Numbered.{own_touch}
use Rattle.tree_weaver.proofs.Plans.{numbered_node}
use Rattle.tree_weaver.proofs.planning.list_level.Given as goal

abbrev pub invariant-loop-q : goal.invariant-loop-q
invariant-loop-q l =
    l.row.items
    ≡ l.initial.row.items ++ map (numbered_node l.fn.ticket l.fn.level) (range_with_len ((own_touch l.fn.ticket).first / 2 ^ l.fn.level) (l.q - (own_touch l.fn.ticket).first / 2 ^ l.fn.level))
