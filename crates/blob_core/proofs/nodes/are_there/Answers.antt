use Rattle.std.proofs.Common.{◌≡◌, ap, sym, ◌∙◌}
use mathlib.Core.Bool.{not}
use Rattle.std.specs.Prelude.{Some, None}
use Rattle.tree_geom.specs.declared.node.Node.{Node}
use Rattle.blob_core.proofs.Rowing.{none_of, some_of, not_there_at, there_next, all_there}
use Rattle.blob_core.proofs.nodes.are_there.Goals as goal

pub returns-then-is_none-clause-missing : goal.returns-then-is_none-clause-missing
returns-then-is_none-clause-missing c answer =
    let none : c.find_node.result ≡ None = none_of c.find_node.result (c.is_none.ensures ∙ ap not c.if-is_none.true) in
    not_there_at c.args.nodes.now c.args.blob c.args.version c.args.keys.now c.loop-range.range-index _ c.loop-range-test.true (sym c.find_node.ensures ∙ none)

pub loop-range-preserved : goal.loop-range-preserved
loop-range-preserved c =
    let some : (n : Node) × (c.find_node.result ≡ Some n) = some_of c.find_node.result (c.is_none.ensures ∙ ap not c.if-is_none.false) in
    there_next c.args.nodes.now c.args.blob c.args.version c.args.keys.now c.loop-range.range-index _ some.0 c.loop-range.invariant c.loop-range-test.true
    (sym c.find_node.ensures ∙ some.1)

pub returns-clause-all : goal.returns-clause-all
returns-clause-all c answer = all_there c.args.nodes.now c.args.blob c.args.version c.args.keys.now c.loop-range.range-index c.loop-range-test.false c.loop-range.invariant
