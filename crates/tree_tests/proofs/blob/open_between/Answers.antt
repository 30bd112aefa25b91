use Rattle.std.proofs.Common.{arith, rules, ◌∙◌}
use Rattle.tree_tests.proofs.Opens.{few_open, next_open, one_open}
use Rattle.tree_tests.proofs.blob.open_between.Goals as goal

pub add-requires-clause-room : goal.add-requires-clause-room
add-requires-clause-room g c = few_open c.args.touches.now c.args.from c.loop-i.i c.loop-i.list c.loop-i.invariant.order (omega arith) (omega (arith, c.requires.few)) c.loop-i.invariant.list

pub add-requires-clause-next : goal.add-requires-clause-next
add-requires-clause-next g c = next_open c.args.touches.now c.args.from c.loop-i.i c.loop-i.list c.loop-i.invariant.order (omega arith) c.loop-i.invariant.list

pub loop-i-preserved : goal.loop-i-preserved
loop-i-preserved g c = record {
  order = omega arith;
  list = c.add.ensures ∙ one_open c.args.touches.now c.args.from c.loop-i.i _ c.loop-i.list c.loop-i.invariant.order (omega arith) (search rules) c.loop-i.invariant.list;
}
