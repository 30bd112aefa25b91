use Rattle.node_door.proofs.Passing.{hears_given_same, hears_given_other}
use Rattle.node_door.proofs.wire.Wire.read_given.Goals as goal

pub returns-then-same-clause-hears : goal.returns-then-same-clause-hears
returns-then-same-clause-hears g c = hears_given_same c.args.count c.args.want.now _ _ _ c.if-same.true c.requires.few c.in-Some.ensures.compares

pub returns-clause-hears : goal.returns-clause-hears
returns-clause-hears g c = hears_given_other c.args.count c.args.want.now _ _ _ c.if-same.false c.requires.few c.in-Some.ensures.compares
