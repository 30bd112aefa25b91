use Rattle.std.proofs.Common.{arith}
use Rattle.tree_geom.proofs.Pages.{meets_rest}
use Rattle.tree_geom.proofs.Touches.{told, tells_shared}
use Rattle.tree_geom.proofs.touch.meets.Goals as goal

pub returns-then-touch-last-clause-is : goal.returns-then-touch-last-clause-is
returns-then-touch-last-clause-is c =
    meets_rest c.args.p c.bytes.result c.bytes-2.result c.args.touch.now c.args.range (omega arith) c.bytes.ensures.is c.bytes-2.ensures.is (omega arith) c.if-touch-last.true

pub returns-then-touch-last-clause-means : goal.returns-then-touch-last-clause-means
returns-then-touch-last-clause-means c = told c.args.p c.args.touch.now c.args.range _ (returns-then-touch-last-clause-is c)

pub returns-then-touch-last-clause-shares : goal.returns-then-touch-last-clause-shares
returns-then-touch-last-clause-shares c = tells_shared c.args.p c.args.touch.now c.args.range _ (omega arith) (returns-then-touch-last-clause-is c)
