use Rattle.standing_tests.specs.Boards.{MayRefresh}
use Rattle.standing_tests.proofs.rows.fill.Given as goal

abbrev pub invariant-loop-before : goal.invariant-loop-before
invariant-loop-before g l = MayRefresh l.keeper l.session
