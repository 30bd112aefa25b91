use Rattle.standing_tests.specs.Boards.{MayRefresh}
use Rattle.standing_tests.proofs.crowd.write_all.Given as goal

abbrev pub invariant-loop-version : goal.invariant-loop-version
invariant-loop-version g l = MayRefresh l.keeper l.session
