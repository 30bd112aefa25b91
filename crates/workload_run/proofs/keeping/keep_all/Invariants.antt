use Rattle.std.proofs.Common.{◌≡◌, ◌+◌, length}
use Rattle.workload_run.specs.Keeping.{Refreshes}
use Rattle.workload_run.proofs.keeping.keep_all.Given as goal

abbrev pub invariant-refreshes : goal.invariant-refreshes
invariant-refreshes g l = record {
  count : length l.keeper.all ≡ length l.fn.keeper.all + l.counter;
  refreshes : Refreshes l.fn.keeper l.keeper l.fn.session l.session;
}
