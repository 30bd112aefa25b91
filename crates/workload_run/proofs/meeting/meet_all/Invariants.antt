use Rattle.std.proofs.Common.{◌≡◌, take}
use Rattle.std.specs.Prelude.{All}
use Rattle.workload_run.specs.Readers.{HasMet}
use Rattle.workload_run.proofs.meeting.meet_all.Given as goal

abbrev pub invariant-meets : goal.invariant-meets
invariant-meets g l = record {
  met : All (HasMet l.fn.keeper.all) (take l.watcher-index l.watchers);
  same : l.keeper ≡ l.fn.keeper;
}
