use Rattle.std.proofs.Common.{◌+◌, ◌-◌, ◌^◌, ◌<◌, ◌≤◌, vec_len}
use Rattle.std.specs.Prelude.{All, IfSome}
use Rattle.client_session.specs.Sessions.{IsOwnerOf}
use Rattle.workload_run.specs.Stops.{Stops}
use Rattle.workload_run.specs.Left.{left_faults}
use Rattle.workload_run.specs.WatchCrews.{IsEndable}
use Rattle.workload_run.proofs.WatchStages.{HaveEnded}
use Rattle.workload_run.proofs.watch_ending.end_watchers.Given as goal

abbrev pub invariant-loop-watcher : goal.invariant-loop-watcher
invariant-loop-watcher g l =
    let m = g.M.DoorMaker in
    record {
      owner : IsOwnerOf l.shared l.owner;
      sessions : HaveEnded m.is_true m.makes m.hands_out m.takes_back l.shared (vec_len l.fn.watchers) (vec_len l.watchers) l.fn.owner l.owner l.fn.maker l.maker;
      endable : All (IsEndable g.M.Door.Door.faults l.shared l.fn.owner.seen) l.watchers.items;
      stop : IfSome l.stop (Stops l.shared.fixed l.owner.seen);
      doors : m.faults l.maker < 2 ^ 64 - 1 → m.faults l.fn.maker + left_faults l.stop ≤ m.faults l.maker;
    }

abbrev pub decreases-loop-watcher : goal.decreases-loop-watcher
decreases-loop-watcher g l = vec_len l.watchers
