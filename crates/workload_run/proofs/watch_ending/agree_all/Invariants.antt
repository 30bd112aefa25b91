use Rattle.std.proofs.Common.{◌+◌, ◌-◌, ◌^◌, ◌<◌, ◌≤◌, vec_len}
use Rattle.std.specs.Prelude.{All, IfSome}
use Rattle.client_session.specs.Sessions.{IsOwnerOf}
use Rattle.workload_run.specs.Agreeing.{IsSeenIn}
use Rattle.workload_run.specs.Stops.{Stops}
use Rattle.workload_run.specs.Left.{left_faults}
use Rattle.workload_run.specs.WatchCrews.{IsDoneWatching}
use Rattle.workload_run.proofs.WatchCrews.{AgreeSoFar, ReadSoFar}
use Rattle.workload_run.proofs.WatchStages.{HaveEnded}
use Rattle.workload_run.proofs.watch_ending.agree_all.Given as goal

abbrev pub invariant-loop-watcher : goal.invariant-loop-watcher
invariant-loop-watcher g l =
    let m = g.M.DoorMaker in
    record {
      owner : IsOwnerOf l.shared l.owner;
      agree : AgreeSoFar l.stop l.agree (vec_len l.watchers) (vec_len l.fn.watchers);
      sessions : HaveEnded m.is_true m.makes m.hands_out m.takes_back l.shared (vec_len l.fn.watchers) (vec_len l.watchers) l.fn.owner l.owner l.fn.maker l.maker;
      made : (3 ≤ l.owner.made) × (l.owner.made + vec_len l.watchers < 1024);
      few : l.agree + vec_len l.watchers ≤ vec_len l.fn.watchers;
      done : All (IsDoneWatching g.M.Door.Door.faults l.shared l.fn.owner.seen l.standard.keeper.board) l.watchers.items;
      seen : IsSeenIn l.shared.fixed l.owner.seen l.standard.last;
      read : ReadSoFar l.stop l.owner.seen l.fn.watchers.items l.watchers.items l.readings;
      stop : IfSome l.stop (Stops l.shared.fixed l.owner.seen);
      doors : m.faults l.maker < 2 ^ 64 - 1 → m.faults l.fn.maker + left_faults l.stop ≤ m.faults l.maker;
    }

abbrev pub decreases-loop-watcher : goal.decreases-loop-watcher
decreases-loop-watcher g l = vec_len l.watchers
