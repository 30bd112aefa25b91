use Rattle.std.proofs.Common.{ℕ, vec_len}
use Rattle.std.specs.Prelude.{◌↔◌}
use Rattle.client_session.specs.Sessions.{IsOwnerOf}
use Rattle.store_sessions.proofs.Traffics.{HaveGone}
use Rattle.workload_run.proofs.Crews.{Ending}
use Rattle.workload_run.proofs.crew.end_workers.Given as goal

abbrev pub invariant-loop-worker : goal.invariant-loop-worker
invariant-loop-worker g l =
    let is_true = g.M.DoorMaker.is_true in
    let faults = g.M.DoorMaker.faults in
    record {
      ending : Ending g.M.Door.Door.faults l.shared l.fn.owner l.owner (faults l.fn.maker) (faults l.maker) l.fn.workers.items l.workers.items l.stop;
      owner : IsOwnerOf l.shared l.owner;
      gone : HaveGone g.M.DoorMaker.hands_out g.M.DoorMaker.takes_back l.shared.providers (vec_len l.fn.workers) (vec_len l.workers) l.fn.maker l.maker;
      plan_stays : (n : ℕ) (door : _) → g.M.DoorMaker.makes l.fn.maker n door ↔ g.M.DoorMaker.makes l.maker n door;
      truth_stays : is_true l.fn.maker ↔ is_true l.maker;
    }

abbrev pub decreases-loop-worker : goal.decreases-loop-worker
decreases-loop-worker g l = vec_len l.workers
