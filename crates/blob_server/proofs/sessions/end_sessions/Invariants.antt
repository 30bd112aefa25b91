use Rattle.std.proofs.Common.{◌≡◌, ℕ, ◌+◌, ◌-◌, ◌^◌, ◌≤◌, min, vec_len}
use Rattle.std.specs.Prelude.{All, sum_by, ◌↔◌}
use Rattle.turn_lock.specs.History.{Begins}
use Rattle.client_session.specs.Sessions.{IsOwnerOf}
use Rattle.store_sessions.proofs.Traffics.{HaveGone}
use Rattle.blob_server.specs.Peers.{IsIdle, faults_of_doors}
use Rattle.blob_server.proofs.Idling.{HaveEnded}
use Rattle.blob_server.proofs.sessions.end_sessions.Given as goal

abbrev pub invariant-loop-session : goal.invariant-loop-session
invariant-loop-session g l =
    let is_true = g.M.DoorMaker.is_true in
    let faults = g.M.DoorMaker.faults in
    let counted = faults_of_doors g.M.Door.Door.faults in
    record {
      idle : All (IsIdle l.shared) l.sessions.items;
      owner : IsOwnerOf l.shared l.owner;
      gone : HaveGone g.M.DoorMaker.hands_out g.M.DoorMaker.takes_back l.shared.providers (vec_len l.fn.sessions) (vec_len l.sessions) l.fn.maker l.maker;
      made : l.owner.made ≡ l.fn.owner.made;
      out : l.fn.owner.out + vec_len l.sessions ≡ l.owner.out + vec_len l.fn.sessions;
      seen : Begins l.fn.owner.seen l.owner.seen;
      ended : HaveEnded l.fn.sessions.items l.sessions.items l.owner.seen;
      doors : min (faults l.fn.maker + sum_by counted l.fn.sessions.items) (2 ^ 64 - 1) ≤ faults l.maker + sum_by counted l.sessions.items;
      plan_stays : (n : ℕ) (door : _) → g.M.DoorMaker.makes l.fn.maker n door ↔ g.M.DoorMaker.makes l.maker n door;
      truth_stays : is_true l.fn.maker ↔ is_true l.maker;
    }

abbrev pub decreases-loop-session : goal.decreases-loop-session
decreases-loop-session g l = vec_len l.sessions
