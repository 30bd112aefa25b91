use Rattle.std.proofs.Common.{◌≡◌, ℕ, ◌+◌, ◌-◌, ◌*◌, ◌^◌, ◌<◌, ◌≤◌, vec_len}
use Rattle.std.specs.Prelude.{All, vec_capacity, ◌↔◌}
use Rattle.page_store.specs.Calls.{Traffic}
use Rattle.turn_lock.specs.History.{Begins}
use Rattle.client_session.specs.Sessions.{IsOwnerOf}
use Rattle.blob_server.specs.Peers.{IsIdle}
use Rattle.blob_server.proofs.sessions.sessions_of.Given as goal

abbrev pub invariant-loop : goal.invariant-loop
invariant-loop g l =
    let is_true = g.M.DoorMaker.is_true in
    let faults = g.M.DoorMaker.faults in
    record {
      count : vec_len l.sessions ≡ l.counter;
      room : l.workers ≤ vec_capacity l.sessions;
      idle : All (IsIdle l.shared) l.sessions.items;
      owner : IsOwnerOf l.shared l.owner;
      passes_left : l.fn.owner.made + l.workers ≤ 1024;
      made : l.owner.made ≡ l.fn.owner.made + l.counter;
      out : l.owner.out ≡ l.fn.owner.out + l.counter;
      seen : Begins l.fn.owner.seen l.owner.seen;
      maker_true : is_true l.maker;
      handed : Traffic g.M.DoorMaker.hands_out g.M.DoorMaker.takes_back (l.counter * l.shared.providers) 0 l.fn.maker l.maker;
      doors : faults l.maker < 2 ^ 64 - 1 → faults l.fn.maker ≤ faults l.maker;
      plan_stays : (n : ℕ) (door : _) → g.M.DoorMaker.makes l.fn.maker n door ↔ g.M.DoorMaker.makes l.maker n door;
      truth_stays : is_true l.fn.maker ↔ is_true l.maker;
    }
