use Rattle.std.proofs.Common.{◌≡◌, ℕ, ◌+◌, ◌-◌, ◌*◌, ◌^◌, ◌<◌, ◌≤◌, vec_len}
use Rattle.std.specs.Prelude.{vec_capacity, ◌↔◌}
use Rattle.page_store.specs.Calls.{Traffic}
use Rattle.client_session.specs.Sessions.{IsOwnerOf}
use Rattle.workload_run.specs.Workers.{AreReady}
use Rattle.workload_run.proofs.crew.workers_of.Given as goal

abbrev pub invariant-makes : goal.invariant-makes
invariant-makes g l =
    let is_true = g.M.DoorMaker.is_true in
    let faults = g.M.DoorMaker.faults in
    record {
      made : vec_len l.workers ≡ l.before;
      room : l.count ≤ vec_capacity l.workers;
      ready : AreReady g.M.Door.Door.faults l.shared l.fn.owner.seen l.workers.items;
      owner : IsOwnerOf l.shared l.owner;
      first_pass : l.fn.owner.made ≡ 1;
      few : l.count ≤ 16;
      given : l.owner ≡ record l.fn.owner { made = l.fn.owner.made + l.before; out = l.fn.owner.out + l.before };
      maker_true : is_true l.maker;
      handed : Traffic g.M.DoorMaker.hands_out g.M.DoorMaker.takes_back (l.before * l.shared.providers) 0 l.fn.maker l.maker;
      doors : faults l.maker < 2 ^ 64 - 1 → faults l.fn.maker ≤ faults l.maker;
      plan_stays : (n : ℕ) (door : _) → g.M.DoorMaker.makes l.fn.maker n door ↔ g.M.DoorMaker.makes l.maker n door;
      truth_stays : is_true l.fn.maker ↔ is_true l.maker;
    }
