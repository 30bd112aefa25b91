use Rattle.std.proofs.Common.{◌≡◌, ◌+◌, ◌-◌, ◌*◌, ◌^◌, ◌<◌, ◌≤◌, vec_len}
use Rattle.std.specs.Prelude.{vec_capacity, All}
use Rattle.page_store.specs.Calls.{Traffic}
use Rattle.client_session.specs.Sessions.{IsOwnerOf}
use Rattle.workload_run.specs.WatchCrews.{IsReadyToWatch}
use Rattle.workload_run.specs.Doors.{MakesAsBefore}
use Rattle.workload_run.proofs.watch_crew.watchers_of.Given as goal

abbrev pub invariant-makes : goal.invariant-makes
invariant-makes g l =
    let is_true = g.M.DoorMaker.is_true in
    let faults = g.M.DoorMaker.faults in
    record {
      few : vec_len l.watchers ≤ l.count;
      room : l.count ≤ vec_capacity l.watchers;
      ready : All (IsReadyToWatch g.M.Door.Door.faults l.shared l.fn.owner.seen l.fn.stand.board) l.watchers.items;
      stand : (l.stand.board ≡ l.fn.stand.board) × (l.stand.left + vec_len l.watchers ≡ l.fn.stand.left);
      owner : IsOwnerOf l.shared l.owner;
      given : l.owner ≡ record l.fn.owner { made = l.fn.owner.made + vec_len l.watchers; out = l.fn.owner.out + vec_len l.watchers };
      maker_true : is_true l.maker;
      handed : Traffic g.M.DoorMaker.hands_out g.M.DoorMaker.takes_back (vec_len l.watchers * l.shared.providers) 0 l.fn.maker l.maker;
      doors : faults l.maker < 2 ^ 64 - 1 → faults l.fn.maker ≤ faults l.maker;
      same : MakesAsBefore is_true g.M.DoorMaker.makes l.fn.maker l.maker;
    }

abbrev pub decreases-makes : goal.decreases-makes
decreases-makes g l = l.count - vec_len l.watchers
