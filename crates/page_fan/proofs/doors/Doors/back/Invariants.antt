use Rattle.std.proofs.Common.{◌≡◌, ◌+◌, ◌-◌, ◌^◌, ◌≤◌, ℕ, vec_len, map}
use Rattle.std.specs.Prelude.{min, sum_by, ◌↔◌}
use Rattle.page_store.specs.Calls.{Traffic}
use Rattle.page_fan.proofs.doors.Doors.back.Given as goal

abbrev pub invariant-loop-stand : goal.invariant-loop-stand
invariant-loop-stand g l =
    let faults = g.M.DoorMaker.faults in
    let each = g.D.Door.faults in
    let is_true = g.M.DoorMaker.is_true in
    record {
      adds : faults l.fn.maker ≤ 2 ^ 64 - 1 → min (faults l.maker + sum_by each (map (λ s. s.door) l.stands.items)) (2 ^ 64 - 1) ≡ min (faults l.fn.maker + sum_by each (map (λ s. s.door) l.initial.stands.items)) (2 ^ 64 - 1);
      bounded : faults l.fn.maker ≤ 2 ^ 64 - 1 → faults l.maker ≤ 2 ^ 64 - 1;
      rises : min (faults l.fn.maker + sum_by each (map (λ s. s.door) l.initial.stands.items)) (2 ^ 64 - 1) ≤ faults l.maker + sum_by each (map (λ s. s.door) l.stands.items);
      plan_stays : (n : ℕ) (door : _) → g.M.DoorMaker.makes l.fn.maker n door ↔ g.M.DoorMaker.makes l.maker n door;
      few : vec_len l.stands ≤ vec_len l.initial.stands;
      traffic : Traffic g.M.DoorMaker.hands_out g.M.DoorMaker.takes_back 0 (vec_len l.initial.stands - vec_len l.stands) l.fn.maker l.maker;
      truth_stays : is_true l.fn.maker ↔ is_true l.maker;
    }

abbrev pub decreases-loop-stand : goal.decreases-loop-stand
decreases-loop-stand g l = vec_len l.stands
