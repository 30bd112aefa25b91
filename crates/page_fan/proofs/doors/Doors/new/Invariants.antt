use Rattle.std.proofs.Common.{◌≡◌, ℕ, ◌≤◌, vec_len, map}
use Rattle.std.specs.Prelude.{All, vec_capacity, ◌↔◌}
use Rattle.page_store.specs.Calls.{Traffic}
use Rattle.page_fan.specs.Made.{AreMade}
use Rattle.page_fan.proofs.doors.Doors.new.Given as goal

abbrev pub invariant-loop-before : goal.invariant-loop-before
invariant-loop-before g l =
    let is_true = g.M.DoorMaker.is_true in
    let faults = g.M.DoorMaker.faults in
    record {
      count : vec_len l.stands ≡ l.before;
      room : l.providers ≤ vec_capacity l.stands;
      true_doors : is_true l.fn.maker → All g.D.Door.is_true (map (λ s. s.door) l.stands.items);
      fresh : All (λ x. g.D.Door.faults x ≡ 0) (map (λ s. s.door) l.stands.items);
      count_stays : faults l.maker ≡ faults l.fn.maker;
      each : AreMade (g.M.DoorMaker.makes l.fn.maker) (map (λ s. s.door) l.stands.items);
      plan_stays : (n : ℕ) (door : _) → g.M.DoorMaker.makes l.fn.maker n door ↔ g.M.DoorMaker.makes l.maker n door;
      truth_stays : is_true l.fn.maker ↔ is_true l.maker;
      traffic : Traffic g.M.DoorMaker.hands_out g.M.DoorMaker.takes_back l.before 0 l.fn.maker l.maker;
    }
