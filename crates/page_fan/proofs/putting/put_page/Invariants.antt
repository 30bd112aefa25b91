use Rattle.std.proofs.Common.{◌≡◌, length, map, take, drop, []}
use Rattle.std.specs.Prelude.{All, IfSome}
use Rattle.std.specs.Option.{option_map_or}
use Rattle.replica_place.specs.Chosen.{chosen}
use Rattle.page_fan.specs.Counts.{NoneFell, RoseAt}
use Rattle.page_fan.specs.Listed.{puts_at}
use Rattle.page_fan.specs.Stands.{EachPut}
use Rattle.page_fan.specs.Replicas.{StandAt, providers_of}
use Rattle.page_fan.proofs.StoredSoFar.{KeptAs}
use Rattle.page_fan.proofs.putting.put_page.Given as goal

abbrev pub invariant-loop-i : goal.invariant-loop-i
invariant-loop-i g l =
    let counts = map (λ s. g.D.Door.faults s.door) in
    record {
      stored : IfSome l.stored (KeptAs l.houses (take l.fn.p (drop l.at l.buffer)) l.i);
      replicas : StandAt (RoseAt (counts l.fn.stands) (counts l.stands)) (take l.i (chosen l.placement)) (providers_of (option_map_or (λ s. s.spots) l.stored []));
      put : EachPut g.D.Door.called (puts_at l.at (take l.i (chosen l.placement))) l.fn.stands l.stands;
      kept : NoneFell (counts l.fn.stands) (counts l.stands);
      truth : All (λ s. g.D.Door.is_true s.door) l.fn.stands → All (λ s. g.D.Door.is_true s.door) l.stands;
      count : length l.stands ≡ length l.fn.stands;
    }
