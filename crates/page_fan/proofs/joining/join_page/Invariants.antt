use Rattle.std.proofs.Common.{◌≡◌, ◌++◌, List, length, map, take, drop, []}
use Rattle.std.specs.Prelude.{All, IfSome}
use Rattle.std.specs.Option.{option_map_or}
use Rattle.replica_place.specs.Chosen.{chosen}
use Rattle.page_fan.specs.Counts.{NoneFell, RoseAt}
use Rattle.page_fan.specs.Groups.{AllReplied}
use Rattle.page_fan.specs.Listed.{puts_at}
use Rattle.page_fan.specs.Stands.{EachOwed}
use Rattle.page_fan.specs.declared.stand.Put.{Put}
use Rattle.page_fan.specs.declared.stand.Stand.{Stand}
use Rattle.page_fan.specs.Replicas.{StandAt, providers_of}
use Rattle.page_fan.proofs.StoredSoFar.{KeptAs}
use Rattle.page_fan.proofs.joining.join_page.Given as goal

abbrev pub invariant-loop-i : goal.invariant-loop-i
invariant-loop-i g l =
    let counts = map (λ s. g.D.Door.faults s.door) in
    record {
      stored : IfSome l.stored (KeptAs l.houses (take l.p (drop l.at l.buffer)) l.i);
      replicas : StandAt (RoseAt g.before (counts l.stands)) (take l.i (chosen l.placement)) (providers_of (option_map_or (λ s. s.spots) l.stored []));
      replies : AllReplied l.houses l.p l.buffer g.before (counts l.stands) (map (λ s. s.tray.items) l.stands);
      owed : (done rest : List Put) (first : List (Stand g.row.D.Denot)) → EachOwed g.D.Door.called done (puts_at l.at (chosen l.placement) ++ rest) first l.fn.stands
          → EachOwed g.D.Door.called (done ++ take l.i (puts_at l.at (chosen l.placement))) (drop l.i (puts_at l.at (chosen l.placement)) ++ rest) first l.stands;
      kept : NoneFell (counts l.fn.stands) (counts l.stands);
      truth : All (λ s. g.D.Door.is_true s.door) l.fn.stands → All (λ s. g.D.Door.is_true s.door) l.stands;
      count : length l.stands ≡ length l.fn.stands;
    }
