use Rattle.std.proofs.Common.{◌≡◌, ◌≤◌, ◌++◌, ℕ, arith, rules, ap, sym, ◌∙◌, length, map, take, drop}
use Rattle.std.specs.Prelude.{All, IfOk, IfErr}
use Rattle.std.proofs.lemmas.List.{length-map}
use Rattle.page_store.specs.House.{IsProvider}
use Rattle.page_fan.specs.Answer.{AreStored}
use Rattle.page_fan.specs.Counts.{NoneFell}
use Rattle.page_fan.specs.Fault.{FirstFailed, OnLostPage, UnlessNoMemory}
use Rattle.page_fan.specs.declared.storing.StoreFault.{StoreFault}
use Rattle.page_fan.specs.declared.stand.Stand.{Stand}
use Rattle.page_fan.specs.Used.{CalledAsPlaced}
use Rattle.page_fan.proofs.Answered.{UnlessNoMemory-weaken}
use Rattle.page_fan.proofs.Placed.{called_as_placed}
use Rattle.page_fan.proofs.Rises.{all_in_map, all_of_map, map_map, written_whole}
use Rattle.page_fan.proofs.storing.put_pages.Goals as goal

pub store_at_stands-requires-sync-R : goal.store_at_stands-requires-sync-R
store_at_stands-requires-sync-R g c κs within =
    let door : Stand g.row.D.Denot → g.row.D.Denot = λ s. s.door in
    let was = c.as_mut_slice-stands.result.now in
    let same : length was ≡ length c.args.doors.now = ap length c.as_mut_slice-stands.ensures.value ∙ (sym (length-map c.doors.inside.stands.items door) ∙ ap length c.doors.view_is) in
    let housed : length was ≤ length c.args.houses.now = omega (arith, same, c.requires.housed) in
    let served : All (All (IsProvider (length was))) c.args.placements.now = rw same c.requires.served in
    search rules

pub returns-clause-stored : goal.returns-clause-stored
returns-clause-stored g c =
    let door : Stand g.row.D.Denot → g.row.D.Denot = λ s. s.door in
    let faults : Stand g.row.D.Denot → ℕ = λ s. g.D.Door.faults s.door in
    let items = c.doors.inside.stands.items in
    let was = c.as_mut_slice-stands.result.now in
    let now = c.store_at_stands.new.stands in
    let value : was ≡ items = c.as_mut_slice-stands.ensures.value in
    let written : take c.doors.inside.stands.len (now ++ drop (length now) items) ≡ now = written_whole items now c.doors.inside.stands.len (c.store_at_stands.auto.stands ∙ ap length value) c.doors.inside.stands.ok.0 in
    let old_counts : map g.D.Door.faults c.args.doors.now ≡ map faults was = ap (map g.D.Door.faults) (sym c.doors.view_is) ∙ (map_map g.D.Door.faults door items ∙ ap (map faults) (sym value)) in
    let stored : IfOk c.store_at_stands.result (AreStored c.args.houses.now c.args.p c.args.buffer.now c.args.placements.now (map g.D.Door.faults c.args.doors.now) (map g.D.Door.faults (map door (take c.doors.inside.stands.len (now ++ drop (length now) items))))) =
    rw (old_counts, written, map_map g.D.Door.faults door now) c.store_at_stands.ensures.stored in
    stored

pub returns-clause-first_failed : goal.returns-clause-first_failed
returns-clause-first_failed g c =
    let door : Stand g.row.D.Denot → g.row.D.Denot = λ s. s.door in
    let faults : Stand g.row.D.Denot → ℕ = λ s. g.D.Door.faults s.door in
    let items = c.doors.inside.stands.items in
    let was = c.as_mut_slice-stands.result.now in
    let now = c.store_at_stands.new.stands in
    let value : was ≡ items = c.as_mut_slice-stands.ensures.value in
    let written : take c.doors.inside.stands.len (now ++ drop (length now) items) ≡ now = written_whole items now c.doors.inside.stands.len (c.store_at_stands.auto.stands ∙ ap length value) c.doors.inside.stands.ok.0 in
    let old_counts : map g.D.Door.faults c.args.doors.now ≡ map faults was = ap (map g.D.Door.faults) (sym c.doors.view_is) ∙ (map_map g.D.Door.faults door items ∙ ap (map faults) (sym value)) in
    let lost : IfErr c.store_at_stands.result (λ (f : StoreFault). OnLostPage f (FirstFailed c.args.houses.now c.args.p c.args.buffer.now c.args.placements.now (map g.D.Door.faults c.args.doors.now) (map g.D.Door.faults (map door (take c.doors.inside.stands.len (now ++ drop (length now) items)))))) =
    rw (old_counts, written, map_map g.D.Door.faults door now) c.store_at_stands.ensures.first_failed in
    lost

pub returns-clause-none_fell : goal.returns-clause-none_fell
returns-clause-none_fell g c =
    let door : Stand g.row.D.Denot → g.row.D.Denot = λ s. s.door in
    let faults : Stand g.row.D.Denot → ℕ = λ s. g.D.Door.faults s.door in
    let items = c.doors.inside.stands.items in
    let was = c.as_mut_slice-stands.result.now in
    let now = c.store_at_stands.new.stands in
    let value : was ≡ items = c.as_mut_slice-stands.ensures.value in
    let written : take c.doors.inside.stands.len (now ++ drop (length now) items) ≡ now = written_whole items now c.doors.inside.stands.len (c.store_at_stands.auto.stands ∙ ap length value) c.doors.inside.stands.ok.0 in
    let old_counts : map g.D.Door.faults c.args.doors.now ≡ map faults was = ap (map g.D.Door.faults) (sym c.doors.view_is) ∙ (map_map g.D.Door.faults door items ∙ ap (map faults) (sym value)) in
    let fell : NoneFell (map g.D.Door.faults c.args.doors.now) (map g.D.Door.faults (map door (take c.doors.inside.stands.len (now ++ drop (length now) items)))) =
    rw (old_counts, written, map_map g.D.Door.faults door now) c.store_at_stands.ensures.none_fell in
    fell

pub returns-clause-truth_stays : goal.returns-clause-truth_stays
returns-clause-truth_stays g c = λ t.
    let door : Stand g.row.D.Denot → g.row.D.Denot = λ s. s.door in
    let items = c.doors.inside.stands.items in
    let was = c.as_mut_slice-stands.result.now in
    let now = c.store_at_stands.new.stands in
    let value : was ≡ items = c.as_mut_slice-stands.ensures.value in
    let written : take c.doors.inside.stands.len (now ++ drop (length now) items) ≡ now = written_whole items now c.doors.inside.stands.len (c.store_at_stands.auto.stands ∙ ap length value) c.doors.inside.stands.ok.0 in
    let old : All g.D.Door.is_true (map door was) = rw (value, c.doors.view_is) t in
    let new : All g.D.Door.is_true (map door (take c.doors.inside.stands.len (now ++ drop (length now) items))) =
    rw written (all_of_map g.D.Door.is_true door now (c.store_at_stands.ensures.truth_stays (all_in_map g.D.Door.is_true door was old))) in
    new

pub returns-clause-called : goal.returns-clause-called
returns-clause-called g c = λ pages cut.
    let door : Stand g.row.D.Denot → g.row.D.Denot = λ s. s.door in
    let items = c.doors.inside.stands.items in
    let was = c.as_mut_slice-stands.result.now in
    let now = c.store_at_stands.new.stands in
    let placements = take pages c.args.placements.now in
    let value : was ≡ items = c.as_mut_slice-stands.ensures.value in
    let written : take c.doors.inside.stands.len (now ++ drop (length now) items) ≡ now = written_whole items now c.doors.inside.stands.len (c.store_at_stands.auto.stands ∙ ap length value) c.doors.inside.stands.ok.0 in
    let old : c.args.doors.now ≡ map door was = sym c.doors.view_is ∙ ap (map door) (sym value) in
    let called : UnlessNoMemory c.store_at_stands.result (CalledAsPlaced g.D.Door.called placements c.args.doors.now (map door (take c.doors.inside.stands.len (now ++ drop (length now) items)))) =
    rw (old, written) (UnlessNoMemory-weaken _ _ (λ put. called_as_placed g.D.Door.called c.args.p placements was now c.store_at_stands.auto.stands put) c.store_at_stands.result (c.store_at_stands.ensures.put_once pages cut)) in
    called
