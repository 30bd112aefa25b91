use Rattle.std.proofs.Common.{rules, suc, ◌≡◌, ◌+◌, ◌-◌, ◌^◌, ◌≤◌, length, min, map, List, [], ◌∷◌, ◌++◌, ap, arith, ◌∙◌}
use Rattle.std.specs.Prelude.{sum_by}
use Rattle.std.proofs.lemmas.List.{length-map, map-append}
use Rattle.std.proofs.lemmas.List.Elements.{All-push}
use Rattle.page_store.specs.Calls.{Traffic, no_door, handed_out}
use Rattle.page_store.proofs.CallsLemmas.{traffic_join}
use Rattle.page_fan.proofs.Answered.{OnErr-given}
use Rattle.page_fan.proofs.Rises.{sum_none}
use Rattle.page_fan.proofs.Standing.{each_push}
use Rattle.page_fan.proofs.doors.Doors.new.Goals as goal

pub returns-in-Err-clause-count_stays : goal.returns-in-Err-clause-count_stays
returns-in-Err-clause-count_stays g c =
    let faults = g.M.DoorMaker.faults in
    let stands = c.loop-before.stands.items in
    let doors : List g.row.D.Denot = map (λ s. s.door) stands in
    let i = c.loop-before.invariant in
    let m = c.in-Err.ensures in
    let few : faults c.make.new.self ≤ 2 ^ 64 - 1 = rw m.count_stays m.bounded in
    let none : sum_by g.D.Door.faults doors ≡ 0 = sum_none g.D.Door.faults doors i.fresh in
    let same : min (faults c.make.new.self + sum_by g.D.Door.faults doors) (2 ^ 64 - 1) ≡ faults c.make.new.self = omega (arith, few, none) in
    c.back.ensures.adds few ∙ (same ∙ (m.count_stays ∙ i.count_stays))

pub loop-before-preserved : goal.loop-before-preserved
loop-before-preserved g c =
    let makes = g.M.DoorMaker.makes c.args.maker.now in
    let stands = c.loop-before.stands.items in
    let doors : List g.row.D.Denot = map (λ s. s.door) stands in
    let before = c.loop-before.before in
    let i = c.loop-before.invariant in
    let m = c.in-Ok.ensures in
    let p = c.push_reserved.ensures in
    let count : before ≡ length doors = omega (arith, i.count, c.loop-before.stands.ok.0, length-map stands (λ s. s.door)) in
    let more : map (λ s. s.door) c.push_reserved.new.self.items ≡ doors ++ c.in-Ok.door ∷ [] = ap (map (λ s. s.door)) p.items ∙ (map-append (λ s. s.door) stands (c.new.result ∷ []) ∙ ap (λ d. doors ++ d ∷ []) c.new.ensures) in
    record {
      count = omega (arith, p.len, i.count);
      room = omega (arith, p.capacity, i.room);
      true_doors = λ t. rw more (All-push g.D.Door.is_true doors c.in-Ok.door (i.true_doors t) (m.true_doors (i.truth_stays.0 t)));
      fresh = rw more (All-push (λ x. g.D.Door.faults x ≡ 0) doors c.in-Ok.door i.fresh m.fresh);
      count_stays = m.count_stays ∙ i.count_stays;
      each = rw more (each_push (λ n door. makes (n + 1) door) doors c.in-Ok.door before count i.each ((i.plan_stays (before + 1) c.in-Ok.door).1 m.made));
      plan_stays = λ n door. (λ h. (m.plan_stays n door).0 ((i.plan_stays n door).0 h), λ h. (i.plan_stays n door).1 ((m.plan_stays n door).1 h));
      traffic = let next : before + 1 ≡ suc before = omega arith in rw next (handed_out i.traffic m.handed_out);
      truth_stays = (λ t. m.truth_stays.0 (i.truth_stays.0 t), λ t. i.truth_stays.1 (m.truth_stays.1 t));
    }

pub returns-in-Err-clause-all_back : goal.returns-in-Err-clause-all_back
returns-in-Err-clause-all_back g c =
    let hands_out = g.M.DoorMaker.hands_out in
    let takes_back = g.M.DoorMaker.takes_back in
    let n = c.loop-before.before in
    let stands = c.loop-before.stands.items in
    let same : c.make.new.self ≡ c.loop-before.maker = c.in-Err.ensures.err in
    let count : length (map (λ s. s.door) stands) ≡ n = omega (arith, c.loop-before.invariant.count, c.loop-before.stands.ok.0, length-map stands (λ s. s.door)) in
    let back : Traffic hands_out takes_back 0 n c.loop-before.maker c.back.new.maker = rw (same, count) at c.back.ensures.taken_back in
    let out : n + 0 ≡ n = omega arith in
    let gone : 0 + n ≡ n = omega arith in
    (n, rw (out, gone) at (traffic_join hands_out takes_back n 0 0 n c.args.maker.now c.loop-before.maker c.back.new.maker c.loop-before.invariant.traffic back))

pub returns-in_err-stands-clause-all_back : goal.returns-in_err-stands-clause-all_back
returns-in_err-stands-clause-all_back g c = OnErr-given _ (0, no_door) c.from_residual.result

pub loop-before-init : goal.loop-before-init
loop-before-init g c = record {
  count = search rules;
  room = search rules;
  true_doors = search rules;
  fresh = search rules;
  count_stays = search rules;
  each = search rules;
  plan_stays = search rules;
  traffic = no_door;
  truth_stays = search rules;
}
