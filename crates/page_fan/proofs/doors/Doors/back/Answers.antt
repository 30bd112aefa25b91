use Rattle.std.proofs.Common.{rules, ◌≡◌, ◌-◌, suc, arith}
use Rattle.std.proofs.lemmas.Grind.{common_steps}
use Rattle.page_store.specs.Calls.{no_door, taken_back}
use Rattle.page_fan.proofs.doors.Doors.back.Goals as goal

pub loop-stand-init : goal.loop-stand-init
loop-stand-init g c =
    let n = c.self.inside.stands.len in
    let none : n - n ≡ 0 = omega arith in
    record {
      adds = search rules;
      bounded = search rules;
      rises = grind (arith, common_steps);
      plan_stays = search rules;
      few = omega arith;
      traffic = rw none no_door;
      truth_stays = search rules;
    }

pub loop-stand-preserved : goal.loop-stand-preserved
loop-stand-preserved g c =
    let i = c.loop-stand.invariant in
    let b = c.back.ensures in
    let n = c.self.inside.stands.len in
    let fewer = c.in-Some.ensures.cases in
    let more : n - c.pop.new.self.len ≡ suc (n - c.loop-stand.stands.len) = omega (arith, i.few, fewer) in
    record {
      adds = grind (arith, common_steps);
      bounded = grind (arith, common_steps);
      rises = grind (arith, common_steps);
      plan_stays = λ m door. (λ h. (b.plan_stays m door).0 ((i.plan_stays m door).0 h), λ h. (i.plan_stays m door).1 ((b.plan_stays m door).1 h));
      few = omega (arith, i.few, fewer);
      traffic = rw more (taken_back i.traffic b.taken_back);
      truth_stays = (λ t. b.truth_stays.0 (i.truth_stays.0 t), λ t. i.truth_stays.1 (b.truth_stays.1 t));
    }
