use Rattle.std.proofs.Common.{rules, ℕ, ◌*◌, subst, arith}
use Rattle.std.proofs.lemmas.Grind.{common_steps}
use Rattle.page_store.specs.Calls.{Traffic, no_door}
use Rattle.store_sessions.proofs.Traffics.{none_handed, handed_more, came_back_around}
use Rattle.workload_run.proofs.Crews.{ready_push}
use Rattle.workload_run.proofs.crew.workers_of.Goals as goal

pub makes-preserved : goal.makes-preserved
makes-preserved g c = record {
  made = search rules;
  room = search rules;
  ready = ready_push _ _ _ c.makes.workers.items _ _ c.push_reserved.ensures.items c.makes.invariant.ready (record {
    number = search rules;
    of_store = search rules;
    caller = search rules;
    seen = search rules;
    none = search rules;
    none_held = search rules;
    limit = search rules;
    no_fault = search rules;
  });
  owner = search rules;
  first_pass = search rules;
  few = search rules;
  given = search rules;
  maker_true = search rules;
  handed = handed_more g.M.DoorMaker.hands_out g.M.DoorMaker.takes_back c.args.shared.now.providers c.makes.before c.args.maker.now c.makes.maker c.open_session.new.maker c.makes.invariant.handed
      c.in-Ok-open_session.ensures.handed_out;
  doors = search rules;
  plan_stays = λ n door. (
    λ makes. (c.open_session.ensures.plan_stays n door).0 ((c.makes.invariant.plan_stays n door).0 makes),
    λ makes. (c.makes.invariant.plan_stays n door).1 ((c.open_session.ensures.plan_stays n door).1 makes),
  );
  truth_stays = search rules;
}

pub returns-in_default-clause-all_back : goal.returns-in_default-clause-all_back
returns-in_default-clause-all_back g c = (0, no_door)

pub returns-in-Err-clause-all_back : goal.returns-in-Err-clause-all_back
returns-in-Err-clause-all_back g c =
    let m = g.M.DoorMaker in
    let p = c.args.shared.now.providers in
    let back = subst (λ (n : ℕ). Traffic m.hands_out m.takes_back 0 (n * p) c.open_session.new.maker c.end_workers.new.maker) c.makes.invariant.made c.end_workers.ensures.taken_back in
    came_back_around m.hands_out m.takes_back (c.makes.before * p) c.args.maker.now c.makes.maker c.open_session.new.maker c.end_workers.new.maker
    c.makes.invariant.handed c.in-Err.ensures.all_back back

pub makes-init : goal.makes-init
makes-init g c = record {
  made = first_of (search rules, grind (arith, common_steps));
  room = first_of (search rules, grind (arith, common_steps));
  ready = first_of (search rules, grind (arith, common_steps));
  owner = first_of (search rules, grind (arith, common_steps));
  first_pass = first_of (search rules, grind (arith, common_steps));
  few = first_of (search rules, grind (arith, common_steps));
  given = first_of (search rules, grind (arith, common_steps));
  maker_true = first_of (search rules, grind (arith, common_steps));
  handed = none_handed g.M.DoorMaker.hands_out g.M.DoorMaker.takes_back c.args.shared.now.providers c.args.maker.now;
  doors = first_of (search rules, grind (arith, common_steps));
  plan_stays = first_of (search rules, grind (arith, common_steps));
  truth_stays = first_of (search rules, grind (arith, common_steps));
}
