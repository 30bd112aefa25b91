use Rattle.std.proofs.Common.{◌≡◌, ◌∙◌, ℕ, List, [], ◌∷◌, ◌++◌, refl, ap, subst, sym, length, arith}
use Rattle.std.specs.Prelude.{Some, sum_by}
use Rattle.store_sessions.proofs.Traffics.{none_gone, gone_more, all_gone}
use Rattle.workload_run.specs.Workers.{WorkerState, IsOfStore, AreOfStore, first_stop, counted_by}
use Rattle.workload_run.proofs.Crews.{Ending, none_ended, one_ended, each_last, stopped_by, goes_on_with, all_back, all_kept}
use Rattle.workload_run.proofs.crew.end_workers.Goals as goal

-- where none is left all were taken
none_left : {X : Type 0} (all left taken : List X) → length left ≡ 0 → all ≡ left ++ taken → all ≡ taken
none_left all [] taken none split = split
none_left all (x ∷ xs) taken none split = absurd (omega (arith, none))

none_counted : {X : Type 0} (count : X → ℕ) (left : List X) → length left ≡ 0 → sum_by count left ≡ 0
none_counted count [] none = refl
none_counted count (x ∷ xs) none = absurd (omega (arith, none))

pub loop-worker-init : goal.loop-worker-init
loop-worker-init g c = record {
  ending = none_ended g.M.Door.Door.faults c.args.shared.now c.args.owner.now (g.M.DoorMaker.faults c.args.maker.now) c.args.workers.items c.requires.of_store;
  owner = c.requires.owner;
  gone = none_gone g.M.DoorMaker.hands_out g.M.DoorMaker.takes_back c.args.shared.now.providers c.args.workers.len c.args.maker.now;
  plan_stays = λ n door. (λ h. h, λ h. h);
  truth_stays = (λ t. t, λ t. t);
}

pub end_session-requires-clause-of_store : goal.end_session-requires-clause-of_store
end_session-requires-clause-of_store g c =
    let store = c.args.shared.now in
    let all = subst (λ (l : List (WorkerState _)). AreOfStore store l) c.in-Some.ensures.items c.loop-worker.invariant.ending.of_store in
    let one = each_last (λ place w. IsOfStore store place w) c.pop.new.self.items c.in-Some.worker all in
    ap (λ (w : WorkerState _). w.session.store) c.worker.view_is ∙ one.of_store

pub loop-worker-preserved-in-Err : goal.loop-worker-preserved-in-Err
loop-worker-preserved-in-Err g c =
    let faults = g.M.DoorMaker.faults in
    let i = c.loop-worker.invariant in
    let e = c.end_session.ensures in
    let one : WorkerState _ = record { session = c.worker.inside.session; number = c.worker.inside.number; told = c.worker.inside.told } in
    let joined : c.loop-worker.workers.items ≡ c.pop.new.self.items ++ one ∷ [] = c.in-Some.ensures.items ∙ ap (λ (w : WorkerState _). c.pop.new.self.items ++ w ∷ []) (sym c.worker.view_is) in
    let ending =
    subst (λ (l : List (WorkerState _)). Ending g.M.Door.Door.faults c.args.shared.now c.args.owner.now c.loop-worker.owner (faults c.args.maker.now) (faults c.loop-worker.maker) c.args.workers.items l c.loop-worker.stop) joined
    i.ending in
    record {
      ending =
          one_ended g.M.Door.Door.faults c.args.shared.now c.args.owner.now c.loop-worker.owner c.end_session.new.owner (faults c.args.maker.now) (faults c.loop-worker.maker) (faults c.end_session.new.maker)
          c.args.workers.items c.pop.new.self.items one c.loop-worker.stop ending e.counts e.begins e.own e.before e.doors (Some c.in-Err.fault) (stopped_by one.told c.in-Err.fault c.loop-worker.stop c.in-Err.is);
      owner = e.owner;
      gone = gone_more g.M.DoorMaker.hands_out g.M.DoorMaker.takes_back c.args.shared.now.providers c.args.workers.len c.loop-worker.workers.len c.pop.new.self.len c.args.maker.now c.loop-worker.maker
          c.end_session.new.maker (sym c.in-Some.ensures.cases) i.gone e.taken_back;
      plan_stays = λ n door. (λ h. (e.plan_stays n door).0 ((i.plan_stays n door).0 h), λ h. (i.plan_stays n door).1 ((e.plan_stays n door).1 h));
      truth_stays = (λ t. e.truth_stays.0 (i.truth_stays.0 t), λ t. i.truth_stays.1 (e.truth_stays.1 t));
    }

pub loop-worker-preserved : goal.loop-worker-preserved
loop-worker-preserved g c =
    let faults = g.M.DoorMaker.faults in
    let i = c.loop-worker.invariant in
    let e = c.end_session.ensures in
    let one : WorkerState _ = record { session = c.worker.inside.session; number = c.worker.inside.number; told = c.worker.inside.told } in
    let joined : c.loop-worker.workers.items ≡ c.pop.new.self.items ++ one ∷ [] = c.in-Some.ensures.items ∙ ap (λ (w : WorkerState _). c.pop.new.self.items ++ w ∷ []) (sym c.worker.view_is) in
    let ending =
    subst (λ (l : List (WorkerState _)). Ending g.M.Door.Door.faults c.args.shared.now c.args.owner.now c.loop-worker.owner (faults c.args.maker.now) (faults c.loop-worker.maker) c.args.workers.items l c.loop-worker.stop) joined
    i.ending in
    record {
      ending =
          one_ended g.M.Door.Door.faults c.args.shared.now c.args.owner.now c.loop-worker.owner c.end_session.new.owner (faults c.args.maker.now) (faults c.loop-worker.maker) (faults c.end_session.new.maker)
          c.args.workers.items c.pop.new.self.items one c.loop-worker.stop ending e.counts e.begins e.own e.before e.doors c.loop-worker.stop
          (goes_on_with one.told c.in_default-told.field-0 c.loop-worker.stop c.in_default-told.is);
      owner = e.owner;
      gone = gone_more g.M.DoorMaker.hands_out g.M.DoorMaker.takes_back c.args.shared.now.providers c.args.workers.len c.loop-worker.workers.len c.pop.new.self.len c.args.maker.now c.loop-worker.maker
          c.end_session.new.maker (sym c.in-Some.ensures.cases) i.gone e.taken_back;
      plan_stays = λ n door. (λ h. (e.plan_stays n door).0 ((i.plan_stays n door).0 h), λ h. (i.plan_stays n door).1 ((e.plan_stays n door).1 h));
      truth_stays = (λ t. e.truth_stays.0 (i.truth_stays.0 t), λ t. i.truth_stays.1 (e.truth_stays.1 t));
    }

pub returns-clause-back : goal.returns-clause-back
returns-clause-back g c =
    let none : length c.loop-worker.workers.items ≡ 0 = omega (arith, c.in_default.ensures.cases, c.loop-worker.workers.ok.0) in
    all_back g.M.Door.Door.faults c.args.shared.now c.args.owner.now c.loop-worker.owner _ _ c.args.workers.items c.loop-worker.workers.items c.loop-worker.stop c.loop-worker.invariant.ending none

pub returns-clause-kept : goal.returns-clause-kept
returns-clause-kept g c =
    let none : length c.loop-worker.workers.items ≡ 0 = omega (arith, c.in_default.ensures.cases, c.loop-worker.workers.ok.0) in
    all_kept g.M.Door.Door.faults c.args.shared.now c.args.owner.now c.loop-worker.owner _ _ c.args.workers.items c.loop-worker.workers.items c.loop-worker.stop c.loop-worker.invariant.ending none

pub returns-clause-taken_back : goal.returns-clause-taken_back
returns-clause-taken_back g c =
    all_gone g.M.DoorMaker.hands_out g.M.DoorMaker.takes_back c.args.shared.now.providers c.args.workers.len c.loop-worker.workers.len c.args.maker.now c.loop-worker.maker c.in_default.ensures.cases.0
    c.loop-worker.invariant.gone

pub returns-clause-stop : goal.returns-clause-stop
returns-clause-stop g c =
    let ending = c.loop-worker.invariant.ending in
    let none : length c.loop-worker.workers.items ≡ 0 = omega (arith, c.in_default.ensures.cases, c.loop-worker.workers.ok.0) in
    ending.stop_is ∙ ap first_stop (sym (none_left c.args.workers.items c.loop-worker.workers.items ending.taken none ending.split))

pub returns-clause-out : goal.returns-clause-out
returns-clause-out g c =
    let ending = c.loop-worker.invariant.ending in
    let none : length c.loop-worker.workers.items ≡ 0 = omega (arith, c.in_default.ensures.cases, c.loop-worker.workers.ok.0) in
    let all = none_left c.args.workers.items c.loop-worker.workers.items ending.taken none ending.split in
    omega (arith, ending.out, ap length all, c.args.workers.ok.0)

pub returns-clause-doors : goal.returns-clause-doors
returns-clause-doors g c =
    let ending = c.loop-worker.invariant.ending in
    let none : length c.loop-worker.workers.items ≡ 0 = omega (arith, c.in_default.ensures.cases, c.loop-worker.workers.ok.0) in
    omega (arith, ending.counted, none_counted (counted_by g.M.Door.Door.faults) c.loop-worker.workers.items none)

pub loop-worker-smaller : goal.loop-worker-smaller
loop-worker-smaller g c = omega (arith, c.in-Some.ensures.cases)

pub loop-worker-smaller-in-Err : goal.loop-worker-smaller-in-Err
loop-worker-smaller-in-Err g c = omega (arith, c.in-Some.ensures.cases)
