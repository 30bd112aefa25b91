use Rattle.std.proofs.Common.{rules, ◌≡◌, ◌∙◌, ◌*◌, ℕ, List, Ok, vec_len, ap, subst, sym, refl, arith}
use Rattle.std.proofs.lemmas.Grind.{common_steps}
use Rattle.std.specs.Prelude.{sum_by, All}
use Rattle.page_store.specs.Calls.{Traffic, no_door}
use Rattle.client_session.specs.Sessions.{SessionState}
use Rattle.read_board.specs.Keeping.{StandState}
use Rattle.store_sessions.proofs.Traffics.{none_handed, handed_more, came_back_around}
use Rattle.workload_run.specs.WatchStages.{Entries, Owner, IsIdle}
use Rattle.workload_run.specs.WatchCrews.{IsEndable, IsReadyToWatch}
use Rattle.workload_run.proofs.WatchCrews.{all_ready_end, all_more, kept_both}
use Rattle.workload_run.proofs.WatchStages.{makes_still, makes_so, makes_both, new_idle}
use Rattle.workload_run.proofs.watch_crew.watchers_of.Goals as goal

pub makes-preserved : goal.makes-preserved
makes-preserved g c =
    let faults = g.M.Door.Door.faults in
    let m = g.M.DoorMaker in
    let p = c.args.shared.now.providers in
    let i = c.makes.invariant in
    let x = c.in-Ok-open_session.ensures in
    let r = c.reader.ensures in
    let before = ap (λ (o : Owner). o.made) i.given in
    let session : c.reader.result.session ≡ c.in-Ok-open_session.session = r.session in
    let idle = new_idle x.session c.entries_are_events.ensures i.owner.log.tags (omega (arith, before, c.requires.three)) in
    record {
      few = omega (arith, c.push_reserved.ensures.len, c.makes-test.true);
      room = search rules;
      ready = all_more (IsReadyToWatch faults c.args.shared.now c.args.owner.now.seen c.args.stand.now.board) c.makes.watchers.items _ _ c.push_reserved.ensures.items i.ready (record {
        board_is = r.board ∙ i.stand.0;
        log = ap (λ (s : SessionState _). s.log) session ∙ (x.session.log ∙ ap (λ (o : Owner). o.seen) i.given);
        idle = subst (λ (s : SessionState _). IsIdle c.args.shared.now s) (sym session) idle;
        no_fault = ap (λ (s : SessionState _). sum_by faults s.doors) session ∙ x.session.no_fault;
        told = ap (λ (l : List ℕ). Ok l) c.none.ensures;
      });
      stand = (
        ap (λ (t : StandState). t.board) r.stand ∙ i.stand.0,
        omega (arith, ap (λ (t : StandState). t.left) r.stand, i.stand.1, c.push_reserved.ensures.len, c.requires.few.1, c.makes-test.true),
      );
      owner = x.owner;
      given = search rules;
      maker_true = x.truth_stays.0 i.maker_true;
      handed = subst (λ (n : ℕ). Traffic m.hands_out m.takes_back (n * p) 0 c.args.maker.now c.open_session.new.maker) (sym c.push_reserved.ensures.len)
          (handed_more m.hands_out m.takes_back p (vec_len c.makes.watchers) c.args.maker.now c.makes.maker c.open_session.new.maker i.handed x.handed_out);
      doors = kept_both (m.faults c.args.maker.now) (m.faults c.makes.maker) (m.faults c.open_session.new.maker) i.doors x.doors;
      same = makes_both i.same (record { truth_stays = x.truth_stays; plan_stays = x.plan_stays });
    }

pub makes-init : goal.makes-init
makes-init g c = record {
  few = omega (arith, c.in-Ok.ensures.len);
  room = first_of (search rules, grind (arith, common_steps));
  ready = first_of (search rules, grind (arith, common_steps));
  stand = (refl, omega (arith, c.in-Ok.ensures.len));
  owner = c.requires.owner;
  given = first_of (search rules, grind (arith, common_steps));
  maker_true = c.requires.true_doors;
  handed = subst (λ (n : ℕ). Traffic g.M.DoorMaker.hands_out g.M.DoorMaker.takes_back (n * c.args.shared.now.providers) 0 c.args.maker.now c.args.maker.now) (sym c.in-Ok.ensures.len)
      (none_handed g.M.DoorMaker.hands_out g.M.DoorMaker.takes_back c.args.shared.now.providers c.args.maker.now);
  doors = λ less. omega arith;
  same = makes_still;
}

pub returns-clause-ready : goal.returns-clause-ready
returns-clause-ready g c =
    let i = c.makes.invariant in
    subst (λ (l : Entries). All (IsReadyToWatch g.M.Door.Door.faults c.args.shared.now l c.args.stand.now.board) c.makes.watchers.items) (sym (ap (λ (o : Owner). o.seen) i.given)) i.ready

pub end_watchers-none-requires-clause-endable : goal.end_watchers-none-requires-clause-endable
end_watchers-none-requires-clause-endable g c =
    let i = c.makes.invariant in
    let faults = g.M.Door.Door.faults in
    let seen = c.open_session.ensures.seen ∙ ap (λ (o : Owner). o.seen) i.given in
    subst (λ (l : Entries). All (IsEndable faults c.args.shared.now l) c.makes.watchers.items) (sym seen) (all_ready_end faults c.args.shared.now c.args.owner.now.seen c.args.stand.now.board c.makes.watchers.items i.ready)

pub returns-in_default-clause-all_back : goal.returns-in_default-clause-all_back
returns-in_default-clause-all_back g c = (0, no_door)

pub returns-in-Err-clause-all_back : goal.returns-in-Err-clause-all_back
returns-in-Err-clause-all_back g c =
    let m = g.M.DoorMaker in
    let p = c.args.shared.now.providers in
    came_back_around m.hands_out m.takes_back (vec_len c.makes.watchers * p) c.args.maker.now c.makes.maker c.open_session.new.maker c.end_watchers-none.new.maker
    c.makes.invariant.handed c.in-Err.ensures.all_back c.end_watchers-none.ensures.sessions.traffic

pub returns-in_default-clause-maker : goal.returns-in_default-clause-maker
returns-in_default-clause-maker g c = makes_still

pub returns-clause-maker : goal.returns-clause-maker
returns-clause-maker g c = c.makes.invariant.same

pub returns-in-Err-clause-none_out : goal.returns-in-Err-clause-none_out
returns-in-Err-clause-none_out g c =
    let given = ap (λ (o : Owner). o.out) c.makes.invariant.given in
    omega (arith, given, c.in-Err.ensures.none_out, c.end_watchers-none.ensures.sessions.out)

pub returns-in-Err-clause-maker : goal.returns-in-Err-clause-maker
returns-in-Err-clause-maker g c =
    let m = g.M.DoorMaker in
    let last = c.makes.maker in
    let tried = c.open_session.new.maker in
    let x = c.open_session.ensures in
    let made = makes_both c.makes.invariant.same (makes_so m.is_true m.makes last tried x.truth_stays x.plan_stays) in
    makes_both made c.end_watchers-none.ensures.sessions.maker
