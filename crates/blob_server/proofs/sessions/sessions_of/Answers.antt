use Rattle.std.proofs.Common.{ℕ, ◌*◌, arith, ap, subst, sym, rules}
use Rattle.std.proofs.lemmas.Grind.{common_steps}
use Rattle.std.proofs.lemmas.List.Elements.{All-push}
use Rattle.page_store.specs.Calls.{Traffic, no_door}
use Rattle.store_sessions.proofs.Traffics.{none_handed, handed_more, came_back_around}
use Rattle.blob_server.specs.Peers.{IsIdle}
use Rattle.blob_model.specs.declared.call.Event.{Event}
use Rattle.turn_lock.specs.History.{Log, Begins}
use Rattle.turn_lock.specs.Shown.{OwnerView}
use Rattle.blob_server.proofs.sessions.sessions_of.Goals as goal

pub loop-preserved : goal.loop-preserved
loop-preserved g c =
    let i = c.loop.invariant in
    let m = c.in-Ok-open_session.ensures in
    let p = c.push_reserved.ensures in
    record {
      count = omega (arith, p.len, i.count);
      room = omega (arith, p.capacity, i.room);
      idle = rw p.items (All-push (IsIdle c.args.shared.now) c.loop.sessions.items c.in-Ok-open_session.session i.idle (record { of_store = m.session.of_store; none_held = m.session.none_held; first_next = m.session.first_next; first_limit = m.session.limit }));
      owner = m.owner;
      passes_left = i.passes_left;
      made = omega (arith, ap (λ (o : OwnerView _ _). o.made) m.given, i.made);
      out = omega (arith, ap (λ (o : OwnerView _ _). o.out) m.given, i.out);
      seen = subst (λ (l : Log Event). Begins c.args.owner.now.seen l) (sym m.seen) i.seen;
      maker_true = m.truth_stays.0 i.maker_true;
      handed = handed_more g.M.DoorMaker.hands_out g.M.DoorMaker.takes_back c.args.shared.now.providers c.loop.counter c.args.maker.now c.loop.maker c.open_session.new.maker i.handed m.handed_out;
      doors = λ less.
          let below = m.doors less in
          let before = i.doors (omega (arith, below, less)) in
          omega (arith, below, before);
      plan_stays = λ n door. (λ h. (m.plan_stays n door).0 ((i.plan_stays n door).0 h), λ h. (i.plan_stays n door).1 ((m.plan_stays n door).1 h));
      truth_stays = (λ t. m.truth_stays.0 (i.truth_stays.0 t), λ t. i.truth_stays.1 (m.truth_stays.1 t));
    }

pub returns-in_default-clause-all_back : goal.returns-in_default-clause-all_back
returns-in_default-clause-all_back g c = (0, no_door)

pub returns-in-Err-clause-all_back : goal.returns-in-Err-clause-all_back
returns-in-Err-clause-all_back g c =
    let m = g.M.DoorMaker in
    let p = c.args.shared.now.providers in
    let back = subst (λ (n : ℕ). Traffic m.hands_out m.takes_back 0 (n * p) c.open_session.new.maker c.end_sessions.new.maker) c.loop.invariant.count c.end_sessions.ensures.taken_back in
    came_back_around m.hands_out m.takes_back (c.loop.counter * p) c.args.maker.now c.loop.maker c.open_session.new.maker c.end_sessions.new.maker
    c.loop.invariant.handed c.in-Err.ensures.all_back back

pub loop-init : goal.loop-init
loop-init g c = record {
  count = first_of (search rules, grind (arith, common_steps));
  room = first_of (search rules, grind (arith, common_steps));
  idle = first_of (search rules, grind (arith, common_steps));
  owner = first_of (search rules, grind (arith, common_steps));
  passes_left = first_of (search rules, grind (arith, common_steps));
  made = first_of (search rules, grind (arith, common_steps));
  out = first_of (search rules, grind (arith, common_steps));
  seen = first_of (search rules, grind (arith, common_steps));
  maker_true = first_of (search rules, grind (arith, common_steps));
  handed = none_handed g.M.DoorMaker.hands_out g.M.DoorMaker.takes_back c.args.shared.now.providers c.args.maker.now;
  doors = first_of (search rules, grind (arith, common_steps));
  plan_stays = first_of (search rules, grind (arith, common_steps));
  truth_stays = first_of (search rules, grind (arith, common_steps));
}
