use Rattle.std.proofs.Common.{◌≡◌, ◌∙◌, ◌+◌, List, length, ap, subst, sym, arith, rules}
use Rattle.std.proofs.lemmas.Grind.{common_steps}
use Rattle.std.specs.List.{All}
use Rattle.std.specs.Prelude.{sum_by}
use Rattle.turn_lock.specs.Shown.{OwnerView}
use Rattle.client_session.specs.Sessions.{SessionState}
use Rattle.store_sessions.proofs.Traffics.{none_gone, gone_more, all_gone}
use Rattle.blob_server.specs.Peers.{IsIdle, faults_of_doors}
use Rattle.turn_lock.proofs.Histories.{begins_both}
use Rattle.blob_server.proofs.Idling.{all_front, none_ended, one_ended, all_ended, sum_more, gave_back}
use Rattle.blob_server.proofs.sessions.end_sessions.Goals as goal

pub loop-session-preserved : goal.loop-session-preserved
loop-session-preserved g c =
    let faults = g.M.DoorMaker.faults in
    let counted = faults_of_doors g.M.Door.Door.faults in
    let i = c.loop-session.invariant in
    let e = c.end_session.ensures in
    let front = c.pop.new.self.items in
    let one = c.in-Some.session in
    let joined = c.in-Some.ensures.items in
    let all = subst (λ (l : List (SessionState _)). All (IsIdle c.args.shared.now) l) joined i.idle in
    let more : sum_by counted c.loop-session.sessions.items ≡ sum_by counted front + counted one = ap (sum_by counted) joined ∙ sum_more counted front one in
    record {
      idle = all_front (IsIdle c.args.shared.now) front one all;
      owner = e.owner;
      gone = gone_more g.M.DoorMaker.hands_out g.M.DoorMaker.takes_back c.args.shared.now.providers c.args.sessions.len c.loop-session.sessions.len c.pop.new.self.len
          c.args.maker.now c.loop-session.maker
          c.end_session.new.maker (sym c.in-Some.ensures.cases) i.gone e.taken_back;
      made = ap (λ (o : OwnerView _ _). o.made) e.counts.1 ∙ i.made;
      out = omega (arith, e.counts.0, i.out, c.in-Some.ensures.cases);
      seen = begins_both _ _ _ i.seen e.begins.0;
      ended = one_ended c.args.sessions.items c.loop-session.sessions.items front one c.loop-session.owner.seen c.end_session.new.owner.seen i.ended joined e.begins.0 e.begins.1;
      doors = gave_back (faults c.args.maker.now) (faults c.loop-session.maker) (faults c.end_session.new.maker) (sum_by counted c.args.sessions.items) (sum_by counted front) (counted one) (omega (arith, i.doors, more)) e.doors;
      plan_stays = λ n door. (λ h. (e.plan_stays n door).0 ((i.plan_stays n door).0 h), λ h. (i.plan_stays n door).1 ((e.plan_stays n door).1 h));
      truth_stays = (λ t. e.truth_stays.0 (i.truth_stays.0 t), λ t. i.truth_stays.1 (e.truth_stays.1 t));
    }

pub returns-clause-taken_back : goal.returns-clause-taken_back
returns-clause-taken_back g c =
    all_gone g.M.DoorMaker.hands_out g.M.DoorMaker.takes_back c.args.shared.now.providers c.args.sessions.len c.loop-session.sessions.len c.args.maker.now
    c.loop-session.maker c.in_default.ensures.cases.0
    c.loop-session.invariant.gone

pub loop-session-init : goal.loop-session-init
loop-session-init g c = record {
  idle = first_of (search rules, grind (arith, common_steps));
  owner = first_of (search rules, grind (arith, common_steps));
  gone = none_gone g.M.DoorMaker.hands_out g.M.DoorMaker.takes_back c.args.shared.now.providers c.args.sessions.len c.args.maker.now;
  made = first_of (search rules, grind (arith, common_steps));
  out = first_of (search rules, grind (arith, common_steps));
  seen = first_of (search rules, grind (arith, common_steps));
  ended = none_ended c.args.sessions.items c.args.owner.now.seen;
  doors = first_of (search rules, grind (arith, common_steps));
  plan_stays = first_of (search rules, grind (arith, common_steps));
  truth_stays = first_of (search rules, grind (arith, common_steps));
}

pub returns-clause-begin : goal.returns-clause-begin
returns-clause-begin g c =
    let none : length c.loop-session.sessions.items ≡ 0 = omega (arith, c.in_default.ensures.cases, c.loop-session.sessions.ok.0) in
    all_ended c.args.sessions.items c.loop-session.sessions.items c.loop-session.owner.seen none c.loop-session.invariant.ended
