use Rattle.std.proofs.Common.{List, subst, arith, rules}
use Rattle.std.specs.List.{All}
use Rattle.page_store.specs.Calls.{no_door}
use Rattle.turn_lock.proofs.Histories.{begins_both}
use Rattle.version_manager.specs.Log.{events}
use Rattle.client_session.specs.Sessions.{SessionState}
use Rattle.blob_server.specs.Peers.{IsIdle}
use Rattle.blob_server.proofs.Beginnings.{events_begin}
use Rattle.blob_server.proofs.Idling.{all_front, last_of, own_store, own_stores, that_stores, sessions_begin}
use Rattle.blob_server.proofs.Lents.{all_lent}
use Rattle.blob_server.proofs.Taking.{served_till_then}
use Rattle.blob_server.proofs.server.serve.Goals as goal

pub work_all-first-requires-clause-first : goal.work_all-first-requires-clause-first
work_all-first-requires-clause-first g c κs within =
    let store = c.args.shared.now in
    let all = subst (λ (l : List (SessionState _)). All (IsIdle store) l) c.in-Some.ensures.items c.in-Ok-sessions_of.ensures.idle in
    own_store store c.in-Some.first (last_of (IsIdle store) c.pop.new.self.items c.in-Some.first all)

pub work_all-first-requires-clause-others : goal.work_all-first-requires-clause-others
work_all-first-requires-clause-others g c κs within =
    let store = c.args.shared.now in
    let all = subst (λ (l : List (SessionState _)). All (IsIdle store) l) c.in-Some.ensures.items c.in-Ok-sessions_of.ensures.idle in
    own_stores store c.pop.new.self.items (all_front (IsIdle store) c.pop.new.self.items c.in-Some.first all)

pub end_session-requires-clause-of_store : goal.end_session-requires-clause-of_store
end_session-requires-clause-of_store g c = c.work_all-first.ensures.first.1

pub end_sessions-requires-clause-idle : goal.end_sessions-requires-clause-idle
end_sessions-requires-clause-idle g c = that_stores c.args.shared.now c.work_all-first.result.2.items c.work_all-first.ensures.others

pub returns-then-taken-clause-plan_stays : goal.returns-then-taken-clause-plan_stays
returns-then-taken-clause-plan_stays g c n door =
    let made = c.in-Ok-sessions_of.ensures.plan_stays n door in
    let one = c.end_session.ensures.plan_stays n door in
    let all = c.end_sessions.ensures.plan_stays n door in
    (λ h. all.0 (one.0 (made.0 h)), λ h. made.1 (one.1 (all.1 h)))

pub returns-clause-plan_stays : goal.returns-clause-plan_stays
returns-clause-plan_stays g c n door =
    let made = c.in-Ok-sessions_of.ensures.plan_stays n door in
    let one = c.end_session.ensures.plan_stays n door in
    let all = c.end_sessions.ensures.plan_stays n door in
    (λ h. all.0 (one.0 (made.0 h)), λ h. made.1 (one.1 (all.1 h)))

pub returns-then-taken-clause-served : goal.returns-then-taken-clause-served
returns-then-taken-clause-served g c =
    let w = c.work_all-first.ensures in
    let history = events c.end_sessions.new.owner.seen in
    let begins = begins_both _ _ _ c.end_session.ensures.begins.1 c.end_sessions.ensures.seen in
    served_till_then _ c.args.connections c.work_all-first.result.0.peers c.work_all-first.result.0.failed _ _ c.if-taken.true w.took
    (w.served history (events_begin _ _ begins) (sessions_begin _ _ c.end_sessions.ensures.begin))

pub returns-clause-served : goal.returns-clause-served
returns-clause-served g c =
    let w = c.work_all-first.ensures in
    let history = events c.end_sessions.new.owner.seen in
    let begins = begins_both _ _ _ c.end_session.ensures.begins.1 c.end_sessions.ensures.seen in
    let many = w.served history (events_begin _ _ begins) (sessions_begin _ _ c.end_sessions.ensures.begin) in
    let number = many.number in
    record { peers = many.peers; number = first_of (omega (arith, number), search rules); each = many.each }

pub returns-in_default-clause-lent : goal.returns-in_default-clause-lent
returns-in_default-clause-lent g c = (0, no_door)

pub returns-then-taken-clause-lent : goal.returns-then-taken-clause-lent
returns-then-taken-clause-lent g c =
    let w = c.work_all-first.ensures in
    all_lent g.M.DoorMaker.hands_out g.M.DoorMaker.takes_back c.args.shared.now.providers c.args.workers c.work_all-first.result.2.len c.args.doors.now c.sessions_of.new.maker c.end_session.new.maker
    c.end_sessions.new.maker (omega (arith, w.count, c.in-Some.ensures.cases, c.in-Ok-sessions_of.ensures.count)) c.in-Ok-sessions_of.ensures.handed_out c.end_session.ensures.taken_back
    c.end_sessions.ensures.taken_back

pub returns-clause-lent : goal.returns-clause-lent
returns-clause-lent g c =
    let w = c.work_all-first.ensures in
    all_lent g.M.DoorMaker.hands_out g.M.DoorMaker.takes_back c.args.shared.now.providers c.args.workers c.work_all-first.result.2.len c.args.doors.now c.sessions_of.new.maker c.end_session.new.maker
    c.end_sessions.new.maker (omega (arith, w.count, c.in-Some.ensures.cases, c.in-Ok-sessions_of.ensures.count)) c.in-Ok-sessions_of.ensures.handed_out c.end_session.ensures.taken_back
    c.end_sessions.ensures.taken_back
