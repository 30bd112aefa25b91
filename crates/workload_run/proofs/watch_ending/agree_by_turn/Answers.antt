use Rattle.std.proofs.Common.{◌*◌, refl, ap, subst, arith}
use Rattle.std.specs.Prelude.{sum_by}
use Rattle.page_store.specs.Calls.{Traffic}
use Rattle.turn_lock.proofs.Histories.{begins_both}
use Rattle.workload_run.specs.Updates.{told_faults}
use Rattle.client_session.specs.Sessions.{StoreState}
use Rattle.workload_law.specs.Ends.{IsOutside}
use Rattle.workload_run.specs.Agreeing.{IsPageOfLast}
use Rattle.workload_run.specs.WatchStages.{Owner}
use Rattle.workload_run.specs.Stops.{Stops}
use Rattle.workload_run.proofs.WatchCrews.{idle_on, told_lost, kept_back, rose_told, seen_on, seen_by}
use Rattle.workload_run.proofs.WatchStages.{makes_so, one_ended, makes_both, renewed_idle, leaves_renewed, leaves_unrenewed, leaves_both}
use Rattle.workload_run.proofs.Refusals.{stops_of_last}
use Rattle.workload_run.proofs.watch_ending.agree_by_turn.Goals as goal

pub end_idle-requires-clause-idle : goal.end_idle-requires-clause-idle
end_idle-requires-clause-idle g c =
    idle_on
    (renewed_idle c.in-Ok.ensures.session c.entries_are_events.ensures c.renew_session.ensures.owner.log.tags (omega (arith, c.requires.passes_left.0)))
    c.compare_by_turn-told.ensures.idles

pub compare_by_turn-told-requires-clause-seen : goal.compare_by_turn-told-requires-clause-seen
compare_by_turn-told-requires-clause-seen g c =
    let new = c.renew_session.new.owner in
    let x = c.in-Ok.ensures.session in
    seen_by c.args.shared.now c.in-Ok.next new.seen c.args.last.now x.of_store x.log
    (seen_on c.requires.seen c.renew_session.ensures.begins.0)

pub returns-in_default-clause-stop : goal.returns-in_default-clause-stop
returns-in_default-clause-stop g c = Stops.outside (IsOutside.starved refl)

pub returns-clause-stop : goal.returns-clause-stop
returns-clause-stop g c =
    let f = c.args.shared.now.fixed in
    let x = c.in-Ok.ensures.session in
    let old = c.args.owner.now.seen in
    let mid = c.renew_session.new.owner.seen in
    let new = c.end_idle.new.owner.seen in
    let more = begins_both old mid new c.renew_session.ensures.begins.0 c.end_idle.ensures.sessions.leaves.comes.begins in
    told_lost c.compare_by_turn-told.result
    (λ fault out. stops_of_last f old new c.args.last.now c.requires.seen more fault
    (subst (λ (t : StoreState). IsOutside (IsPageOfLast t.fixed.page_size c.args.last.now) fault) x.of_store out))
    c.compare_by_turn-told.ensures.stop

pub returns-in_default-clause-seen : goal.returns-in_default-clause-seen
returns-in_default-clause-seen g c = seen_on c.requires.seen c.renew_session.ensures.begins.0

pub returns-clause-seen : goal.returns-clause-seen
returns-clause-seen g c =
    let old = c.args.owner.now.seen in
    let mid = c.renew_session.new.owner.seen in
    let new = c.end_idle.new.owner.seen in
    seen_on c.requires.seen (begins_both old mid new c.renew_session.ensures.begins.0 c.end_idle.ensures.sessions.leaves.comes.begins)

pub returns-clause-made : goal.returns-clause-made
returns-clause-made g c = rw c.end_idle.ensures.made c.renew_session.ensures.made_most

pub returns-in_default-clause-doors : goal.returns-in_default-clause-doors
returns-in_default-clause-doors g c = λ less.
    let counts = g.M.DoorMaker.faults in
    let low = kept_back (counts c.args.maker.now) (sum_by g.M.Door.Door.faults c.args.session.doors) (counts c.renew_session.new.maker) c.in_default.ensures.doors less in
    omega (arith, low)

pub returns-clause-doors : goal.returns-clause-doors
returns-clause-doors g c =
    let counts = g.M.DoorMaker.faults in
    let faults = g.M.Door.Door.faults in
    let told = c.compare_by_turn-told in
    let same = ap counts c.in-Ok.ensures.same_maker in
    rose_told (told_faults told.result) (counts c.args.maker.now) (counts c.renew_session.new.maker) (sum_by faults c.in-Ok.next.doors) (sum_by faults told.new.session.doors)
    (counts c.end_idle.new.maker) (λ _. omega (arith, same)) told.ensures.rose c.end_idle.ensures.doors

pub returns-in_default-clause-begins : goal.returns-in_default-clause-begins
returns-in_default-clause-begins g c = c.renew_session.ensures.begins.1

pub returns-clause-begins : goal.returns-clause-begins
returns-clause-begins g c =
    begins_both c.args.session.log c.renew_session.new.owner.seen c.end_idle.new.owner.seen c.renew_session.ensures.begins.1 c.end_idle.ensures.sessions.leaves.comes.begins

pub returns-in_default-clause-sessions : goal.returns-in_default-clause-sessions
returns-in_default-clause-sessions g c =
    let e = c.renew_session.ensures in
    let old = c.args.owner.now in
    let new = c.renew_session.new.owner in
    let leaves =
    leaves_unrenewed c.entries_are_events.ensures c.loads_close.ensures.own c.args.shared.now c.args.session old new c.requires.idle e.owner e.begins e.own e.before e.keeps c.in_default.ensures.none_entered
    in
    one_ended leaves c.in_default.ensures.none_out c.in_default.ensures.taken_back
    (makes_so g.M.DoorMaker.is_true g.M.DoorMaker.makes c.args.maker.now c.renew_session.new.maker e.truth_stays e.plan_stays)

pub returns-clause-sessions : goal.returns-clause-sessions
returns-clause-sessions g c =
    let m = g.M.DoorMaker in
    let x = c.in-Ok.ensures in
    let e = c.renew_session.ensures in
    let ended = c.end_idle.ensures.sessions in
    let old = c.args.owner.now in
    let mid = c.renew_session.new.owner in
    let given = ap (λ (o : Owner). o.out) x.given in
    let first =
    leaves_renewed c.entries_are_events.ensures c.loads_close.ensures.own c.args.shared.now c.args.session old mid c.requires.idle e.owner.log.tags (ap (λ (o : Owner). o.kept) x.given) e.begins e.own e.before
    in
    record {
      leaves = leaves_both first ended.leaves;
      out = omega (arith, given, ended.out);
      traffic = subst (λ (maker : _). Traffic m.hands_out m.takes_back 0 (1 * c.args.shared.now.providers) maker c.end_idle.new.maker) x.same_maker ended.traffic;
      maker = makes_both (makes_so g.M.DoorMaker.is_true g.M.DoorMaker.makes c.args.maker.now c.renew_session.new.maker e.truth_stays e.plan_stays) ended.maker;
    }
