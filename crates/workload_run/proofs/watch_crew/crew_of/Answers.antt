use Rattle.std.proofs.Common.{◌-◌, ◌^◌, ◌<◌, ◌≤◌, ap, subst, arith}
use Rattle.std.specs.Prelude.{sum_by}
use Rattle.store_sessions.specs.Made.{IsNewSession}
use Rattle.store_sessions.proofs.Traffics.{came_back_around}
use Rattle.workload_run.specs.Doors.{MakesAsBefore}
use Rattle.workload_run.specs.WatchStages.{Owner}
use Rattle.workload_run.proofs.WatchCrews.{kept_both, kept_back}
use Rattle.workload_run.proofs.WatchStages.{crew_handed, crew_back, makes_so, makes_both}
use Rattle.workload_run.proofs.watch_crew.crew_of.Given.{Over}
use Rattle.workload_run.proofs.watch_crew.crew_of.Goals.{After-open_session-2}
use Rattle.workload_run.proofs.watch_crew.crew_of.Goals as goal

-- the maker, once two sessions were made or tried
two_made : (g : Over) (c : After-open_session-2 g) → MakesAsBefore g.M.DoorMaker.is_true g.M.DoorMaker.makes c.args.maker.now c.open_session-2.new.maker
two_made g c =
    let m = g.M.DoorMaker in
    let p = c.open_session.ensures in
    let q = c.open_session-2.ensures in
    let one = c.open_session.new.maker in
    makes_both (makes_so m.is_true m.makes c.args.maker.now one p.truth_stays p.plan_stays) (makes_so m.is_true m.makes one c.open_session-2.new.maker q.truth_stays q.plan_stays)

-- what their doors counted then
two_counted : (g : Over) (c : After-open_session-2 g) → let counts = g.M.DoorMaker.faults in counts c.open_session-2.new.maker < 2 ^ 64 - 1 → counts c.args.maker.now ≤ counts c.open_session-2.new.maker
two_counted g c =
    let counts = g.M.DoorMaker.faults in
    kept_both (counts c.args.maker.now) (counts c.open_session.new.maker) (counts c.open_session-2.new.maker) c.open_session.ensures.doors c.open_session-2.ensures.doors

pub returns-in-Ok-watchers_of-clause-handed_out : goal.returns-in-Ok-watchers_of-clause-handed_out
returns-in-Ok-watchers_of-clause-handed_out g c =
    let m = g.M.DoorMaker in
    crew_handed m.hands_out m.takes_back c.args.shared.now.providers c.args.readers c.args.maker.now c.open_session.new.maker c.open_session-2.new.maker c.watchers_of.new.maker
    c.in-Ok.ensures.handed_out c.in-Ok-open_session.ensures.handed_out c.in-Ok-watchers_of.ensures.handed_out

pub returns-in_default-open_session-clause-all_back : goal.returns-in_default-open_session-clause-all_back
returns-in_default-open_session-clause-all_back g c =
    let m = g.M.DoorMaker in
    came_back_around m.hands_out m.takes_back c.args.shared.now.providers c.args.maker.now c.open_session.new.maker c.open_session-2.new.maker c.end_session.new.maker
    c.in-Ok.ensures.handed_out c.in_default-open_session.ensures.all_back c.end_session.ensures.taken_back

pub returns-in-Err-clause-all_back : goal.returns-in-Err-clause-all_back
returns-in-Err-clause-all_back g c =
    let m = g.M.DoorMaker in
    crew_back m.hands_out m.takes_back c.args.shared.now.providers c.args.maker.now c.open_session.new.maker c.open_session-2.new.maker c.watchers_of.new.maker c.end_session-in-Err.new.maker c.end_session-in-Err-2.new.maker
    c.in-Ok.ensures.handed_out c.in-Ok-open_session.ensures.handed_out c.in-Err.ensures.all_back c.end_session-in-Err.ensures.taken_back c.end_session-in-Err-2.ensures.taken_back

pub watchers_of-requires-clause-three : goal.watchers_of-requires-clause-three
watchers_of-requires-clause-three g c =
    let one = ap (λ (o : Owner). o.made) c.in-Ok.ensures.given in
    let two = ap (λ (o : Owner). o.made) c.in-Ok-open_session.ensures.given in
    omega (arith, one, two, c.requires.one)

pub watchers_of-requires-clause-true_doors : goal.watchers_of-requires-clause-true_doors
watchers_of-requires-clause-true_doors g c = c.open_session-2.ensures.truth_stays.0 (c.open_session.ensures.truth_stays.0 c.requires.true_doors)

pub returns-in-Ok-watchers_of-clause-keeping : goal.returns-in-Ok-watchers_of-clause-keeping
returns-in-Ok-watchers_of-clause-keeping g c =
    subst (λ (o : Owner). IsNewSession g.M.Door.Door.faults c.args.shared.now o c.in-Ok-open_session.keeping) c.in-Ok.ensures.given c.in-Ok-open_session.ensures.session

pub returns-in_default-open_session-clause-none_out : goal.returns-in_default-open_session-clause-none_out
returns-in_default-open_session-clause-none_out g c =
    let one = ap (λ (o : Owner). o.out) c.in-Ok.ensures.given in
    omega (arith, one, c.in_default-open_session.ensures.none_out, c.end_session.ensures.counts.0)

pub returns-in-Err-clause-none_out : goal.returns-in-Err-clause-none_out
returns-in-Err-clause-none_out g c =
    let one = ap (λ (o : Owner). o.out) c.in-Ok.ensures.given in
    let two = ap (λ (o : Owner). o.out) c.in-Ok-open_session.ensures.given in
    omega (arith, one, two, c.in-Err.ensures.none_out, c.end_session-in-Err.ensures.counts.0, c.end_session-in-Err-2.ensures.counts.0)

pub returns-in_default-open_session-clause-doors : goal.returns-in_default-open_session-clause-doors
returns-in_default-open_session-clause-doors g c =
    let counts = g.M.DoorMaker.faults in
    let first = counts c.args.maker.now in
    let two = counts c.open_session-2.new.maker in
    let last = counts c.end_session.new.maker in
    kept_both first two last (two_counted g (goal.at.returns-in_default-open_session-clause-doors g c).After-open_session-2)
    (kept_back two (sum_by g.M.Door.Door.faults c.in-Ok.writer.doors) last c.end_session.ensures.doors)

pub returns-in-Ok-watchers_of-clause-doors : goal.returns-in-Ok-watchers_of-clause-doors
returns-in-Ok-watchers_of-clause-doors g c =
    let counts = g.M.DoorMaker.faults in
    let first = counts c.args.maker.now in
    let two = counts c.open_session-2.new.maker in
    kept_both first two (counts c.watchers_of.new.maker) (two_counted g (goal.at.returns-in-Ok-watchers_of-clause-doors g c).After-open_session-2) c.watchers_of.ensures.doors

pub returns-in-Err-clause-doors : goal.returns-in-Err-clause-doors
returns-in-Err-clause-doors g c =
    let counts = g.M.DoorMaker.faults in
    let faults = g.M.Door.Door.faults in
    let first = counts c.args.maker.now in
    let two = counts c.open_session-2.new.maker in
    let next = counts c.watchers_of.new.maker in
    let ended = counts c.end_session-in-Err.new.maker in
    let last = counts c.end_session-in-Err-2.new.maker in
    kept_both first ended last
    (kept_both first next ended (kept_both first two next (two_counted g (goal.at.returns-in-Err-clause-doors g c).After-open_session-2) c.watchers_of.ensures.doors)
    (kept_back next (sum_by faults c.in-Ok-open_session.keeping.doors) ended c.end_session-in-Err.ensures.doors))
    (kept_back ended (sum_by faults c.in-Ok.writer.doors) last c.end_session-in-Err-2.ensures.doors)

pub returns-in_default-clause-maker : goal.returns-in_default-clause-maker
returns-in_default-clause-maker g c = let i = c.open_session.ensures in record { truth_stays = i.truth_stays; plan_stays = i.plan_stays }

pub returns-in_default-open_session-clause-maker : goal.returns-in_default-open_session-clause-maker
returns-in_default-open_session-clause-maker g c =
    let m = g.M.DoorMaker in
    let r = c.end_session.ensures in
    makes_both (two_made g (goal.at.returns-in_default-open_session-clause-maker g c).After-open_session-2)
    (makes_so m.is_true m.makes c.open_session-2.new.maker c.end_session.new.maker r.truth_stays r.plan_stays)

pub returns-in-Ok-watchers_of-clause-maker : goal.returns-in-Ok-watchers_of-clause-maker
returns-in-Ok-watchers_of-clause-maker g c = makes_both (two_made g (goal.at.returns-in-Ok-watchers_of-clause-maker g c).After-open_session-2) c.watchers_of.ensures.maker

pub returns-in-Err-clause-maker : goal.returns-in-Err-clause-maker
returns-in-Err-clause-maker g c =
    let m = g.M.DoorMaker in
    let r = c.end_session-in-Err.ensures in
    let s = c.end_session-in-Err-2.ensures in
    let four = c.end_session-in-Err.new.maker in
    makes_both (makes_both (two_made g (goal.at.returns-in-Err-clause-maker g c).After-open_session-2) c.watchers_of.ensures.maker)
    (makes_both (makes_so m.is_true m.makes c.watchers_of.new.maker four r.truth_stays r.plan_stays) (makes_so m.is_true m.makes four c.end_session-in-Err-2.new.maker s.truth_stays s.plan_stays))
