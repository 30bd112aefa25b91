use Rattle.std.proofs.Common.{◌∙◌, ◌∷◌, [], refl, ap, subst, sym, arith}
use Rattle.std.specs.Prelude.{sum_by}
use Rattle.client_session.specs.Sessions.{StoreState}
use Rattle.read_board.specs.Refreshing.{AllHold}
use Rattle.store_sessions.proofs.Traffics
use Rattle.workload_run.specs.Updates.{told_faults}
use Rattle.workload_law.specs.Ends.{IsOutside}
use Rattle.workload_run.specs.WatchEnding.{FinishHindered}
use Rattle.workload_run.specs.WatchStages.{Owner, Entries, LeavesWatch}
use Rattle.workload_run.specs.Stops.{Stops}
use Rattle.workload_run.proofs.WatchCrews.{idle_on, told_read, told_lost, rose_told}
use Rattle.workload_run.proofs.Lasts.{finish_hindered, read_back}
use Rattle.workload_run.proofs.WatchStages.{makes_so, taken, makes_both, new_idle, leaves_both, leaves_given, leaves_unmade}
use Rattle.workload_run.proofs.watching.read_back.Given.{Over}
use Rattle.workload_run.proofs.watching.read_back.Goals.{After-end_idle}
use Rattle.workload_run.proofs.watching.read_back.Goals as goal

pub read_last-told-requires : goal.read_last-told-requires
read_last-told-requires g c =
    let x = c.in-Ok.ensures.session in
    let s = c.in-Ok.session in
    record {
      may = record {
        store = c.requires.store ∙ ap (λ (t : StoreState). t ∷ []) (sym x.of_store);
        limits = ap (λ (t : StoreState). t.fixed.limits) x.of_store ∙ c.requires.limits;
        hold = subst (λ (l : Entries). AllHold s.store.fixed l c.args.keeper.now.all) (sym x.log) (subst (λ (t : StoreState). AllHold t.fixed c.args.owner.now.seen c.args.keeper.now.all) (sym x.of_store) c.requires.hold);
        of_one = c.requires.of_one;
      };
    }

pub end_idle-requires-clause-idle : goal.end_idle-requires-clause-idle
end_idle-requires-clause-idle g c =
    idle_on
    (new_idle c.in-Ok.ensures.session c.entries_are_events.ensures c.requires.owner.log.tags (omega (arith, c.requires.passes_left)))
    c.read_last-told.ensures.idles

-- no caller but the first two has events then
leaves : (g : Over) (c : After-end_idle g) → LeavesWatch c.args.owner.now c.end_idle.new.owner
leaves g c =
    let given = c.in-Ok.ensures.given in
    leaves_both (leaves_given c.args.owner.now c.open_session.new.owner (ap (λ (o : Owner). o.seen) given) (ap (λ (o : Owner). o.kept) given)) c.end_idle.ensures.sessions.leaves

pub returns-clause-leaves : goal.returns-clause-leaves
returns-clause-leaves g c = leaves g (goal.at.returns-clause-leaves g c).After-end_idle

pub returns-clause-read : goal.returns-clause-read
returns-clause-read g c =
    let x = c.in-Ok.ensures.session in
    let r = c.read_last-told.ensures in
    told_read c.read_last-told.result
    (λ last is. read_back c.read_last-told.new.keeper c.in-Ok.session c.read_last-told.new.session c.args.shared.now c.args.owner.now c.end_idle.new.owner x.of_store (r.idles.goes_on.store ∙ x.of_store) x.log
    (leaves g (goal.at.returns-clause-read g c).After-end_idle) c.end_idle.ensures.begins last is) r.last

pub returns-clause-hindered : goal.returns-clause-hindered
returns-clause-hindered g c =
    let x = c.in-Ok.ensures.session in
    let r = c.read_last-told.ensures in
    told_lost c.read_last-told.result
    (λ fault by. finish_hindered c.in-Ok.session c.read_last-told.new.session fault c.args.shared.now c.args.owner.now c.end_idle.new.owner by x.of_store (r.idles.goes_on.store ∙ x.of_store) x.log
    r.idles.goes_on.begins (leaves g (goal.at.returns-clause-hindered g c).After-end_idle) c.end_idle.ensures.begins)
    r.hindered

pub returns-in_default-clause-leaves : goal.returns-in_default-clause-leaves
returns-in_default-clause-leaves g c =
    let x = c.open_session.ensures in
    leaves_unmade c.entries_are_events.ensures c.args.shared.now c.args.owner.now c.open_session.new.owner x.owner x.seen x.keeps c.in_default.ensures.none_entered

pub returns-in_default-clause-hindered : goal.returns-in_default-clause-hindered
returns-in_default-clause-hindered g c =
    let x = c.open_session.ensures in
    FinishHindered.stops (leaves_unmade c.entries_are_events.ensures c.args.shared.now c.args.owner.now c.open_session.new.owner x.owner x.seen x.keeps c.in_default.ensures.none_entered)
    (Stops.outside (IsOutside.starved refl))

pub returns-clause-lent : goal.returns-clause-lent
returns-clause-lent g c =
    let hands_out = g.M.DoorMaker.hands_out in
    let takes_back = g.M.DoorMaker.takes_back in
    let p = c.args.shared.now.providers in
    Traffics.lent hands_out takes_back p c.args.doors.now c.end_idle.new.maker c.read_last-told.result
    (Traffics.went_back hands_out takes_back p c.args.doors.now c.open_session.new.maker c.end_idle.new.maker c.in-Ok.ensures.handed_out
    (taken c.end_idle.ensures.sessions))

pub returns-clause-out : goal.returns-clause-out
returns-clause-out g c = let given = ap (λ (o : Owner). o.out) c.in-Ok.ensures.given in omega (arith, given, c.end_idle.ensures.sessions.out)

pub returns-clause-made : goal.returns-clause-made
returns-clause-made g c = rw c.end_idle.ensures.made c.open_session.ensures.made_most

pub returns-clause-doors : goal.returns-clause-doors
returns-clause-doors g c =
    let counts = g.M.DoorMaker.faults in
    let faults = g.M.Door.Door.faults in
    let told = c.read_last-told in
    rose_told (told_faults told.result) (counts c.args.doors.now) (counts c.open_session.new.maker) (sum_by faults c.in-Ok.session.doors) (sum_by faults told.new.session.doors)
    (counts c.end_idle.new.maker)
    c.open_session.ensures.doors told.ensures.rose c.end_idle.ensures.doors

pub returns-in_default-clause-maker : goal.returns-in_default-clause-maker
returns-in_default-clause-maker g c = let i = c.open_session.ensures in record { truth_stays = i.truth_stays; plan_stays = i.plan_stays }

pub returns-clause-maker : goal.returns-clause-maker
returns-clause-maker g c =
    let i = c.open_session.ensures in
    makes_both (makes_so g.M.DoorMaker.is_true g.M.DoorMaker.makes c.args.doors.now c.open_session.new.maker i.truth_stays i.plan_stays) c.end_idle.ensures.sessions.maker
