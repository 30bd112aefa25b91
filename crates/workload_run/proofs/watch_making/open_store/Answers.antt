use Rattle.std.proofs.Common.{◌≡◌, ◌∙◌, ap, arith}
use Rattle.std.specs.Prelude.{sum_by}
use Rattle.client_session.specs.Sessions.{StoreState}
use Rattle.store_sessions.proofs.Traffics
use Rattle.workload_run.specs.Updates.{told_faults}
use Rattle.workload_run.specs.WatchStages.{Owner}
use Rattle.workload_run.proofs.WatchCrews.{rose_told}
use Rattle.workload_run.proofs.WatchStages.{makes_so, makes_both, opens_as}
use Rattle.workload_run.proofs.Returns.{took}
use Rattle.workload_run.proofs.watch_making.open_store.Goals as goal

pub returns-clause-opens : goal.returns-clause-opens
returns-clause-opens g c =
    let x = c.in-Ok.ensures in
    let e = c.end_session.ensures in
    let mid = c.open_session.new.owner in
    let new = c.end_session.new.owner in
    let s = c.in-Ok.session in
    let s' = c.make_blob-made.new.session in
    let first : s.caller ≡ 1 = omega (arith, x.session.caller, c.requires.no_pass) in
    let made : new.made ≡ 1 = (let a = ap (λ (o : Owner). o.made) e.counts.1 in let b = ap (λ (o : Owner). o.made) x.given in omega (arith, a, b, c.requires.no_pass)) in
    let out : new.out ≡ 0 = (let b = ap (λ (o : Owner). o.out) x.given in omega (arith, e.counts.0, b, c.requires.none_out)) in
    opens_as c.entries_are_events.ensures s s' mid new (took c.args.shared.now s'.caller s'.log mid new e.counts e.begins e.own e.before e.owner) first (x.session.log ∙ c.requires.new)
    (ap (λ (o : Owner). o.kept) x.given ∙ c.requires.none_kept) made out (ap (λ (t : StoreState). t.fixed.limits) x.session.of_store ∙ c.requires.limits) c.make_blob-made.result c.make_blob-made.ensures.ends

pub returns-clause-lent : goal.returns-clause-lent
returns-clause-lent g c =
    let hands_out = g.M.DoorMaker.hands_out in
    let takes_back = g.M.DoorMaker.takes_back in
    let p = c.args.shared.now.providers in
    Traffics.lent hands_out takes_back p c.args.maker.now c.end_session.new.maker c.make_blob-made.result
    (Traffics.went_back hands_out takes_back p c.args.maker.now c.open_session.new.maker c.end_session.new.maker c.in-Ok.ensures.handed_out c.end_session.ensures.taken_back)

pub returns-clause-doors : goal.returns-clause-doors
returns-clause-doors g c =
    let counts = g.M.DoorMaker.faults in
    let faults = g.M.Door.Door.faults in
    let made = c.make_blob-made in
    rose_told (told_faults made.result) (counts c.args.maker.now) (counts c.open_session.new.maker) (sum_by faults c.in-Ok.session.doors) (sum_by faults made.new.session.doors)
    (counts c.end_session.new.maker)
    c.open_session.ensures.doors made.ensures.faults c.end_session.ensures.doors

pub returns-in_default-clause-maker : goal.returns-in_default-clause-maker
returns-in_default-clause-maker g c = let i = c.open_session.ensures in record { truth_stays = i.truth_stays; plan_stays = i.plan_stays }

pub returns-clause-maker : goal.returns-clause-maker
returns-clause-maker g c =
    let m = g.M.DoorMaker in
    let i = c.open_session.ensures in
    let e = c.end_session.ensures in
    let first = c.args.maker.now in
    let mid = c.open_session.new.maker in
    let last = c.end_session.new.maker in
    makes_both (makes_so m.is_true m.makes first mid i.truth_stays i.plan_stays) (makes_so m.is_true m.makes mid last e.truth_stays e.plan_stays)
