use Rattle.std.proofs.Common.{◌≡◌, ℕ, ◌*◌, length, sym, subst, arith}
use Rattle.std.specs.Prelude.{Option, Some, None, sum_by}
use Rattle.page_store.specs.Calls.{Traffic}
use Rattle.request_form.specs.Replies.{page_faults}
use Rattle.store_sessions.proofs.Traffics.{went_back}
use Rattle.version_manager.specs.Log.{events}
use Rattle.request_form.specs.declared.form.Fault.{Fault}
use Rattle.workload_run.specs.Workers.{counted_by, first_stop}
use Rattle.workload_run.proofs.Stores.{workable, CrewEnds, crew_ends, counted_stop}
use Rattle.workload_run.proofs.Returns.{rose_stop}
use Rattle.workload_run.proofs.crew.work_all.Given.{Over}
use Rattle.workload_run.proofs.crew.work_all.Goals.{After-end_workers}
use Rattle.workload_run.proofs.crew.work_all.Goals as goal

pub run_all-workers-requires-after_bounds : goal.run_all-workers-requires-after_bounds
run_all-workers-requires-after_bounds g c κs within =
    let old = c.in-Ok.workers in
    let count : length old.items ≡ c.args.plan.now.workers = omega (arith, c.in-Ok.ensures.count, old.ok.0) in
    workable c.entries_are_events.ensures g.M.Door.Door.faults c.args.plan.now c.requires.sized c.args.shared.now c.requires.limits c.args.owner.now.seen c.requires.owner.log.tags old.items count
    c.in-Ok.ensures.ready

-- how the work ended for the owner
works : (g : Over) (c : After-end_workers g) (stop : Option Fault) → first_stop c.run_all-workers.result.items ≡ stop
    → CrewEnds c.args.plan.now c.args.shared.now.fixed.page_size (events c.args.owner.now.seen) stop c.end_workers.new.owner
works g c stop is =
    let old = c.in-Ok.workers in
    let new = c.run_all-workers.result in
    let e = c.end_workers.ensures in
    let count : length old.items ≡ c.args.plan.now.workers = omega (arith, c.in-Ok.ensures.count, old.ok.0) in
    let same : length new.items ≡ length old.items = omega (arith, c.run_all-workers.ensures.count, old.ok.0, new.ok.0) in
    crew_ends c.entries_are_events.ensures c.loads_close.ensures.own c.args.plan.now c.requires.sized g.M.Door.Door.faults c.args.shared.now c.requires.limits c.args.owner.now c.workers_of.new.owner
    c.end_workers.new.owner c.requires.opened c.in-Ok.ensures.given old.items new.items count same c.in-Ok.ensures.ready c.run_all-workers.ensures.run e.owner.log.tags e.back e.before e.kept_before e.kept
    e.made (omega (arith, e.out, count, same, new.ok.0)) e.seen stop is

-- all doors that were handed out went back
went : (g : Over) (c : After-end_workers g)
    → let doors = c.args.plan.now.workers * c.args.shared.now.providers in Traffic g.M.DoorMaker.hands_out g.M.DoorMaker.takes_back doors doors c.args.maker.now c.end_workers.new.maker
went g c =
    let m = g.M.DoorMaker in
    let p = c.args.shared.now.providers in
    let same : c.run_all-workers.result.len ≡ c.args.plan.now.workers = omega (arith, c.run_all-workers.ensures.count, c.in-Ok.ensures.count) in
    went_back m.hands_out m.takes_back (c.args.plan.now.workers * p) c.args.maker.now c.workers_of.new.maker c.end_workers.new.maker c.in-Ok.ensures.handed_out
    (subst (λ (n : ℕ). Traffic m.hands_out m.takes_back 0 (n * p) c.workers_of.new.maker c.end_workers.new.maker) same c.end_workers.ensures.taken_back)

pub returns-in-Some-clause-works : goal.returns-in-Some-clause-works
returns-in-Some-clause-works g c = works g (goal.at.returns-in-Some-clause-works g c).After-end_workers (Some c.in-Some.fault) (sym c.in-Some.ensures.stop)

pub returns-in-None-clause-works : goal.returns-in-None-clause-works
returns-in-None-clause-works g c = works g (goal.at.returns-in-None-clause-works g c).After-end_workers None (sym c.in-None.ensures.stop)

pub returns-in-Some-clause-lent : goal.returns-in-Some-clause-lent
returns-in-Some-clause-lent g c = (c.args.plan.now.workers * c.args.shared.now.providers, went g (goal.at.returns-in-Some-clause-lent g c).After-end_workers)

pub returns-in-None-clause-lent : goal.returns-in-None-clause-lent
returns-in-None-clause-lent g c = went g (goal.at.returns-in-None-clause-lent g c).After-end_workers

pub returns-in-Some-clause-doors : goal.returns-in-Some-clause-doors
returns-in-Some-clause-doors g c =
    let faults = g.M.DoorMaker.faults in
    let old = c.in-Ok.workers in
    let new = c.run_all-workers.result in
    let count : length old.items ≡ c.args.plan.now.workers = omega (arith, c.in-Ok.ensures.count, old.ok.0) in
    let same : length new.items ≡ length old.items = omega (arith, c.run_all-workers.ensures.count, old.ok.0, new.ok.0) in
    rose_stop (page_faults c.in-Some.fault) (faults c.args.maker.now) (faults c.workers_of.new.maker) (sum_by (counted_by g.M.Door.Door.faults) new.items) (faults c.end_workers.new.maker)
    c.in-Ok.ensures.doors
    (counted_stop c.entries_are_events.ensures g.M.Door.Door.faults c.args.plan.now c.requires.sized c.args.shared.now c.requires.limits c.args.owner.now.seen c.requires.owner.log.tags old.items count
    c.in-Ok.ensures.ready new.items same c.run_all-workers.ensures.run c.in-Some.fault (sym c.in-Some.ensures.stop))
    c.end_workers.ensures.doors
