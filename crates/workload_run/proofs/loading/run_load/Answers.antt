use Rattle.std.proofs.Common.{◌≡◌, ◌↔◌, ℕ, suc, ◌+◌, ◌*◌, arith}
use Rattle.std.proofs.Math.Nat.{suc-mul}
use Rattle.page_store.proofs.CallsLemmas.{all_came_back_join}
use Rattle.page_store.specs.Calls.{Traffic}
use Rattle.store_sessions.proofs.Traffics.{traffic_both}
use Rattle.workload_run.proofs.Stores.{closes_unopened, closes_stopped, closes_looked, closes_unseen}
use Rattle.workload_run.proofs.loading.run_load.Goals as goal

both : {A B C : Type 0} → (A ↔ B) → (B ↔ C) → (A ↔ C)
both a b = (λ x. b.0 (a.0 x), λ z. a.1 (b.1 z))

-- ---- the doors of the three stages
-- the first session's, the workers', and the last session's
doors_of_all : (p workers : ℕ) → p + workers * p + p ≡ (workers + 2) * p
doors_of_all p workers =
    let e : workers + 2 ≡ suc (suc workers) = omega arith in
    let one = suc-mul workers p in
    let two = suc-mul (suc workers) p in
    rw e (omega (arith, one, two))

three_lent : {M : Type 0} (hands_out takes_back : M → M → Type 0) (p workers : ℕ) (first opened worked last : M) → Traffic hands_out takes_back p p first opened
    → Traffic hands_out takes_back (workers * p) (workers * p) opened worked → Traffic hands_out takes_back p p worked last
    → Traffic hands_out takes_back ((workers + 2) * p) ((workers + 2) * p) first last
three_lent hands_out takes_back p workers first opened worked last a b c =
    let two = p + workers * p in
    let all = doors_of_all p workers in
    traffic_both hands_out takes_back two two p p ((workers + 2) * p) ((workers + 2) * p) first worked last all all
    (traffic_both hands_out takes_back p p (workers * p) (workers * p) two two first opened worked (omega arith) (omega arith) a b) c

pub returns-in-Err-clause-closes : goal.returns-in-Err-clause-closes
returns-in-Err-clause-closes g c =
    closes_unopened c.entries_are_events.ensures c.args.plan.now c.args.shared.now.fixed.page_size c.requires.sized c.loads_close.ensures.openings c.in-Err.unopened c.open_store.new.owner c.in-Err.ensures.opens.1

pub returns-in-Err-work_all-clause-closes : goal.returns-in-Err-work_all-clause-closes
returns-in-Err-work_all-clause-closes g c =
    let x = c.loads_close.ensures in
    closes_stopped c.entries_are_events.ensures c.args.plan.now c.args.shared.now.fixed.page_size c.requires.sized x.alone x.first c.open_store.new.owner c.in-Ok.ensures.opens x.workers x.own x.idle c.in-Err-work_all.stopped c.work_all.new.owner
    c.in-Err-work_all.ensures.works.1

pub returns-in-Ok-look_back-clause-closes : goal.returns-in-Ok-look_back-clause-closes
returns-in-Ok-look_back-clause-closes g c =
    let x = c.loads_close.ensures in
    closes_looked c.entries_are_events.ensures c.args.plan.now c.args.shared.now.fixed.page_size c.requires.sized x.alone x.first c.open_store.new.owner c.in-Ok.ensures.opens x.none c.loads_read_back.ensures c.work_all.new.owner
    c.look_back.new.owner c.in-Ok-work_all.ensures.works x.own x.idle c.in-Ok-look_back.summary c.in-Ok-look_back.ensures.looks

pub returns-in-Err-look_back-clause-closes : goal.returns-in-Err-look_back-clause-closes
returns-in-Err-look_back-clause-closes g c =
    let x = c.loads_close.ensures in
    closes_unseen c.entries_are_events.ensures c.args.plan.now c.args.shared.now.fixed.page_size c.requires.sized x.alone x.first c.open_store.new.owner c.in-Ok.ensures.opens x.none c.loads_read_back.ensures c.work_all.new.owner
    c.look_back.new.owner c.in-Ok-work_all.ensures.works c.in-Err-look_back.unseen c.in-Err-look_back.ensures.looks.1

pub returns-in-Err-work_all-clause-lent : goal.returns-in-Err-work_all-clause-lent
returns-in-Err-work_all-clause-lent g c =
    all_came_back_join g.M.DoorMaker.hands_out g.M.DoorMaker.takes_back c.args.doors.now c.open_store.new.maker c.work_all.new.maker
    (c.args.shared.now.providers, c.in-Ok.ensures.lent) c.in-Err-work_all.ensures.lent

pub returns-in-Ok-look_back-clause-lent : goal.returns-in-Ok-look_back-clause-lent
returns-in-Ok-look_back-clause-lent g c =
    three_lent g.M.DoorMaker.hands_out g.M.DoorMaker.takes_back c.args.shared.now.providers c.args.plan.now.workers c.args.doors.now c.open_store.new.maker c.work_all.new.maker c.look_back.new.maker
    c.in-Ok.ensures.lent c.in-Ok-work_all.ensures.lent c.in-Ok-look_back.ensures.lent

pub returns-in-Err-look_back-clause-lent : goal.returns-in-Err-look_back-clause-lent
returns-in-Err-look_back-clause-lent g c =
    let hands_out = g.M.DoorMaker.hands_out in
    let takes_back = g.M.DoorMaker.takes_back in
    let p = c.args.shared.now.providers in
    all_came_back_join hands_out takes_back c.args.doors.now c.work_all.new.maker c.look_back.new.maker
    (all_came_back_join hands_out takes_back c.args.doors.now c.open_store.new.maker c.work_all.new.maker (p, c.in-Ok.ensures.lent) (c.args.plan.now.workers * p, c.in-Ok-work_all.ensures.lent))
    c.in-Err-look_back.ensures.lent

pub returns-in-Err-work_all-clause-doors : goal.returns-in-Err-work_all-clause-doors
returns-in-Err-work_all-clause-doors g c = λ less.
    let later = c.in-Err-work_all.ensures.doors less in
    let first = c.in-Ok.ensures.doors (omega (arith, later, less)) in
    omega (arith, first, later)

pub returns-in-Ok-look_back-clause-doors : goal.returns-in-Ok-look_back-clause-doors
returns-in-Ok-look_back-clause-doors g c = λ less.
    let last = c.in-Ok-look_back.ensures.doors less in
    let later = c.in-Ok-work_all.ensures.doors (omega (arith, last, less)) in
    let first = c.in-Ok.ensures.doors (omega (arith, later, last, less)) in
    omega (arith, first, later, last)

pub returns-in-Err-look_back-clause-doors : goal.returns-in-Err-look_back-clause-doors
returns-in-Err-look_back-clause-doors g c = λ less.
    let last = c.in-Err-look_back.ensures.doors less in
    let later = c.in-Ok-work_all.ensures.doors (omega (arith, last, less)) in
    let first = c.in-Ok.ensures.doors (omega (arith, later, last, less)) in
    omega (arith, first, later, last)

pub returns-in-Err-work_all-clause-truth_stays : goal.returns-in-Err-work_all-clause-truth_stays
returns-in-Err-work_all-clause-truth_stays g c = both c.open_store.ensures.truth_stays c.work_all.ensures.truth_stays

pub returns-in-Err-work_all-clause-plan_stays : goal.returns-in-Err-work_all-clause-plan_stays
returns-in-Err-work_all-clause-plan_stays g c = λ n door. both (c.open_store.ensures.plan_stays n door) (c.work_all.ensures.plan_stays n door)

pub returns-in-Ok-look_back-clause-truth_stays : goal.returns-in-Ok-look_back-clause-truth_stays
returns-in-Ok-look_back-clause-truth_stays g c = both c.open_store.ensures.truth_stays (both c.work_all.ensures.truth_stays c.look_back.ensures.truth_stays)

pub returns-in-Ok-look_back-clause-plan_stays : goal.returns-in-Ok-look_back-clause-plan_stays
returns-in-Ok-look_back-clause-plan_stays g c = λ n door. both (c.open_store.ensures.plan_stays n door) (both (c.work_all.ensures.plan_stays n door) (c.look_back.ensures.plan_stays n door))

pub returns-in-Err-look_back-clause-truth_stays : goal.returns-in-Err-look_back-clause-truth_stays
returns-in-Err-look_back-clause-truth_stays g c = both c.open_store.ensures.truth_stays (both c.work_all.ensures.truth_stays c.look_back.ensures.truth_stays)

pub returns-in-Err-look_back-clause-plan_stays : goal.returns-in-Err-look_back-clause-plan_stays
returns-in-Err-look_back-clause-plan_stays g c = λ n door. both (c.open_store.ensures.plan_stays n door) (both (c.work_all.ensures.plan_stays n door) (c.look_back.ensures.plan_stays n door))
