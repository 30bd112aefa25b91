use Rattle.std.proofs.Common.{◌≡◌, ℕ, ◌<◌, refl, sym, subst, append-nil, [], arith}
use Rattle.std.specs.Prelude.{sum_by}
use Rattle.request_form.specs.Replies.{page_faults}
use Rattle.client_session.specs.Sessions.{session_of}
use Rattle.client_session.proofs.Waiting.{goes_both}
use Rattle.workload_run.proofs.Updates.{rose_both}
use Rattle.workload_run.specs.Work.{HasWorked}
use Rattle.workload_run.proofs.Operations.{worked_start, worked_more, ended_early}
use Rattle.workload_run.proofs.working.work.Goals as goal

pub ops-init : goal.ops-init
ops-init g c =
    record {
      worked = worked_start c.loads_close.ensures.idle c.args.plan.now c.args.worker (session_of c.args.session.now) c.requires.fresh;
      rose = record { later = omega arith; by = λ less. omega arith };
      goes_on = record { store = refl; caller = refl; begins = ([], sym (append-nil c.args.session.now.log)) };
    }

pub returns-in-Err-clause-ends : goal.returns-in-Err-clause-ends
returns-in-Err-clause-ends g c =
    let within : c.ops.op < c.args.plan.now.ops = c.ops-test.true in
    ended_early c.args.plan.now c.args.worker c.ops.op (session_of c.args.session.now) (session_of c.ops.session) (session_of c.operate.new.session) c.requires.fresh.limits c.ops.invariant.worked c.loads_go_on.ensures.stopped within c.in-Err.fault c.in-Err.ensures.operated

pub ops-preserved : goal.ops-preserved
ops-preserved g c =
    let faults = g.D.Door.faults in
    let start = c.args.session.now in
    let mid = c.ops.session in
    let last = c.operate.new.session in
    record {
      worked = worked_more c.args.plan.now c.args.worker c.ops.op (session_of start) (session_of mid) (session_of last) c.requires.fresh.limits c.ops.invariant.worked c.in-Ok.ensures.operated;
      rose = rose_both 0 0 (sum_by faults start.doors) (sum_by faults mid.doors) (sum_by faults last.doors) c.ops.invariant.rose c.in-Ok.ensures.faults;
      goes_on = goes_both start mid last c.ops.invariant.goes_on c.in-Ok.ensures.goes_on;
    }

pub operate-requires-clause-operation : goal.operate-requires-clause-operation
operate-requires-clause-operation g c κs within = record { sized = c.requires.sized; some = c.requires.some; last = c.requires.last; within = c.ops-test.true }

pub operate-requires-clause-ready : goal.operate-requires-clause-ready
operate-requires-clause-ready g c κs within = c.ops.invariant.worked.ready

pub returns-in-Err-clause-faults : goal.returns-in-Err-clause-faults
returns-in-Err-clause-faults g c =
    let count = sum_by g.D.Door.faults in
    rose_both 0 (page_faults c.in-Err.fault) (count c.args.session.now.doors) (count c.ops.session.doors) (count c.operate.new.session.doors) c.ops.invariant.rose c.in-Err.ensures.faults

pub returns-in-Err-clause-goes_on : goal.returns-in-Err-clause-goes_on
returns-in-Err-clause-goes_on g c = goes_both c.args.session.now c.ops.session c.operate.new.session c.ops.invariant.goes_on c.operate.ensures.goes_on

pub returns-clause-ends : goal.returns-clause-ends
returns-clause-ends g c =
    let s = session_of c.args.session.now in
    let s' = session_of c.ops.session in
    let all : c.ops.op ≡ c.args.plan.now.ops = omega (arith, c.ops-test.false, c.ops.auto.op-end) in
    subst (λ (op : ℕ). HasWorked c.args.plan.now c.args.worker op s s') all c.ops.invariant.worked
