use Rattle.std.proofs.Common.{◌<◌, ◌+◌, ℕ, List, refl, sym, subst, append-nil, [], arith}
use Rattle.std.specs.Prelude.{sum_by}
use Rattle.blob_model.specs.declared.call.Place.TheVariants.{Append}
use Rattle.request_form.specs.Replies.{page_faults}
use Rattle.client_session.specs.Sessions.{session_of}
use Rattle.client_session.proofs.Waiting.{goes_both}
use Rattle.workload_run.specs.Updates.{IsUpdated, IsStopped}
use Rattle.workload_run.specs.Left.{left_faults}
use Rattle.workload_run.proofs.Updates.{rose_both, rose_less}
use Rattle.workload_run.proofs.Works.{wrote_none, wrote_more, stopped_writing}
use Rattle.workload_run.proofs.writing.write_all.Goals as goal

pub ops-init : goal.ops-init
ops-init g c = record {
  wrote = wrote_none c.loads_close.ensures.idle c.args.plan.now (session_of c.args.session.now) c.requires.fresh;
  rose = record { later = omega arith; by = λ less. omega arith };
  goes_on = record { store = refl; caller = refl; begins = ([], sym (append-nil c.args.session.now.log)) };
}

pub returns-in-Err-clause-ends : goal.returns-in-Err-clause-ends
returns-in-Err-clause-ends g c =
    let within : c.ops.op < c.args.plan.now.ops = c.ops-test.true in
    stopped_writing c.args.plan.now c.ops.op (session_of c.args.session.now) (session_of c.ops.session) (session_of c.update.new.session) c.requires.fresh.limits c.ops.invariant.wrote within c.in-Err.stopped
    (subst (λ (b : List ℕ). IsStopped (session_of c.ops.session) 1 Append b c.in-Err.stopped (session_of c.update.new.session)) c.piece-piece.ensures c.in-Err.ensures.told)

pub returns-in-Err-clause-faults : goal.returns-in-Err-clause-faults
returns-in-Err-clause-faults g c =
    let count = sum_by g.D.Door.faults in
    let stop = c.in-Err.stopped in
    let first = count c.args.session.now.doors in
    let last = count c.update.new.session.doors in
    rose_less (page_faults stop.fault) (left_faults stop.left) first last
    (rose_both 0 (page_faults stop.fault + left_faults stop.left) first (count c.ops.session.doors) last c.ops.invariant.rose c.in-Err.ensures.faults)

pub ops-preserved : goal.ops-preserved
ops-preserved g c =
    let faults = g.D.Door.faults in
    let start = c.args.session.now in
    let mid = c.ops.session in
    let last = c.update.new.session in
    record {
      wrote = wrote_more c.args.plan.now c.ops.op (session_of start) (session_of mid) (session_of last) c.requires.fresh.limits c.ops.invariant.wrote
          (subst (λ (b : List ℕ). IsUpdated (session_of mid) 1 Append b (session_of last)) c.piece-piece.ensures c.in-Ok.ensures.told);
      rose = rose_both 0 0 (sum_by faults start.doors) (sum_by faults mid.doors) (sum_by faults last.doors) c.ops.invariant.rose c.in-Ok.ensures.faults;
      goes_on = goes_both start mid last c.ops.invariant.goes_on c.in-Ok.ensures.goes_on;
    }

pub returns-in-Err-clause-goes_on : goal.returns-in-Err-clause-goes_on
returns-in-Err-clause-goes_on g c = goes_both c.args.session.now c.ops.session c.update.new.session c.ops.invariant.goes_on c.in-Err.ensures.goes_on
