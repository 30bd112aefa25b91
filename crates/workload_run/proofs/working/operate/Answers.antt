use Rattle.std.proofs.Common.{ℕ, ◌+◌, List, subst}
use Rattle.std.specs.Prelude.{sum_by}
use Rattle.blob_model.specs.declared.call.Place.TheVariants.{WriteAt, Append}
use Rattle.request_form.specs.Replies.{page_faults}
use Rattle.client_session.specs.Sessions.{session_of}
use Rattle.client_session.proofs.Waiting.{goes_both}
use Rattle.workload_law.specs.Pieces.{cell_of}
use Rattle.workload_run.specs.Updates.{IsUpdated, IsStopped}
use Rattle.workload_run.specs.Left.{left_faults}
use Rattle.workload_run.proofs.Updates.{rose_both, rose_less}
use Rattle.workload_run.proofs.Operations.{operated, stopped_in_record, stopped_in_cell}
use Rattle.workload_run.proofs.working.operate.Goals as goal

pub returns-in-Err-clause-operated : goal.returns-in-Err-clause-operated
returns-in-Err-clause-operated g c =
    let s = session_of c.args.session.now in
    let s' = session_of c.update.new.session in
    stopped_in_record c.args.plan.now c.args.worker c.args.op s c.requires.caller c.requires.limits s' c.in-Err.stopped
    (subst (λ (b : List ℕ). IsStopped s 1 Append b c.in-Err.stopped s') c.record-recorded.ensures c.in-Err.ensures.told)

pub returns-in-Ok-update-clause-operated : goal.returns-in-Ok-update-clause-operated
returns-in-Ok-update-clause-operated g c =
    let s = session_of c.args.session.now in
    let mid = session_of c.update.new.session in
    let s' = session_of c.update-2.new.session in
    let wrote = subst (λ (b : List ℕ). IsUpdated s 1 Append b mid) c.record-recorded.ensures c.in-Ok.ensures.told in
    operated c.args.plan.now c.args.worker c.args.op s mid c.requires.caller wrote c.calls_leave.ensures.add s'
    (subst (λ (o : ℕ). IsUpdated mid 2 (WriteAt o) (cell_of c.args.plan.now.seed c.args.worker c.args.op) s') c.cell_offset-offset.ensures
    (subst (λ (b : List ℕ). IsUpdated mid 2 (WriteAt c.cell_offset-offset.result) b s') c.cell-written.ensures c.in-Ok-update.ensures.told))

pub returns-in-Err-update-clause-operated : goal.returns-in-Err-update-clause-operated
returns-in-Err-update-clause-operated g c =
    let s = session_of c.args.session.now in
    let mid = session_of c.update.new.session in
    let s' = session_of c.update-2.new.session in
    let wrote = subst (λ (b : List ℕ). IsUpdated s 1 Append b mid) c.record-recorded.ensures c.in-Ok.ensures.told in
    stopped_in_cell c.args.plan.now c.args.worker c.args.op s mid c.requires.caller wrote c.calls_leave.ensures.add c.requires.limits s' c.in-Err-update.lost
    (subst (λ (o : ℕ). IsStopped mid 2 (WriteAt o) (cell_of c.args.plan.now.seed c.args.worker c.args.op) c.in-Err-update.lost s') c.cell_offset-offset.ensures
    (subst (λ (b : List ℕ). IsStopped mid 2 (WriteAt c.cell_offset-offset.result) b c.in-Err-update.lost s') c.cell-written.ensures c.in-Err-update.ensures.told))

pub returns-in-Ok-update-clause-goes_on : goal.returns-in-Ok-update-clause-goes_on
returns-in-Ok-update-clause-goes_on g c = goes_both c.args.session.now c.update.new.session c.update-2.new.session c.update.ensures.goes_on c.update-2.ensures.goes_on

pub returns-in-Err-update-clause-goes_on : goal.returns-in-Err-update-clause-goes_on
returns-in-Err-update-clause-goes_on g c = goes_both c.args.session.now c.update.new.session c.update-2.new.session c.update.ensures.goes_on c.update-2.ensures.goes_on

pub returns-in-Ok-update-clause-faults : goal.returns-in-Ok-update-clause-faults
returns-in-Ok-update-clause-faults g c =
    let count = sum_by g.D.Door.faults in
    rose_both 0 0 (count c.args.session.now.doors) (count c.update.new.session.doors) (count c.update-2.new.session.doors) c.in-Ok.ensures.faults c.in-Ok-update.ensures.faults

pub returns-in-Err-update-clause-faults : goal.returns-in-Err-update-clause-faults
returns-in-Err-update-clause-faults g c =
    let count = sum_by g.D.Door.faults in
    let stop = c.in-Err-update.lost in
    let first = count c.args.session.now.doors in
    let last = count c.update-2.new.session.doors in
    rose_less (page_faults stop.fault) (left_faults stop.left) first last
    (rose_both 0 (page_faults stop.fault + left_faults stop.left) first (count c.update.new.session.doors) last c.in-Ok.ensures.faults c.in-Err-update.ensures.faults)

pub returns-in-Err-clause-faults : goal.returns-in-Err-clause-faults
returns-in-Err-clause-faults g c =
    let count = sum_by g.D.Door.faults in
    let stop = c.in-Err.stopped in
    rose_less (page_faults stop.fault) (left_faults stop.left) (count c.args.session.now.doors) (count c.update.new.session.doors) c.in-Err.ensures.faults
