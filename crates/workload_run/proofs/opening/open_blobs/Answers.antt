use Rattle.std.proofs.Common.{List, ℕ, ◌+◌, subst}
use Rattle.std.specs.Prelude.{sum_by}
use Rattle.blob_model.specs.declared.call.Place.TheVariants.{Append}
use Rattle.request_form.specs.Replies.{page_faults}
use Rattle.client_session.specs.Sessions.{session_of}
use Rattle.client_session.proofs.Waiting.{goes_both}
use Rattle.workload_run.specs.Updates.{IsUpdated, IsStopped}
use Rattle.workload_run.specs.Left.{left_faults}
use Rattle.workload_run.proofs.Updates.{rose_both, rose_less}
use Rattle.workload_run.proofs.Operations.{made_one, made_both, opened, no_log, no_grid, no_zeros}
use Rattle.workload_run.proofs.opening.open_blobs.Goals as goal

pub returns-in-Err-clause-ends : goal.returns-in-Err-clause-ends
returns-in-Err-clause-ends g c =
    no_log c.calls_leave.ensures.add c.args.plan.now (session_of c.args.session.now) c.requires.fresh c.in-Err.no_log (session_of c.make_blob.new.session) c.in-Err.ensures.ends

pub returns-in-Err-make_blob-clause-ends : goal.returns-in-Err-make_blob-clause-ends
returns-in-Err-make_blob-clause-ends g c =
    let adds = c.calls_leave.ensures.add in
    let plan = c.args.plan.now in
    let s = session_of c.args.session.now in
    let one = session_of c.make_blob.new.session in
    no_grid adds plan s c.requires.fresh one c.in-Err-make_blob.no_grid (session_of c.make_blob-2.new.session) (made_one adds plan s c.requires.fresh one c.in-Ok.ensures.ends) c.in-Err-make_blob.ensures.ends

pub returns-in-Ok-update-clause-ends : goal.returns-in-Ok-update-clause-ends
returns-in-Ok-update-clause-ends g c =
    let adds = c.calls_leave.ensures.add in
    let plan = c.args.plan.now in
    let s = session_of c.args.session.now in
    let one = session_of c.make_blob.new.session in
    let two = session_of c.make_blob-2.new.session in
    let s' = session_of c.update.new.session in
    let both = made_both adds plan s c.requires.fresh one two (made_one adds plan s c.requires.fresh one c.in-Ok.ensures.ends) c.in-Ok-make_blob.ensures.ends in
    opened adds plan s c.requires.fresh two s' both (subst (λ (b : List ℕ). IsUpdated two 2 Append b s') c.requires.zeros c.in-Ok-update.ensures.told)

pub returns-in-Err-update-clause-ends : goal.returns-in-Err-update-clause-ends
returns-in-Err-update-clause-ends g c =
    let adds = c.calls_leave.ensures.add in
    let plan = c.args.plan.now in
    let s = session_of c.args.session.now in
    let one = session_of c.make_blob.new.session in
    let two = session_of c.make_blob-2.new.session in
    let s' = session_of c.update.new.session in
    let both = made_both adds plan s c.requires.fresh one two (made_one adds plan s c.requires.fresh one c.in-Ok.ensures.ends) c.in-Ok-make_blob.ensures.ends in
    no_zeros adds plan s c.requires.fresh two c.in-Err-update.no_zeros s' both (subst (λ (b : List ℕ). IsStopped two 2 Append b c.in-Err-update.no_zeros s') c.requires.zeros c.in-Err-update.ensures.told)

pub returns-in-Err-make_blob-clause-goes_on : goal.returns-in-Err-make_blob-clause-goes_on
returns-in-Err-make_blob-clause-goes_on g c = goes_both c.args.session.now c.make_blob.new.session c.make_blob-2.new.session c.make_blob.ensures.goes_on c.make_blob-2.ensures.goes_on

pub returns-in-Ok-update-clause-goes_on : goal.returns-in-Ok-update-clause-goes_on
returns-in-Ok-update-clause-goes_on g c =
    let s = c.args.session.now in
    let two = c.make_blob-2.new.session in
    goes_both s two c.update.new.session (goes_both s c.make_blob.new.session two c.make_blob.ensures.goes_on c.make_blob-2.ensures.goes_on) c.update.ensures.goes_on

pub returns-in-Err-update-clause-goes_on : goal.returns-in-Err-update-clause-goes_on
returns-in-Err-update-clause-goes_on g c =
    let s = c.args.session.now in
    let two = c.make_blob-2.new.session in
    goes_both s two c.update.new.session (goes_both s c.make_blob.new.session two c.make_blob.ensures.goes_on c.make_blob-2.ensures.goes_on) c.update.ensures.goes_on

pub returns-in-Err-make_blob-clause-faults : goal.returns-in-Err-make_blob-clause-faults
returns-in-Err-make_blob-clause-faults g c =
    let count = sum_by g.D.Door.faults in
    rose_both 0 (page_faults c.in-Err-make_blob.no_grid) (count c.args.session.now.doors) (count c.make_blob.new.session.doors) (count c.make_blob-2.new.session.doors)
    c.in-Ok.ensures.faults c.in-Err-make_blob.ensures.faults

pub returns-in-Ok-update-clause-faults : goal.returns-in-Ok-update-clause-faults
returns-in-Ok-update-clause-faults g c =
    let count = sum_by g.D.Door.faults in
    let first = count c.args.session.now.doors in
    let two = count c.make_blob-2.new.session.doors in
    rose_both 0 0 first two (count c.update.new.session.doors)
    (rose_both 0 0 first (count c.make_blob.new.session.doors) two c.in-Ok.ensures.faults c.in-Ok-make_blob.ensures.faults) c.in-Ok-update.ensures.faults

pub returns-in-Err-update-clause-faults : goal.returns-in-Err-update-clause-faults
returns-in-Err-update-clause-faults g c =
    let count = sum_by g.D.Door.faults in
    let first = count c.args.session.now.doors in
    let two = count c.make_blob-2.new.session.doors in
    let last = count c.update.new.session.doors in
    let stop = c.in-Err-update.no_zeros in
    rose_less (page_faults stop.fault) (left_faults stop.left) first last
    (rose_both 0 (page_faults stop.fault + left_faults stop.left) first two last
    (rose_both 0 0 first (count c.make_blob.new.session.doors) two c.in-Ok.ensures.faults c.in-Ok-make_blob.ensures.faults) c.in-Err-update.ensures.faults)
