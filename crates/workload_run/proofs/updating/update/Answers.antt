use Rattle.std.proofs.Common.{ℕ, List, ap, ◌∙◌}
use Rattle.blob_model.specs.declared.call.Event.{Event}
use Rattle.std.specs.Prelude.{sum_by}
use Rattle.request_form.specs.Replies.{page_faults}
use Rattle.client_session.specs.Sessions.{session_of}
use Rattle.version_manager.specs.Log.{events}
use Rattle.workload_run.specs.Left.{left_faults}
use Rattle.workload_run.proofs.Updates.{stopped, rose_sum}
use Rattle.workload_run.proofs.Returns.{events_append}
use Rattle.workload_run.proofs.updating.update.Goals as goal

pub returns-in-Err-clause-told : goal.returns-in-Err-clause-told
returns-in-Err-clause-told g c =
    let mid = c.complete.new.session in
    let s' = c.finish_and_hang_up-left.new.session in
    let begins = c.finish_and_hang_up-left.ensures.goes_on.begins in
    stopped c.calls_end.ensures.stay (session_of c.args.session.now) c.args.blob c.args.place c.args.bytes.now (record { fault = c.in-Err.field-0.fault; left = c.finish_and_hang_up-left.result }) c.in-Err.field-0.held (session_of mid) (session_of s')
    (events begins.0)
    (ap (λ (l : List (ℕ × Event)). events l) begins.1 ∙ events_append mid.log begins.0) c.requires.ready.none_held c.in-Err.ensures.told c.finish_and_hang_up-left.ensures.hung_up

pub returns-in-Err-clause-faults : goal.returns-in-Err-clause-faults
returns-in-Err-clause-faults g c =
    let count = sum_by g.D.Door.faults in
    rose_sum (page_faults c.in-Err.field-0.fault) (left_faults c.finish_and_hang_up-left.result) (count c.args.session.now.doors) (count c.complete.new.session.doors)
    (count c.finish_and_hang_up-left.new.session.doors) c.in-Err.ensures.faults c.finish_and_hang_up-left.ensures.faults
