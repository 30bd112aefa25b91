use Rattle.blob_model.specs.declared.call.Call.TheVariants as Calls
use Rattle.request_form.specs.Replies.{reply_of, fault_count}
use Rattle.client_session.specs.Sessions.{session_of}
use Rattle.std.specs.Prelude.{sum_by}
use Rattle.workload_run.proofs.Updates.{waited_look, rose_none}
use Rattle.workload_run.proofs.waiting.wait_for.Goals as goal

pub returns-clause-waited : goal.returns-clause-waited
returns-clause-waited g c =
    waited_look c.calls_leave.ensures.looks (session_of c.args.session.now) (session_of c.sync_wait-published.new.self) (Calls.Sync c.args.blob c.args.version) (reply_of c.sync_wait-published.result)
    c.sync_wait-published.ensures.answers

pub returns-clause-faults : goal.returns-clause-faults
returns-clause-faults g c =
    rose_none (fault_count (reply_of c.sync_wait-published.result)) (sum_by g.D.Door.faults c.args.session.now.doors) (sum_by g.D.Door.faults c.sync_wait-published.new.self.doors)
    c.sync_wait-published.ensures.faults
