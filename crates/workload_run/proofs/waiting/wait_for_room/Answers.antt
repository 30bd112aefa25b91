use Rattle.blob_model.specs.declared.call.Call.TheVariants as Calls
use Rattle.request_form.specs.Replies.{reply_of, fault_count}
use Rattle.client_session.specs.Sessions.{session_of}
use Rattle.std.specs.Prelude.{sum_by}
use Rattle.workload_run.proofs.Updates.{waited_look, waited_both, rose_none}
use Rattle.workload_run.proofs.waiting.wait_for_room.Goals as goal

pub returns-then-held-ne0-clause-waited : goal.returns-then-held-ne0-clause-waited
returns-then-held-ne0-clause-waited g c =
    let s = session_of c.args.session.now in
    let mid = session_of c.status.new.self in
    let looked = waited_look c.calls_leave.ensures.looks s mid (Calls.Status c.args.blob) (reply_of c.status.result) c.status.ensures.answers in
    waited_both c.calls_leave.ensures.add s mid (session_of c.wait_for.new.session) looked c.wait_for.ensures.waited

pub returns-in_default : goal.returns-in_default
returns-in_default g c =
    record {
      waited = waited_look c.calls_leave.ensures.looks (session_of c.args.session.now) (session_of c.status.new.self) (Calls.Status c.args.blob) (reply_of c.status.result) c.status.ensures.answers;
      faults = rose_none (fault_count (reply_of c.status.result)) (sum_by g.D.Door.faults c.args.session.now.doors) (sum_by g.D.Door.faults c.status.new.self.doors) c.status.ensures.faults;
      goes_on = c.status.ensures.goes_on;
    }
