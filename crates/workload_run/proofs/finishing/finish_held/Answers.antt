use Rattle.std.proofs.Common.{sym, subst}
use Rattle.client_session.specs.Sessions.{session_of}
use Rattle.workload_run.specs.Updates.{IsHindered}
use Rattle.workload_run.specs.declared.finishing.Stop.{Stop}
use Rattle.workload_run.proofs.Updates.{holds_waited}
use Rattle.workload_run.proofs.finishing.finish_held.Goals as goal

pub returns-in-Ok-clause-told : goal.returns-in-Ok-clause-told
returns-in-Ok-clause-told g c s place bytes none holds =
    (c.in-Ok.ensures.told s place bytes c.args.started.version none
    (holds_waited c.calls_leave.ensures.held c.args.blob c.args.started.ticket (session_of c.args.session.now) (session_of c.wait_for.new.session) c.wait_for.ensures.waited
    s place bytes c.args.started.version
    holds)).0

pub returns-in-Err-clause-told : goal.returns-in-Err-clause-told
returns-in-Err-clause-told g c s place bytes none holds =
    subst (λ (x : Stop). IsHindered s c.args.blob place bytes x.fault x.held (session_of c.finish_when_ready.new.session)) (sym c.at_finish.ensures)
    (c.in-Err.ensures.told s place bytes c.args.started.version none
    (holds_waited c.calls_leave.ensures.held c.args.blob c.args.started.ticket (session_of c.args.session.now) (session_of c.wait_for.new.session) c.wait_for.ensures.waited
    s place bytes c.args.started.version
    holds)).0
