use Rattle.std.proofs.Common.{sym, subst}
use Rattle.std.specs.Prelude.{Ok}
use Rattle.client_session.specs.Sessions.{session_of}
use Rattle.workload_law.specs.declared.plan.Summary.{Summary}
use Rattle.workload_run.specs.Look.{SummaryEnds}
use Rattle.workload_run.proofs.Looks.{no_log, no_grid, summed}
use Rattle.workload_run.proofs.looking.read_summary.Goals as goal

pub returns-in-Err-clause-ends : goal.returns-in-Err-clause-ends
returns-in-Err-clause-ends g c = no_log c.args.plan.now (session_of c.args.session.now) c.in-Err.no_log (session_of c.look.new.session) c.in-Err.ensures.ends

pub returns-in-Err-look-clause-ends : goal.returns-in-Err-look-clause-ends
returns-in-Err-look-clause-ends g c =
    no_grid c.args.plan.now (session_of c.args.session.now) c.calls_leave.ensures.add (session_of c.look.new.session) c.in-Ok.log c.in-Ok.ensures.ends (session_of c.look-2.new.session) c.in-Err-look.no_grid
    c.in-Err-look.ensures.ends

pub returns-clause-ends : goal.returns-clause-ends
returns-clause-ends g c =
    let s = session_of c.args.session.now in
    let s' = session_of c.look-2.new.session in
    subst (λ (x : Summary). SummaryEnds c.args.plan.now (Ok x) s s') (sym c.sum_up.ensures)
    (summed c.args.plan.now s c.calls_leave.ensures.add (session_of c.look.new.session) c.in-Ok.log c.in-Ok.ensures.ends s' c.in-Ok-look.grid c.in-Ok-look.ensures.ends)
