use Rattle.std.proofs.Common.{ℕ, sym, subst}
use Rattle.std.specs.Prelude.{Option, sum_by}
use Rattle.faults.specs.Counts.{RoseBy}
use Rattle.request_form.specs.declared.form.Fault.{Fault}
use Rattle.client_session.specs.Sessions.{session_of}
use Rattle.workload_run.specs.Left.{IsLeft}
use Rattle.workload_run.specs.Updates.{StandsAt}
use Rattle.workload_run.proofs.Updates.{stands_finished, stands_still}
use Rattle.workload_run.proofs.finishing.finish_last.Goals as goal

pub returns-in-Some-clause-stands : goal.returns-in-Some-clause-stands
returns-in-Some-clause-stands g c s place bytes none stops settled =
    let s' = session_of c.finish_when_ready.new.session in
    subst (λ (o : Option Fault). StandsAt s c.args.blob place bytes s' × IsLeft s c.args.blob place bytes o s') (sym c.unfinished.ensures.left)
    (stands_finished c.args.blob c.in-Some.ticket (session_of c.args.session.now) c.finish_when_ready.result s' c.finish_when_ready.ensures.told s place bytes none c.args.held c.in-Some.is stops)

pub returns-in-None-clause-stands : goal.returns-in-None-clause-stands
returns-in-None-clause-stands g c = stands_still c.args.blob c.args.held (session_of c.args.session.now) c.in-None.is

pub returns-in-Some-clause-faults : goal.returns-in-Some-clause-faults
returns-in-Some-clause-faults g c =
    let count = sum_by g.D.Door.faults in
    subst (λ (n : ℕ). RoseBy n (count c.args.session.now.doors) (count c.finish_when_ready.new.session.doors)) (sym c.unfinished.ensures.faults) c.finish_when_ready.ensures.faults
