use Rattle.std.proofs.Common.{◌≡◌, ap, arith}
use Rattle.client_session.proofs.Losses.{calm_lost, calm_repair}
use Rattle.client_session.proofs.Standing.{session_after}
use Rattle.client_session.proofs.Untouched.{same_anyway, if_row}
use Rattle.client_session.specs.Sessions.{SessionState}
use Rattle.client_session.proofs.session.Session.finish_at.Goals as goal

pub invariant_of-self : goal.invariant_of-self
invariant_of-self g c =
    let i = c.self.inside in
    session_after g.D.Door.is_true i.shared.now i.pass c.report.new.pass i.doors i.room i.held i.next c.self.invariant c.report.ensures.pass c.report.ensures.went

pub invariant_of-self-in-Err : goal.invariant_of-self-in-Err
invariant_of-self-in-Err g c =
    let i = c.self.inside in
    session_after g.D.Door.is_true i.shared.now i.pass c.starved.new.pass i.doors i.room i.held i.next c.self.invariant c.starved.ensures.pass c.starved.ensures.went

pub returns-in-Ok-Some-clause-failed : goal.returns-in-Ok-Some-clause-failed
returns-in-Ok-Some-clause-failed g c = λ o is. calm_repair c.report.result _ c.report.ensures.calm

pub returns-in-Err-clause-failed : goal.returns-in-Err-clause-failed
returns-in-Err-clause-failed g c = λ o is. calm_lost c.starved.result _ c.starved.ensures.calm

pub returns-in-Ok-Some-clause-untouched : goal.returns-in-Ok-Some-clause-untouched
returns-in-Ok-Some-clause-untouched g c = same_anyway c.report.result _ (ap (λ (x : SessionState g.row.D.Denot). x.doors) c.self.view_is)

pub returns-in-Err-clause-row_doors : goal.returns-in-Err-clause-row_doors
returns-in-Err-clause-row_doors g c = λ o is. if_row o.row (ap (λ (x : SessionState g.row.D.Denot). x.doors) c.self.view_is)

pub returns-in-Err-clause-row_most : goal.returns-in-Err-clause-row_most
returns-in-Err-clause-row_most g c = λ o is.
    let same : c.self.inside.pass.turns ≡ c.args.self.now.turns = ap (λ (x : SessionState g.row.D.Denot). x.turns) c.self.view_is in
    if_row o.row (record { least = omega (arith, same, c.starved.ensures.one_turn); most = omega (arith, same, c.starved.ensures.one_turn) })

pub returns-in-Ok-Some-clause-row_doors : goal.returns-in-Ok-Some-clause-row_doors
returns-in-Ok-Some-clause-row_doors g c = λ o is. if_row o.row (ap (λ (x : SessionState g.row.D.Denot). x.doors) c.self.view_is)

pub returns-in-Ok-Some-clause-row_most : goal.returns-in-Ok-Some-clause-row_most
returns-in-Ok-Some-clause-row_most g c = λ o is.
    let same : c.self.inside.pass.turns ≡ c.args.self.now.turns = ap (λ (x : SessionState g.row.D.Denot). x.turns) c.self.view_is in
    if_row o.row (record { least = omega (arith, same, c.report.ensures.one_turn); most = omega (arith, same, c.report.ensures.one_turn) })
