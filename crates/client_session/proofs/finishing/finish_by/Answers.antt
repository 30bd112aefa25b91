use Rattle.std.proofs.Common.{refl, List, subst}
use Rattle.std.specs.Arc.{arc_value}
use Rattle.boxcar.specs.Table.{Shelves}
use Rattle.tree_weaver.specs.Woven.{IsWoven}
use Rattle.client_session.proofs.Losses.{calm_lost, calm_repair}
use Rattle.client_session.proofs.Opened.{may_finish_woven}
use Rattle.client_session.proofs.Folding.{none_in_order}
use Rattle.client_session.proofs.Untouched.{same_anyway}
use Rattle.client_session.proofs.finishing.finish_by.Goals as goal

pub report-requires-clause-may : goal.report-requires-clause-may
report-requires-clause-may g c =
    let f = c.args.shared.now.fixed in
    may_finish_woven f c.args.pass.now.seen c.args.ticket.now (arc_value c.in-Ok-Some.row) c.requires.ticket
    (subst (λ (n : List Shelves). IsWoven n f.houses c.args.ticket.now (arc_value c.in-Ok-Some.row)) c.nodes.ensures
    ((rw c.in-Ok-Some.field-0-is at c.in-Ok-Some.ensures.woven) f.houses c.requires.ticket.here.pages))
    (none_in_order f c.args.pass.now.seen c.args.ticket.now c.requires.ticket.ticket (rw c.in-Ok-Some.field-0-is at c.in-Ok-Some.ensures.none_anew))

pub returns-in-Ok-Some-clause-failed : goal.returns-in-Ok-Some-clause-failed
returns-in-Ok-Some-clause-failed g c = calm_repair c.report.result _ c.report.ensures.calm

pub returns-in-Err-clause-failed : goal.returns-in-Err-clause-failed
returns-in-Err-clause-failed g c = calm_lost c.starved.result _ c.starved.ensures.calm

pub returns-in-Ok-Some-clause-untouched : goal.returns-in-Ok-Some-clause-untouched
returns-in-Ok-Some-clause-untouched g c = same_anyway c.report.result _ refl
