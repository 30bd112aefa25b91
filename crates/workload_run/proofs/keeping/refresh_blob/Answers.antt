use Rattle.std.proofs.Common.{◌∙◌, ap, subst, Err}
use Rattle.read_board.specs.declared.keeper.RefreshFault.{RefreshFault}
use Rattle.read_board.specs.Causes.{RefreshCause}
use Rattle.workload_run.proofs.Idling.{not_full, left_pending, hindered}
use Rattle.workload_run.proofs.keeping.refresh_blob.Goals as goal

pub unreachable-requires : goal.unreachable-requires
unreachable-requires g c =
    let b = c.in-Err-BoardFull in
    not_full c.args.keeper.now.all c.requires.may.of_one (c.refresh.ensures.full.0 (b.is ∙ ap (λ (f : RefreshFault). Err f) b.field-0-is))

pub returns-in-Err-Fault-clause-refreshes : goal.returns-in-Err-Fault-clause-refreshes
returns-in-Err-Fault-clause-refreshes g c =
    let x = c.in-Err-Fault.ensures in
    left_pending c.sessions_own.ensures.gaps c.args.keeper.now c.refresh.new.self c.args.session.now c.refresh.new.session c.requires.may x.hold x.looked x.goes_on x.board x.left

pub returns-in-Err-Fault-clause-hindered : goal.returns-in-Err-Fault-clause-hindered
returns-in-Err-Fault-clause-hindered g c =
    let x = c.in-Err-Fault.ensures in
    let s' = c.refresh.new.session in
    let cause = subst (λ (f : RefreshFault). RefreshCause s' 1 f) c.in-Err-Fault.field-0-is x.cause in
    hindered c.sessions_own.ensures.gaps c.args.keeper.now c.refresh.new.self c.args.session.now s' c.requires.may x.hold x.looked x.goes_on x.board c.in-Err-Fault.fault cause
