use Rattle.std.proofs.Common.{◌≤◌, Ok, Err, arith}
use Rattle.client_session.proofs.Finished.{report_turned, went_reported}
use Rattle.client_session.proofs.Memory.{report_memory}
use Rattle.client_session.proofs.finishing.report.Goals as goal

pub returns-in-Ok-clause-finishing : goal.returns-in-Ok-clause-finishing
returns-in-Ok-clause-finishing g c =
    let some : 1 ≤ c.args.ticket.now.version = let v = c.stands.ensures.version in omega arith in
    report_turned c.gaps_are_of_others.ensures c.args.shared.now.fixed c.args.pass.now c.finish.new.pass c.args.ticket.now some c.requires.may.ticket c.requires.may.in_order c.args.row (Ok c.in-Ok.published)
    c.requires.pass.fixed c.in-Ok.ensures.turned

pub returns-in-Err-clause-finishing : goal.returns-in-Err-clause-finishing
returns-in-Err-clause-finishing g c =
    let some : 1 ≤ c.args.ticket.now.version = let v = c.stands.ensures.version in omega arith in
    rw c.fault_of.ensures.is
    (report_turned c.gaps_are_of_others.ensures c.args.shared.now.fixed c.args.pass.now c.finish.new.pass c.args.ticket.now some c.requires.may.ticket c.requires.may.in_order c.args.row (Err (c.in-Err.fault, c.in-Err._row))
    c.requires.pass.fixed c.in-Err.ensures.turned)

pub returns-in-Ok-clause-went : goal.returns-in-Ok-clause-went
returns-in-Ok-clause-went g c =
    went_reported c.gaps_are_of_others.ensures c.args.shared.now.fixed c.args.pass.now c.finish.new.pass c.args.ticket.now c.args.row (Ok c.in-Ok.published) c.requires.pass.fixed c.in-Ok.ensures.turned

pub returns-in-Err-clause-went : goal.returns-in-Err-clause-went
returns-in-Err-clause-went g c =
    went_reported c.gaps_are_of_others.ensures c.args.shared.now.fixed c.args.pass.now c.finish.new.pass c.args.ticket.now c.args.row (Err (c.in-Err.fault, c.in-Err._row)) c.requires.pass.fixed c.in-Err.ensures.turned

pub returns-in-Err-clause-memory : goal.returns-in-Err-clause-memory
returns-in-Err-clause-memory g c =
    let some : 1 ≤ c.args.ticket.now.version = let v = c.stands.ensures.version in omega arith in
    rw c.fault_of.ensures.is
    (report_memory c.gaps_are_of_others.ensures c.args.shared.now.fixed c.args.pass.now c.finish.new.pass c.args.ticket.now some c.requires.may.ticket c.args.row (Err (c.in-Err.fault, c.in-Err._row))
    c.requires.pass.fixed c.in-Err.ensures.turned)
