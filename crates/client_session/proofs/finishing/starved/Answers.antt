use Rattle.std.proofs.Common.{refl, Ok, Err}
use Rattle.request_form.specs.declared.form.Fault.TheVariants as Faults
use Rattle.client_session.specs.Finishing.{NotWoven}
use Rattle.client_session.proofs.Finished.{look_failed, after_look, not_woven}
use Rattle.client_session.proofs.Memory.{desk_memory, left_waiting}
use Rattle.client_session.proofs.finishing.starved.Goals as goal

pub returns-in-Ok-clause-finishing : goal.returns-in-Ok-clause-finishing
returns-in-Ok-clause-finishing g c =
    let f = c.args.shared.now.fixed in
    let caller = c.args.pass.now.caller in
    let seen = c.fresh_ticket.new.pass.seen in
    let look = c.in-Ok.ensures.looked in
    after_look f caller c.args.pass.now.seen seen c.args.blob c.args.version (Ok c.in-Ok._ticket) (Err Faults.NoMemory) seen look
    (not_woven f caller seen c.args.blob c.args.version c.in-Ok._ticket look.ticket Faults.NoMemory (NotWoven.no_memory refl))

pub returns-in-Ok-clause-memory : goal.returns-in-Ok-clause-memory
returns-in-Ok-clause-memory g c = λ is.
    left_waiting c.args.shared.now.fixed c.args.pass.now.caller c.fresh_ticket.new.pass.seen c.args.blob c.args.version c.in-Ok.ensures.looked.ticket.unfinished

pub returns-in-Err-clause-finishing : goal.returns-in-Err-clause-finishing
returns-in-Err-clause-finishing g c =
    rw c.fault_of.ensures.is
    (look_failed c.args.shared.now.fixed c.args.pass.now.caller c.args.pass.now.seen c.fresh_ticket.new.pass.seen c.args.blob c.args.version c.in-Err.fault c.in-Err.ensures.looked)

pub returns-in-Err-clause-memory : goal.returns-in-Err-clause-memory
returns-in-Err-clause-memory g c = rw c.fault_of.ensures.is (desk_memory c.in-Err.fault _ c.in-Err.ensures.looked.memory)
