use Rattle.std.proofs.Common.{◌≡◌, ap, subst, ℕ, Result, Ok, Err, arith}
use Rattle.std.specs.Arc.{arc_value}
use Rattle.turn_lock.specs.Shown.{PassView}
use Rattle.blob_model.specs.declared.call.Event.{Event}
use Rattle.version_manager.specs.declared.journal.DeskFixed.{DeskFixed}
use Rattle.request_form.specs.declared.form.Fault.{Fault}
use Rattle.client_session.specs.Finishing.{Finishing}
use Rattle.client_session.proofs.Finished.{look_failed, after_look, not_woven}
use Rattle.client_session.proofs.Folding.{fresh_in_order}
use Rattle.client_session.proofs.Losses.{anew_lost, calm_lost, calm_repair}
use Rattle.client_session.proofs.Opened.{may_finish_woven}
use Rattle.turn_lock.proofs.Histories.{begins_both}
use Rattle.client_session.proofs.RangeAnswers.{rose_none}
use Rattle.client_session.proofs.Untouched.{too_late}
use Rattle.client_session.proofs.Memory.{desk_memory, left_waiting}
use Rattle.client_session.proofs.finishing.finish_fresh.Goals as goal

pub returns-in-Err-clause-finishing : goal.returns-in-Err-clause-finishing
returns-in-Err-clause-finishing g c =
    rw c.fault_of.ensures.is
    (look_failed c.args.shared.now.fixed c.args.pass.now.caller c.args.pass.now.seen c.fresh_ticket.new.pass.seen c.args.update.blob c.args.update.version c.in-Err.fault c.in-Err.ensures.looked)

pub returns-in-Err-woven_or_why-clause-finishing : goal.returns-in-Err-woven_or_why-clause-finishing
returns-in-Err-woven_or_why-clause-finishing g c =
    let f = c.args.shared.now.fixed in
    let caller = c.args.pass.now.caller in
    let seen = c.fresh_ticket.new.pass.seen in
    let look = c.in-Ok.ensures.looked in
    after_look f caller c.args.pass.now.seen seen c.args.update.blob c.args.update.version (Ok c.in-Ok.ticket) (Err c.in-Err-woven_or_why.fault) seen look
    (not_woven f caller seen c.args.update.blob c.args.update.version c.in-Ok.ticket look.ticket c.in-Err-woven_or_why.fault c.in-Err-woven_or_why.ensures.why)

pub report-requires-clause-may : goal.report-requires-clause-may
report-requires-clause-may g c =
    let f = c.args.shared.now.fixed in
    let seen = c.fresh_ticket.new.pass.seen in
    let look = c.in-Ok.ensures.looked in
    let woven = c.in-Ok-woven_or_why.ensures in
    may_finish_woven f seen c.in-Ok.ticket (arc_value c.in-Ok-woven_or_why.row) look.here woven.woven (fresh_in_order f seen c.args.update.blob c.args.update.version c.in-Ok.ticket look.ticket woven.knows)

pub returns-clause-finishing : goal.returns-clause-finishing
returns-clause-finishing g c =
    let f = c.args.shared.now.fixed in
    let caller = c.args.pass.now.caller in
    let seen = c.fresh_ticket.new.pass.seen in
    let seen' = c.report.new.pass.seen in
    let look = c.in-Ok.ensures.looked in
    let said : Result ℕ Fault = c.report.result in
    let same : c.fresh_ticket.new.pass.caller ≡ caller = ap (λ (p : PassView Event DeskFixed). p.caller) c.fresh_ticket.ensures.pass in
    let a : Finishing f caller seen c.in-Ok.ticket.blob c.in-Ok.ticket.version said seen' = subst (λ (k : ℕ). Finishing f k seen c.in-Ok.ticket.blob c.in-Ok.ticket.version said seen') same c.report.ensures.finishing in
    let b : Finishing f caller seen c.args.update.blob c.in-Ok.ticket.version said seen' = subst (λ (n : ℕ). Finishing f caller seen n c.in-Ok.ticket.version said seen') look.ticket.blob_is a in
    let d : Finishing f caller seen c.args.update.blob c.args.update.version said seen' = subst (λ (n : ℕ). Finishing f caller seen c.args.update.blob n said seen') look.ticket.version_is b in
    after_look f caller c.args.pass.now.seen seen c.args.update.blob c.args.update.version (Ok c.in-Ok.ticket) said seen' look d

pub returns-in-Err-clause-failed : goal.returns-in-Err-clause-failed
returns-in-Err-clause-failed g c = calm_lost _ _ c.fault_of.ensures.calm

pub returns-in-Err-woven_or_why-clause-failed : goal.returns-in-Err-woven_or_why-clause-failed
returns-in-Err-woven_or_why-clause-failed g c =
    let w = c.in-Err-woven_or_why.ensures in
    anew_lost c.args.shared.now c.fresh_ticket.new.pass.seen c.args.update.blob c.args.update.version c.in-Ok.ticket c.in-Ok.ensures.looked.ticket _ _ c.in-Err-woven_or_why.fault w.why w.failed

pub returns-clause-failed : goal.returns-clause-failed
returns-clause-failed g c = calm_repair c.report.result _ c.report.ensures.calm

pub returns-clause-went : goal.returns-clause-went
returns-clause-went g c =
    let w = c.report.ensures.went in
    record { begins = begins_both c.args.pass.now.seen c.fresh_ticket.new.pass.seen c.report.new.pass.seen c.fresh_ticket.ensures.went.begins w.begins; log_is = w.log_is }

pub returns-clause-risen : goal.returns-clause-risen
returns-clause-risen g c = rose_none _ _ _ c.report.ensures.calm c.in-Ok-woven_or_why.ensures.risen.later

pub returns-in-Err-woven_or_why-clause-untouched : goal.returns-in-Err-woven_or_why-clause-untouched
returns-in-Err-woven_or_why-clause-untouched g c = λ r. c.in-Err-woven_or_why.ensures.untouched r.plain

pub returns-clause-untouched : goal.returns-clause-untouched
returns-clause-untouched g c = too_late c.report.result 2 c.args.pass.now.turns c.report.new.pass.turns _ (omega (arith, c.fresh_ticket.ensures.one_turn, c.report.ensures.one_turn))

pub returns-in-Err-clause-memory : goal.returns-in-Err-clause-memory
returns-in-Err-clause-memory g c = rw c.fault_of.ensures.is (desk_memory c.in-Err.fault _ c.in-Err.ensures.looked.memory)

pub returns-in-Err-woven_or_why-clause-memory : goal.returns-in-Err-woven_or_why-clause-memory
returns-in-Err-woven_or_why-clause-memory g c = λ is.
    left_waiting c.args.shared.now.fixed c.args.pass.now.caller c.fresh_ticket.new.pass.seen c.args.update.blob c.args.update.version c.in-Ok.ensures.looked.ticket.unfinished
