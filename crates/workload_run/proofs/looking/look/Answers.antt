use Rattle.std.proofs.Common.{sym, subst}
use Rattle.blob_model.specs.History.{AllOther}
use Rattle.request_form.specs.Answers.{Answers}
use Rattle.request_form.specs.declared.form.Reply.{Reply}
use Rattle.request_form.specs.declared.form.Request.TheVariants as Requests
use Rattle.client_session.specs.Sessions.{session_of}
use Rattle.workload_run.proofs.Looks.{look_missing, look_read, look_unread}
use Rattle.workload_run.proofs.looking.look.Goals as goal

pub returns-in-Ok-content_of-clause-ends : goal.returns-in-Ok-content_of-clause-ends
returns-in-Ok-content_of-clause-ends g c =
    let mid = session_of c.recent.new.self in
    let s' = session_of c.answer.new.self in
    look_read c.calls_leave.ensures.add c.calls_leave.ensures.looks (session_of c.args.session.now) mid c.args.blob c.recent.result c.requires.none_held c.recent.ensures.answers
    c.in-Ok.version c.in-Ok.size (sym c.in-Ok.ensures) s' c.reads_are_short.ensures c.in-Ok-content_of.bytes
    (subst (λ (r : Reply). Answers AllOther mid (Requests.Read c.args.blob c.in-Ok.version 0 c.in-Ok.size) r s') c.in-Ok-content_of.ensures c.answer.ensures.answers)

pub returns-in-Err-content_of-clause-ends : goal.returns-in-Err-content_of-clause-ends
returns-in-Err-content_of-clause-ends g c =
    let mid = session_of c.recent.new.self in
    let s' = session_of c.answer.new.self in
    look_unread c.calls_leave.ensures.add c.calls_leave.ensures.looks (session_of c.args.session.now) mid c.args.blob c.recent.result c.requires.none_held c.recent.ensures.answers
    c.in-Ok.version c.in-Ok.size (sym c.in-Ok.ensures) s' c.in-Err-content_of.unread
    (subst (λ (r : Reply). Answers AllOther mid (Requests.Read c.args.blob c.in-Ok.version 0 c.in-Ok.size) r s') c.in-Err-content_of.ensures c.answer.ensures.answers)

pub returns-in-Err-clause-ends : goal.returns-in-Err-clause-ends
returns-in-Err-clause-ends g c =
    look_missing c.calls_leave.ensures.add c.calls_leave.ensures.looks (session_of c.args.session.now) (session_of c.recent.new.self) c.args.blob c.recent.result c.requires.none_held c.recent.ensures.answers
    c.in-Err.missing (sym c.in-Err.ensures)
