use Rattle.std.proofs.Common.{sym, subst, ℕ, List, length, Result, arith}
use Rattle.request_form.specs.declared.form.Fault.{Fault}
use Rattle.client_session.specs.Opening.{ReadsRange}
use Rattle.client_session.proofs.RangeAnswers.{reads_range}
use Rattle.client_session.proofs.Losses.{range_lost}
use Rattle.client_session.proofs.session.Session.read_view.Goals as goal

pub returns-clause-reads : goal.returns-clause-reads
returns-clause-reads g c = λ us tells.
    let v = c.args.view.now in
    let x = c.read_range.ensures in
    subst (λ (said : Result (List ℕ) Fault). ReadsRange v.page_size us (length v.rows) c.args.offset c.args.count said) (sym c.range_told.ensures.is)
    (reads_range v c.args.offset c.args.count _ _ _ _ us tells c.read_range.result (omega (arith, c.if-count-gt-MAX_READ.false)) (x.bytes us tells) x.answers)

pub returns-clause-failed : goal.returns-clause-failed
returns-clause-failed g c = rw (c.range_told.ensures.is, ← c.self.view_is) (range_lost c.read_range.result _ c.read_range.ensures.answers.failed)
