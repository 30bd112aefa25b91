use Rattle.std.proofs.Common.{◌≡◌, ◌∙◌, refl, sym, ap, arith}
use Rattle.request_form.specs.PublishedReads.{Range}
use Rattle.request_form.specs.declared.form.Fault.TheVariants as Faults
use Rattle.client_session.specs.Sessions.{StoreState, session_of}
use Rattle.client_session.specs.Kept.{Found}
use Rattle.client_session.proofs.Kept.{found_there, kept_came, kept_before}
use Rattle.client_session.proofs.Losses.{read_lost}
use Rattle.client_session.proofs.RangeAnswers.{opened_read, unopened_read}
use Rattle.client_session.proofs.Memory.{found_within, read_unread}
use Rattle.client_session.proofs.session.Session.read.Goals as goal

pub returns-in-Ok-clause-answers : goal.returns-in-Ok-clause-answers
returns-in-Ok-clause-answers g c =
    let by = c.read_kept.ensures.by in
    let found : Found c.args.self.now c.args.blob c.args.version by.v c.come.new.self = found_there c.args.self.now c.come.new.self c.args.blob c.args.version by.v c.come.ensures.coming by.found in
    opened_read c.args.self.now c.come.new.self c.args.blob c.args.version c.args.offset c.args.count (omega (arith, c.if-count-gt-MAX_READ.false)) c.read_kept.new.self by.v c.read_kept.result found c.read_kept.ensures.seen_stays by.reads

pub returns-in-Ok-clause-failed : goal.returns-in-Ok-clause-failed
returns-in-Ok-clause-failed g c =
    let by = c.read_kept.ensures.by in
    let found : Found c.args.self.now c.args.blob c.args.version by.v c.come.new.self = found_there c.args.self.now c.come.new.self c.args.blob c.args.version by.v c.come.ensures.coming by.found in
    read_lost g.D.Door.faults c.args.self.now c.come.new.self c.read_kept.new.self c.args.blob c.args.version by.v found c.read_kept.ensures.seen_stays c.args.offset c.args.count c.read_kept.result by.failed

pub returns-in-Ok-clause-stays : goal.returns-in-Ok-clause-stays
returns-in-Ok-clause-stays g c = λ history more seen published.
    let range : Range = record { blob = c.args.blob; version = c.args.version; offset = c.args.offset; count = c.args.count } in
    let limits = (session_of c.read_kept.new.self).fixed.limits in
    let store : (c.read_kept.new.self).store ≡ (c.args.self.now).store = ap (λ s. s.store) c.read_kept.ensures.seen_stays ∙ c.come.ensures.goes_on.store in
    c.published_reads_stay.ensures limits history range _ published record {
      before = session_of c.args.self.now;
      after = session_of c.read_kept.new.self;
      limits_are = ap (λ (s : StoreState). s.fixed.limits) (sym store);
      more = more;
      seen = seen;
      answered = returns-in-Ok-clause-answers g c;
    }

pub returns-in-Err-clause-answers : goal.returns-in-Err-clause-answers
returns-in-Err-clause-answers g c =
    rw c.unread.ensures.is (unopened_read c.args.self.now c.come.new.self c.args.blob c.args.version c.args.offset c.args.count (omega (arith, c.if-count-gt-MAX_READ.false)) c.in-Err.fault c.in-Err.ensures.coming)

pub returns-in-Err-clause-stays : goal.returns-in-Err-clause-stays
returns-in-Err-clause-stays g c = λ history more seen published.
    let range : Range = record { blob = c.args.blob; version = c.args.version; offset = c.args.offset; count = c.args.count } in
    let limits = (session_of c.come.new.self).fixed.limits in
    c.published_reads_stay.ensures limits history range _ published record {
      before = session_of c.args.self.now;
      after = session_of c.come.new.self;
      limits_are = ap (λ (s : StoreState). s.fixed.limits) (sym c.come.ensures.goes_on.store);
      more = more;
      seen = seen;
      answered = returns-in-Err-clause-answers g c;
    }

pub returns-in-Ok-clause-memory : goal.returns-in-Ok-clause-memory
returns-in-Ok-clause-memory g c =
    let by = c.read_kept.ensures.by in
    let found : Found c.args.self.now c.args.blob c.args.version by.v c.come.new.self = found_there c.args.self.now c.come.new.self c.args.blob c.args.version by.v c.come.ensures.coming by.found in
    found_within c.args.self.now c.come.new.self c.read_kept.new.self c.args.blob c.args.version by.v found c.read_kept.ensures.seen_stays c.args.offset c.args.count c.read_kept.result by.memory

pub returns-in-Err-clause-memory : goal.returns-in-Err-clause-memory
returns-in-Err-clause-memory g c =
    rw c.unread.ensures.is (read_unread c.args.self.now c.come.new.self c.args.blob c.args.version c.args.offset c.args.count c.in-Err.fault c.in-Err.ensures.coming)

pub returns-then-count-gt-MAX_READ-clause-keeps : goal.returns-then-count-gt-MAX_READ-clause-keeps
returns-then-count-gt-MAX_READ-clause-keeps g c =
    let kept = (c.args.self.now).opened in
    kept_before (Faults.ReadTooLong c.args.count) c.args.blob c.args.version kept kept refl refl

pub returns-in-Ok-clause-keeps : goal.returns-in-Ok-clause-keeps
returns-in-Ok-clause-keeps g c =
    kept_came c.come.new.self c.read_kept.new.self (c.args.self.now).opened c.args.blob c.args.version c.read_kept.result c.read_kept.ensures.seen_stays c.in-Ok.ensures.coming.keeps

pub returns-in-Err-clause-keeps : goal.returns-in-Err-clause-keeps
returns-in-Err-clause-keeps g c =
    kept_before c.unread.result c.args.blob c.args.version (c.args.self.now).opened (c.come.new.self).opened c.unread.ensures.calm c.in-Err.ensures.coming.stays
