use Rattle.std.proofs.Common.{◌≡◌, refl, subst, ℕ, ◌≤◌, List, length, None, Some}
use Rattle.request_form.specs.Answers.{ranges_fault}
use Rattle.request_form.specs.declared.form.Fault.TheVariants as Faults
use Rattle.client_session.specs.Kept.{Found}
use Rattle.client_session.proofs.Kept.{found_there, kept_came, kept_before}
use Rattle.client_session.proofs.Losses.{ranges_lost}
use Rattle.client_session.proofs.ManyRanges.{opened_ranges, unopened_ranges, no_step_opened, visits_opened, too_long_together}
use Rattle.client_session.proofs.Memory.{found_all_within, ranges_unread}
use Rattle.client_session.proofs.session.Session.read_many.Goals as goal

pub returns-in-Err-clause-answers : goal.returns-in-Err-clause-answers
returns-in-Err-clause-answers g c =
    let is : ranges_fault 0 c.args.ranges.now ≡ Some (Faults.ReadTooLong c.in-Err.length) = subst (λ (rs : List (ℕ × ℕ)). ranges_fault 0 rs ≡ Some (Faults.ReadTooLong c.in-Err.length)) c.as_slice-pairs.ensures.is c.in-Err.ensures.too_long in
    too_long_together c.args.self.now c.args.blob c.args.version c.in-Err.length c.args.ranges.now is

pub returns-in-Err-come-clause-answers : goal.returns-in-Err-come-clause-answers
returns-in-Err-come-clause-answers g c =
    let few : ranges_fault 0 c.args.ranges.now ≡ None = subst (λ (rs : List (ℕ × ℕ)). ranges_fault 0 rs ≡ None) c.as_slice-pairs.ensures.is c.in-Ok.ensures.few in
    let some : 1 ≤ length c.args.ranges.now = c.as_slice-pairs.ensures.some in
    rw (c.unread.ensures.is, c.as_slice-pairs.ensures.is) (unopened_ranges c.args.self.now c.come.new.self c.args.blob c.args.version c.args.ranges.now few c.in-Err-come.fault some c.in-Err-come.ensures.coming)

pub returns-in-Ok-come-clause-answers : goal.returns-in-Ok-come-clause-answers
returns-in-Ok-come-clause-answers g c =
    let few : ranges_fault 0 c.args.ranges.now ≡ None = subst (λ (rs : List (ℕ × ℕ)). ranges_fault 0 rs ≡ None) c.as_slice-pairs.ensures.is c.in-Ok.ensures.few in
    let by = c.read_pairs.ensures.by in
    let found : Found c.args.self.now c.args.blob c.args.version by.v c.come.new.self = found_there c.args.self.now c.come.new.self c.args.blob c.args.version by.v c.come.ensures.coming by.found in
    opened_ranges c.args.self.now c.come.new.self c.args.blob c.args.version c.args.ranges.now few c.read_pairs.new.self by.v c.read_pairs.result found c.read_pairs.ensures.seen_stays
    (rw (← c.as_slice-pairs.ensures.is) by.reads)

pub returns-in-Ok-come-clause-failed : goal.returns-in-Ok-come-clause-failed
returns-in-Ok-come-clause-failed g c =
    let by = c.read_pairs.ensures.by in
    let found : Found c.args.self.now c.args.blob c.args.version by.v c.come.new.self = found_there c.args.self.now c.come.new.self c.args.blob c.args.version by.v c.come.ensures.coming by.found in
    ranges_lost g.D.Door.faults c.args.self.now c.come.new.self c.read_pairs.new.self c.args.blob c.args.version by.v found c.read_pairs.ensures.seen_stays
    c.args.ranges.now c.read_pairs.result (rw (← c.as_slice-pairs.ensures.is) by.failed)

pub returns-in-Ok-come-clause-steps : goal.returns-in-Ok-come-clause-steps
returns-in-Ok-come-clause-steps g c =
    let few : ranges_fault 0 c.args.ranges.now ≡ None = subst (λ (rs : List (ℕ × ℕ)). ranges_fault 0 rs ≡ None) c.as_slice-pairs.ensures.is c.in-Ok.ensures.few in
    let by = c.read_pairs.ensures.by in
    let found : Found c.args.self.now c.args.blob c.args.version by.v c.come.new.self = found_there c.args.self.now c.come.new.self c.args.blob c.args.version by.v c.come.ensures.coming by.found in
    visits_opened c.args.self.now c.come.new.self c.args.blob c.args.version c.args.ranges.now few c.read_pairs.new.self by.v found c.read_pairs.ensures.seen_stays
    c.args.steps.now c.read_pairs.new.steps (rw (← c.as_slice-pairs.ensures.is) by.steps)

pub returns-in-Ok-come-clause-no_step : goal.returns-in-Ok-come-clause-no_step
returns-in-Ok-come-clause-no_step g c =
    let few : ranges_fault 0 c.args.ranges.now ≡ None = subst (λ (rs : List (ℕ × ℕ)). ranges_fault 0 rs ≡ None) c.as_slice-pairs.ensures.is c.in-Ok.ensures.few in
    let by = c.read_pairs.ensures.by in
    let found : Found c.args.self.now c.args.blob c.args.version by.v c.come.new.self = found_there c.args.self.now c.come.new.self c.args.blob c.args.version by.v c.come.ensures.coming by.found in
    no_step_opened c.args.self.now c.come.new.self c.args.blob c.args.version c.args.ranges.now few c.read_pairs.new.self by.v found c.read_pairs.ensures.seen_stays
    c.args.steps.now c.read_pairs.new.steps (rw (← c.as_slice-pairs.ensures.is) by.no_step)

pub returns-in-Ok-come-clause-memory : goal.returns-in-Ok-come-clause-memory
returns-in-Ok-come-clause-memory g c =
    let by = c.read_pairs.ensures.by in
    let found : Found c.args.self.now c.args.blob c.args.version by.v c.come.new.self = found_there c.args.self.now c.come.new.self c.args.blob c.args.version by.v c.come.ensures.coming by.found in
    found_all_within c.args.self.now c.come.new.self c.read_pairs.new.self c.args.blob c.args.version by.v found c.read_pairs.ensures.seen_stays c.args.ranges.now c.read_pairs.result
    (rw (← c.as_slice-pairs.ensures.is) by.memory)

pub returns-in-Err-come-clause-memory : goal.returns-in-Err-come-clause-memory
returns-in-Err-come-clause-memory g c =
    rw (c.unread.ensures.is, c.as_slice-pairs.ensures.is) (ranges_unread c.args.self.now c.come.new.self c.args.blob c.args.version c.args.ranges.now c.in-Err-come.fault c.in-Err-come.ensures.coming)

pub returns-in-Err-clause-keeps : goal.returns-in-Err-clause-keeps
returns-in-Err-clause-keeps g c =
    let kept = (c.args.self.now).opened in
    kept_before (Faults.ReadTooLong c.in-Err.length) c.args.blob c.args.version kept kept refl refl

pub returns-in-Ok-come-clause-keeps : goal.returns-in-Ok-come-clause-keeps
returns-in-Ok-come-clause-keeps g c =
    kept_came c.come.new.self c.read_pairs.new.self (c.args.self.now).opened c.args.blob c.args.version c.read_pairs.result c.read_pairs.ensures.seen_stays c.in-Ok-come.ensures.coming.keeps

pub returns-in-Err-come-clause-keeps : goal.returns-in-Err-come-clause-keeps
returns-in-Err-come-clause-keeps g c =
    kept_before c.unread.result c.args.blob c.args.version (c.args.self.now).opened (c.come.new.self).opened c.unread.ensures.calm c.in-Err-come.ensures.coming.stays
