use Rattle.std.proofs.Common.{ap, subst, List}
use Rattle.std.specs.Prelude.{sum_by}
use Rattle.faults.specs.Counts.{RoseBy}
use Rattle.blob_model.specs.declared.call.Call.TheVariants as Calls
use Rattle.request_form.specs.Replies.{reply_of, fault_count}
use Rattle.turn_lock.proofs.Histories.{begins_both}
use Rattle.client_session.specs.Sessions.{SessionState}
use Rattle.client_session.proofs.Waiting.{waits_start, waits_on, looks_on, rest_both, waited}
use Rattle.client_session.proofs.session.Session.sync_wait.Goals as goal

pub loop-init : goal.loop-init
loop-init g c = waits_start c.args.self.now

pub loop-preserved : goal.loop-preserved
loop-preserved g c =
    let e = c.sync-outcome.ensures in
    waits_on c.args.self.now c.loop.self c.sync-outcome.new.self (Calls.Sync c.args.blob c.args.version) (reply_of c.sync-outcome.result) c.loop.invariant e.answers e.rest e.one_turn e.goes_on.begins

pub returns-then-not-is_pending-clause-answers : goal.returns-then-not-is_pending-clause-answers
returns-then-not-is_pending-clause-answers g c =
    looks_on c.args.self.now c.loop.self c.sync-outcome.new.self (Calls.Sync c.args.blob c.args.version) (reply_of c.sync-outcome.result) c.loop.invariant c.sync-outcome.ensures.answers

pub returns-then-not-is_pending-clause-faults : goal.returns-then-not-is_pending-clause-faults
returns-then-not-is_pending-clause-faults g c =
    let f = g.D.Door.faults in
    let n = fault_count (reply_of c.sync-outcome.result) in
    let d = c.sync-outcome.new.self in
    subst (λ (doors : List g.row.D.Denot). RoseBy n (sum_by f doors) (sum_by f d.doors)) (ap (λ (s : SessionState g.row.D.Denot). s.doors) c.loop.invariant.rest) c.sync-outcome.ensures.faults

pub returns-then-not-is_pending-clause-goes_on : goal.returns-then-not-is_pending-clause-goes_on
returns-then-not-is_pending-clause-goes_on g c =
    let e = c.sync-outcome.ensures in
    let d = c.sync-outcome.new.self in
    waited c.args.self.now d (rest_both c.args.self.now c.loop.self d c.loop.invariant.rest e.rest) (begins_both (c.args.self.now).log (c.loop.self).log d.log c.loop.invariant.begins e.goes_on.begins)

pub returns-then-not-is_pending-clause-rest : goal.returns-then-not-is_pending-clause-rest
returns-then-not-is_pending-clause-rest g c = rest_both c.args.self.now c.loop.self c.sync-outcome.new.self c.loop.invariant.rest c.sync-outcome.ensures.rest

pub returns-then-not-is_pending-clause-settled : goal.returns-then-not-is_pending-clause-settled
returns-then-not-is_pending-clause-settled g c = c.is_pending.ensures c.if-not-is_pending.true
