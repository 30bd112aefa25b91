use Rattle.std.proofs.Common.{ℕ, Err, refl, sym, subst}
use Rattle.blob_model.specs.declared.call.Outcome.TheVariants as Outcomes
use Rattle.request_form.specs.declared.form.Fault.{Fault}
use Rattle.client_session.specs.Opening.{IsOfStore}
use Rattle.client_session.specs.Sessions.{StoreState}
use Rattle.client_session.proofs.Waiting.{goes_both}
use Rattle.read_board.specs.Refreshing.{Holds, IsNotThere, IsRecent}
use Rattle.read_board.proofs.Recent.{look, not_there, then_opened, not_opened, is_recent, holds_opened}
use Rattle.read_board.proofs.refreshing.open_recent.Goals as goal

pub returns-in-Ok-clause-looked : goal.returns-in-Ok-clause-looked
returns-in-Ok-clause-looked g c =
    then_opened c.args.session.now c.recent.new.self c.args.blob c.in-Recent.version c.in-Recent.size c.recent.ensures.goes_on c.in-Recent.ensures.answers c.open.new.self c.open.result c.open.ensures.opening c.in-Recent.ensures.rest

pub returns-in-Err-clause-looked : goal.returns-in-Err-clause-looked
returns-in-Err-clause-looked g c =
    then_opened c.args.session.now c.recent.new.self c.args.blob c.in-Recent.version c.in-Recent.size c.recent.ensures.goes_on c.in-Recent.ensures.answers c.open.new.self c.open.result c.open.ensures.opening c.in-Recent.ensures.rest

pub returns-in-Err-clause-cause : goal.returns-in-Err-clause-cause
returns-in-Err-clause-cause g c =
    not_opened c.args.session.now c.recent.new.self c.args.blob c.in-Recent.version c.in-Recent.size c.recent.ensures.goes_on c.in-Recent.ensures.answers c.open.new.self (Err c.in-Err.fault) c.in-Err.ensures.opening
    c.old_versions_stay.ensures c.in-Err.fault c.in-Err.ensures.opening.refused

pub returns-in-Refused-clause-looked : goal.returns-in-Refused-clause-looked
returns-in-Refused-clause-looked g c =
    look c.args.session.now c.recent.new.self c.args.blob (Outcomes.Refused c.in-Refused.refusal) c.in-Refused.ensures.answers c.in-Refused.ensures.rest

pub returns-in-Refused-clause-cause : goal.returns-in-Refused-clause-cause
returns-in-Refused-clause-cause g c =
    subst (λ (fault : Fault). IsNotThere c.recent.new.self c.args.blob fault) (sym c.of.ensures)
    (not_there c.args.session.now c.recent.new.self c.args.blob c.in-Refused.refusal c.recent.ensures.goes_on c.in-Refused.ensures.answers)

pub returns-in_default-clause-looked : goal.returns-in_default-clause-looked
returns-in_default-clause-looked g c = look c.args.session.now c.recent.new.self c.args.blob c.recent.result c.recent.ensures.answers c.recent.ensures.rest

pub returns-in_default-clause-cause : goal.returns-in_default-clause-cause
returns-in_default-clause-cause g c = IsNotThere.no_memory refl

pub returns-in-Ok-clause-goes_on : goal.returns-in-Ok-clause-goes_on
returns-in-Ok-clause-goes_on g c = goes_both c.args.session.now c.recent.new.self c.open.new.self c.recent.ensures.goes_on c.open.ensures.goes_on

pub returns-in-Err-clause-goes_on : goal.returns-in-Err-clause-goes_on
returns-in-Err-clause-goes_on g c = goes_both c.args.session.now c.recent.new.self c.open.new.self c.recent.ensures.goes_on c.open.ensures.goes_on

pub returns-in-Ok-clause-of_store : goal.returns-in-Ok-clause-of_store
returns-in-Ok-clause-of_store g c = subst (λ (store : StoreState). IsOfStore store c.in-Ok.snapshot) c.recent.ensures.goes_on.store c.in-Ok.ensures.opening.of_store

pub returns-in-Ok-clause-holds : goal.returns-in-Ok-clause-holds
returns-in-Ok-clause-holds g c =
    let mid = c.recent.new.self in
    let log = c.open.new.self.log in
    let opening = c.in-Ok.ensures.opening in
    subst (λ (store : StoreState). Holds store.fixed log (record { blob = c.args.blob; snapshot = c.in-Ok.snapshot })) c.recent.ensures.goes_on.store
    (holds_opened mid.store.fixed log mid.caller c.args.blob c.in-Recent.version c.in-Ok.snapshot opening.done opening.snapshot)

pub returns-in-Ok-clause-recent : goal.returns-in-Ok-clause-recent
returns-in-Ok-clause-recent g c =
    let s = c.args.session.now in
    let s' = c.open.new.self in
    subst (λ (version : ℕ). IsRecent s s' c.args.blob version) (sym c.in-Ok.ensures.opening.snapshot.rows)
    (is_recent s c.recent.new.self c.args.blob c.in-Recent.version c.in-Recent.size c.recent.ensures.goes_on c.in-Recent.ensures.answers s' c.open.result c.open.ensures.opening)
