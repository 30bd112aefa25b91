use Rattle.std.proofs.Common.{◌≡◌, refl, ap}
use Rattle.blob_model.specs.declared.call.Event.{Event}
use Rattle.turn_lock.specs.Shown.{PassView}
use Rattle.version_manager.specs.Log.{Looked}
use Rattle.version_manager.specs.Looks.{look_call}
use Rattle.version_manager.specs.declared.journal.DeskFixed.{DeskFixed}
use Rattle.client_session.specs.Sessions.{longest}
use Rattle.client_session.proofs.Turns.{Took, took, looked, went_looked}
use Rattle.client_session.proofs.Standing.{session_after}
use Rattle.client_session.proofs.session.Session.look.Goals as goal

pub invariant_of-self : goal.invariant_of-self
invariant_of-self g c =
    let i = c.self.inside in
    let by = i.pass.caller in
    let fixed = i.shared.now.fixed in
    let call = look_call c.args.look c.args.blob in
    let t : Took by i.pass.seen c.look.new.pass.seen (λ before after. Looked fixed call before by c.look.result after) =
    took c.gaps_are_of_others.ensures fixed i.pass c.look.new.pass (λ before f after. Looked f call before by c.look.result after) c.self.invariant.pass_is.fixed (λ before after x. x.log) c.look.ensures.turned
    in
    session_after g.D.Door.is_true i.shared.now i.pass c.look.new.pass i.doors i.room i.held i.next c.self.invariant c.look.ensures.pass
    (went_looked fixed by i.pass.seen c.look.new.pass.seen call c.look.result t)

pub returns-clause-answers : goal.returns-clause-answers
returns-clause-answers g c =
    let i = c.self.inside in
    let by = i.pass.caller in
    let fixed = i.shared.now.fixed in
    let call = look_call c.args.look c.args.blob in
    let t : Took by i.pass.seen c.look.new.pass.seen (λ before after. Looked fixed call before by c.look.result after) =
    took c.gaps_are_of_others.ensures fixed i.pass c.look.new.pass (λ before f after. Looked f call before by c.look.result after) c.self.invariant.pass_is.fixed (λ before after x. x.log) c.look.ensures.turned
    in
    let same : c.look.new.pass.caller ≡ by = ap (λ (p : PassView Event DeskFixed). p.caller) c.look.ensures.pass in
    rw (← c.self.view_is, same) (looked fixed by i.pass.seen c.look.new.pass.seen c.args.look c.args.blob c.look.result i.held i.next (longest i.limit) t)

pub returns-clause-rest : goal.returns-clause-rest
returns-clause-rest g c =
    let same : c.look.new.pass.caller ≡ c.self.inside.pass.caller = ap (λ (p : PassView Event DeskFixed). p.caller) c.look.ensures.pass in
    rw (← c.self.view_is, same) refl
