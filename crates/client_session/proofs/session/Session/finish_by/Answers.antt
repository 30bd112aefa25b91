use Rattle.std.proofs.Common.{◌≡◌, refl, ap}
use Rattle.blob_model.specs.declared.call.Event.{Event}
use Rattle.turn_lock.specs.Shown.{PassView}
use Rattle.version_manager.specs.declared.journal.DeskFixed.{DeskFixed}
use Rattle.client_session.proofs.Standing.{session_equipped}
use Rattle.client_session.proofs.session.Session.finish_by.Goals as goal

pub invariant_of-self : goal.invariant_of-self
invariant_of-self g c =
    let i = c.self.inside in
    let w = c.finish_by.ensures in
    session_equipped g.D.Door.is_true i.shared.now i.pass c.finish_by.new.pass i.held i.next i.doors c.finish_by.new.doors i.room c.finish_by.new.room c.self.invariant w.pass w.went w.ready

pub returns-clause-goes_on : goal.returns-clause-goes_on
returns-clause-goes_on g c =
    let w = c.finish_by.ensures in
    rw (← c.self.view_is) (record { store = refl; caller = ap (λ (p : PassView Event DeskFixed). p.caller) w.pass; begins = w.went.begins })

pub returns-clause-rest : goal.returns-clause-rest
returns-clause-rest g c =
    let same : c.finish_by.new.pass.caller ≡ c.self.inside.pass.caller = ap (λ (p : PassView Event DeskFixed). p.caller) c.finish_by.ensures.pass in
    rw (← c.self.view_is, same) refl
