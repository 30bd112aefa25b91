use Rattle.std.proofs.Common.{◌≡◌, ap, Result}
use Rattle.blob_model.specs.declared.call.Event.{Event}
use Rattle.snapshot.specs.Versions.{Version}
use Rattle.turn_lock.specs.Shown.{PassView as Seat}
use Rattle.version_manager.specs.Log.{Opened}
use Rattle.version_manager.specs.declared.journal.DeskFixed.{DeskFixed}
use Rattle.version_manager.specs.declared.fault.OpenFault.{OpenFault}
use Rattle.range_reader.specs.Opened.{all_kept}
use Rattle.client_session.specs.Sessions.{longest}
use Rattle.client_session.proofs.Turns.{Took, took, went_opened}
use Rattle.client_session.proofs.Standing.{session_after}
use Rattle.client_session.proofs.RangeAnswers.{opening_told, not_opened_told}
use Rattle.client_session.proofs.session.Session.snapshot_of.Goals as goal

pub invariant_of-self : goal.invariant_of-self
invariant_of-self g c =
    let i = c.self.inside in
    let by = i.pass.caller in
    let fixed = i.shared.now.fixed in
    let new = c.snapshot_of.new.pass in
    let r : Result Version OpenFault = c.snapshot_of.result in
    let t : Took by i.pass.seen new.seen (λ before after. Opened fixed c.args.blob c.args.version before by r after) =
    took c.gaps_are_of_others.ensures fixed i.pass new (λ before f after. Opened f c.args.blob c.args.version before by r after) c.self.invariant.pass_is.fixed (λ before after x. x.log) c.snapshot_of.ensures.turned
    in
    session_after g.D.Door.is_true i.shared.now i.pass new i.doors i.room i.held i.next c.self.invariant c.snapshot_of.ensures.pass (went_opened fixed by i.pass.seen new.seen c.args.blob c.args.version r t)

pub returns-clause-opening : goal.returns-clause-opening
returns-clause-opening g c =
    let i = c.self.inside in
    let by = i.pass.caller in
    let fixed = i.shared.now.fixed in
    let new = c.snapshot_of.new.pass in
    let r : Result Version OpenFault = c.snapshot_of.result in
    let t : Took by i.pass.seen new.seen (λ before after. Opened fixed c.args.blob c.args.version before by r after) =
    took c.gaps_are_of_others.ensures fixed i.pass new (λ before f after. Opened f c.args.blob c.args.version before by r after) c.self.invariant.pass_is.fixed (λ before after x. x.log) c.snapshot_of.ensures.turned
    in
    let same : new.caller ≡ by = ap (λ (p : Seat Event DeskFixed). p.caller) c.snapshot_of.ensures.pass in
    rw (← c.self.view_is, same, c.snapshot_of.ensures.one_turn) (opening_told (record { store = i.shared.now; caller = by; log = i.pass.seen; held = i.held; next = i.next; doors = i.doors; limit = longest i.limit; looks_first = i.looks_first; turns = i.pass.turns; opened = all_kept i.opened }) new.seen c.args.blob c.args.version r t)

pub returns-clause-not_opened : goal.returns-clause-not_opened
returns-clause-not_opened g c =
    let i = c.self.inside in
    let by = i.pass.caller in
    let fixed = i.shared.now.fixed in
    let new = c.snapshot_of.new.pass in
    let r : Result Version OpenFault = c.snapshot_of.result in
    let t : Took by i.pass.seen new.seen (λ before after. Opened fixed c.args.blob c.args.version before by r after) =
    took c.gaps_are_of_others.ensures fixed i.pass new (λ before f after. Opened f c.args.blob c.args.version before by r after) c.self.invariant.pass_is.fixed (λ before after x. x.log) c.snapshot_of.ensures.turned
    in
    rw (← c.self.view_is) (not_opened_told fixed by i.pass.seen new.seen c.args.blob c.args.version r t)
