use Rattle.std.proofs.Common.{◌≡◌, refl, ap}
use Rattle.blob_model.specs.declared.call.Call.TheVariants as Calls
use Rattle.blob_model.specs.declared.call.Event.TheVariants as Events
use Rattle.blob_model.specs.declared.call.Event.{Event}
use Rattle.blob_model.specs.declared.call.Outcome.TheVariants as Outcomes
use Rattle.turn_lock.specs.Shown.{PassView}
use Rattle.version_manager.specs.Log.{Changed}
use Rattle.version_manager.specs.declared.journal.DeskFixed.{DeskFixed}
use Rattle.version_manager.specs.declared.fault.DeskFault.{DeskFault}
use Rattle.client_session.specs.Sessions.{longest}
use Rattle.client_session.proofs.Turns.{Took, took, went_changed}
use Rattle.client_session.proofs.Standing.{session_after}
use Rattle.client_session.proofs.Answering.{branch_told}
use Rattle.client_session.proofs.Memory.{changed_memory}
use Rattle.client_session.proofs.session.Session.branch.Goals as goal

pub invariant_of-self : goal.invariant_of-self
invariant_of-self g c =
    let i = c.self.inside in
    let by = i.pass.caller in
    let fixed = i.shared.now.fixed in
    let t : Took by i.pass.seen c.branch-desk.new.pass.seen (λ before after. Changed fixed (Calls.Branch c.args.blob c.args.version) (Events.Branch by c.args.blob c.args.version) (λ id. Outcomes.Blob id) (λ (x : DeskFault). x) before by c.branch-desk.result after) =
    took c.gaps_are_of_others.ensures fixed i.pass c.branch-desk.new.pass (λ before f after. Changed f (Calls.Branch c.args.blob c.args.version) (Events.Branch by c.args.blob c.args.version) (λ id. Outcomes.Blob id) (λ (x : DeskFault). x) before by c.branch-desk.result after) c.self.invariant.pass_is.fixed (λ before after x. x.log) c.branch-desk.ensures.turned
    in
    session_after g.D.Door.is_true i.shared.now i.pass c.branch-desk.new.pass i.doors i.room i.held i.next c.self.invariant c.branch-desk.ensures.pass
    (went_changed fixed by i.pass.seen c.branch-desk.new.pass.seen (Calls.Branch c.args.blob c.args.version) (Events.Branch by c.args.blob c.args.version) (λ id. Outcomes.Blob id) (λ (x : DeskFault). x) c.branch-desk.result t)

pub returns-clause-answers : goal.returns-clause-answers
returns-clause-answers g c =
    let i = c.self.inside in
    let by = i.pass.caller in
    let fixed = i.shared.now.fixed in
    let t : Took by i.pass.seen c.branch-desk.new.pass.seen (λ before after. Changed fixed (Calls.Branch c.args.blob c.args.version) (Events.Branch by c.args.blob c.args.version) (λ id. Outcomes.Blob id) (λ (x : DeskFault). x) before by c.branch-desk.result after) =
    took c.gaps_are_of_others.ensures fixed i.pass c.branch-desk.new.pass (λ before f after. Changed f (Calls.Branch c.args.blob c.args.version) (Events.Branch by c.args.blob c.args.version) (λ id. Outcomes.Blob id) (λ (x : DeskFault). x) before by c.branch-desk.result after) c.self.invariant.pass_is.fixed (λ before after x. x.log) c.branch-desk.ensures.turned
    in
    let same : c.branch-desk.new.pass.caller ≡ by = ap (λ (p : PassView Event DeskFixed). p.caller) c.branch-desk.ensures.pass in
    rw (← c.self.view_is, c.told.ensures.is, same) (branch_told fixed by i.pass.seen c.branch-desk.new.pass.seen i.held i.next (longest i.limit) c.args.blob c.args.version c.branch-desk.result t)

pub returns-clause-goes_on : goal.returns-clause-goes_on
returns-clause-goes_on g c =
    let i = c.self.inside in
    let by = i.pass.caller in
    let fixed = i.shared.now.fixed in
    let t : Took by i.pass.seen c.branch-desk.new.pass.seen (λ before after. Changed fixed (Calls.Branch c.args.blob c.args.version) (Events.Branch by c.args.blob c.args.version) (λ id. Outcomes.Blob id) (λ (x : DeskFault). x) before by c.branch-desk.result after) =
    took c.gaps_are_of_others.ensures fixed i.pass c.branch-desk.new.pass (λ before f after. Changed f (Calls.Branch c.args.blob c.args.version) (Events.Branch by c.args.blob c.args.version) (λ id. Outcomes.Blob id) (λ (x : DeskFault). x) before by c.branch-desk.result after) c.self.invariant.pass_is.fixed (λ before after x. x.log) c.branch-desk.ensures.turned
    in
    rw (← c.self.view_is) (record {
      store = refl;
      caller = ap (λ (p : PassView Event DeskFixed). p.caller) c.branch-desk.ensures.pass;
      begins = (went_changed fixed by i.pass.seen c.branch-desk.new.pass.seen (Calls.Branch c.args.blob c.args.version) (Events.Branch by c.args.blob c.args.version) (λ id. Outcomes.Blob id) (λ (x : DeskFault). x) c.branch-desk.result t).begins;
    })

pub returns-clause-rest : goal.returns-clause-rest
returns-clause-rest g c =
    let same : c.branch-desk.new.pass.caller ≡ c.self.inside.pass.caller = ap (λ (p : PassView Event DeskFixed). p.caller) c.branch-desk.ensures.pass in
    rw (← c.self.view_is, same) refl

pub returns-clause-memory : goal.returns-clause-memory
returns-clause-memory g c =
    let i = c.self.inside in
    let by = i.pass.caller in
    let fixed = i.shared.now.fixed in
    let t : Took by i.pass.seen c.branch-desk.new.pass.seen (λ before after. Changed fixed (Calls.Branch c.args.blob c.args.version) (Events.Branch by c.args.blob c.args.version) (λ id. Outcomes.Blob id) (λ (x : DeskFault). x) before by c.branch-desk.result after) =
    took c.gaps_are_of_others.ensures fixed i.pass c.branch-desk.new.pass (λ before f after. Changed f (Calls.Branch c.args.blob c.args.version) (Events.Branch by c.args.blob c.args.version) (λ id. Outcomes.Blob id) (λ (x : DeskFault). x) before by c.branch-desk.result after) c.self.invariant.pass_is.fixed (λ before after x. x.log) c.branch-desk.ensures.turned
    in
    let same : c.branch-desk.new.pass.caller ≡ by = ap (λ (p : PassView Event DeskFixed). p.caller) c.branch-desk.ensures.pass in
    rw (c.told.ensures.is, same) (changed_memory fixed by i.pass.seen c.branch-desk.new.pass.seen i.held i.next (longest i.limit) (Calls.Branch c.args.blob c.args.version) (Events.Branch by c.args.blob c.args.version) c.branch-desk.result t)
