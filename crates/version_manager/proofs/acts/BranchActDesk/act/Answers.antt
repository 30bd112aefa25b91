use Rattle.std.proofs.Common.{ℕ}
use Rattle.blob_model.specs.declared.call.Call.TheVariants as Calls
use Rattle.blob_model.specs.declared.call.Event.TheVariants as Events
use Rattle.blob_model.specs.declared.call.Outcome.TheVariants as Outcomes
use Rattle.snapshot.specs.Versions.{older_version, under_blob}
use Rattle.publisher.specs.Windows.{window_on, version_of}
use Rattle.version_manager.specs.Desks.{windows_and, window_in}
use Rattle.version_manager.specs.declared.fault.DeskFault.{DeskFault}
use Rattle.version_manager.proofs.Turns.{changed}
use Rattle.version_manager.proofs.acts.BranchActDesk.act.Goals as goal

pub returns-clause-gives : goal.returns-clause-gives
returns-clause-gives c =
    let d = c.args.state.now in
    let blob = c.args.self.blob in
    let version = c.args.self.version in
    let done = c.branch-branched.ensures in
    let before = c.stands.ensures in
    let after = c.stands-2.ensures in
    changed d c.branch-branched.new.self (Events.Branch c.args.caller blob version) c.branch-branched.result
    (λ (id : ℕ). windows_and d (window_on (under_blob (older_version (version_of (window_in d blob)) version) id))) done.new done.same
    (Calls.Branch blob version) c.args.caller (λ (id : ℕ). Outcomes.Blob id) (λ (fault : DeskFault). fault) before.legal before.short before.in_order after.legal after.short after.in_order done.blob done.refused done.memory
