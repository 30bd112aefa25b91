use Rattle.std.proofs.Common.{ℕ, []}
use Rattle.blob_model.specs.declared.call.Call.TheVariants as Calls
use Rattle.blob_model.specs.declared.call.Event.TheVariants as Events
use Rattle.blob_model.specs.declared.call.Outcome.TheVariants as Outcomes
use Rattle.publisher.specs.Windows.{window_on}
use Rattle.version_manager.specs.Desks.{windows_and}
use Rattle.version_manager.specs.declared.fault.DeskFault.{DeskFault}
use Rattle.version_manager.proofs.Turns.{changed}
use Rattle.version_manager.proofs.acts.CreateActDesk.act.Goals as goal

pub returns-clause-gives : goal.returns-clause-gives
returns-clause-gives c =
    let d = c.args.state.now in
    let done = c.create-created.ensures in
    let before = c.stands.ensures in
    let after = c.stands-2.ensures in
    changed d c.create-created.new.self (Events.Create c.args.caller) c.create-created.result
    (λ (blob : ℕ). windows_and d (window_on record { blob = blob; page_size = d.page_size; rows = [] })) done.new done.same
    Calls.Create c.args.caller (λ (blob : ℕ). Outcomes.Blob blob) (λ (fault : DeskFault). fault) before.legal before.short before.in_order after.legal after.short after.in_order done.blob done.refused done.memory
