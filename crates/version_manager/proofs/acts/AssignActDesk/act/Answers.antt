use Rattle.std.specs.Arc.{arc_value}
use Rattle.blob_model.specs.declared.call.Call.TheVariants as Calls
use Rattle.blob_model.specs.declared.call.Event.TheVariants as Events
use Rattle.blob_model.specs.declared.call.Outcome.TheVariants as Outcomes
use Rattle.page_store.specs.Stored.{bytes_of_pages}
use Rattle.border_hints.specs.Numbered.{NumberedUpdate, own_touch}
use Rattle.publisher.specs.Windows.{with_numbered}
use Rattle.version_manager.specs.Desks.{windows_with, window_in}
use Rattle.version_manager.specs.declared.fault.DeskFault.{DeskFault}
use Rattle.version_manager.proofs.Turns.{changed, fixed_stays, new_ticket}
use Rattle.version_manager.proofs.acts.AssignActDesk.act.Goals as goal

pub returns-clause-gives : goal.returns-clause-gives
returns-clause-gives c =
    let d = c.args.state.now in
    let d' = c.assign-assigned.new.self in
    let r = c.assign-assigned.result in
    let blob = c.args.self.blob in
    let place = c.args.self.place in
    let pages = arc_value c.args.self.pages.now in
    let bytes = bytes_of_pages pages.pages in
    let done = c.assign-assigned.ensures in
    let before = c.stands.ensures in
    let after = c.stands-2.ensures in
    let event = Events.Assign c.args.caller blob place bytes in
    let ws = λ (t : NumberedUpdate). windows_with d blob (with_numbered (window_in d blob) (own_touch t)) in (
      changed d d' event r ws done.new done.same (Calls.Assign blob place bytes) c.args.caller (λ (t : NumberedUpdate). Outcomes.Assigned t.version t.at t.size) (λ (fault : DeskFault). fault)
          before.legal before.short before.in_order after.legal after.short after.in_order done.assigned done.refused done.memory,
      new_ticket d d' c.args.caller blob pages r (fixed_stays d d' event r ws done.new done.same) done.numbering done.pages done.hints done.ticket done.unfinished,
    )
