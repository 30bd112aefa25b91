use Rattle.std.proofs.Common.{◌≡◌, ℕ, false, refl, arith}
use Rattle.std.specs.Arc.{arc_value}
use Rattle.blob_model.specs.Store.{blob_at}
use Rattle.blob_model.specs.History.{is_refused}
use Rattle.blob_model.specs.declared.call.Call.TheVariants as Calls
use Rattle.blob_model.specs.declared.call.Event.TheVariants as Events
use Rattle.blob_model.specs.declared.call.Outcome.TheVariants as Outcomes
use Rattle.publisher.specs.Windows.{with_finished}
use Rattle.version_manager.specs.Desks.{OnNoMemory, store_now, outcome_now, windows_with, window_in}
use Rattle.version_manager.proofs.Finishing.{finish_goes}
use Rattle.version_manager.proofs.Results.{if_err, on_no_memory}
use Rattle.version_manager.proofs.Turns.{adds, changed, fixed_stays, finishes, ticket_here, row_here, order_here}
use Rattle.version_manager.proofs.acts.FinishActDesk.act.Goals as goal

pub finish-finished-requires-clause-ticket : goal.finish-finished-requires-clause-ticket
finish-finished-requires-clause-ticket c = ticket_here c.args.state.now c.args.self.ticket.now c.requires.ticket

pub finish-finished-requires-clause-row : goal.finish-finished-requires-clause-row
finish-finished-requires-clause-row c = row_here c.args.state.now c.args.self.ticket.now _ c.requires.row_for

pub finish-finished-requires-clause-in_order : goal.finish-finished-requires-clause-in_order
finish-finished-requires-clause-in_order c = order_here c.args.state.now c.args.self.ticket.now c.requires.in_order

pub returns-clause-gives : goal.returns-clause-gives
returns-clause-gives c =
    let d = c.args.state.now in
    let d' = c.finish-finished.new.self in
    let r = c.finish-finished.result in
    let t = c.args.self.ticket.now in
    let done = c.finish-finished.ensures in
    let before = c.stands.ensures in
    let after = c.stands-2.ensures in
    let event = Events.Finish c.args.caller t.blob t.version in
    let ws = λ (_ : ℕ). windows_with d t.blob (with_finished (window_in d t.blob) t.version (arc_value c.args.self.row)) in
    let same = if_err r _ (λ _. d' ≡ d) (λ e h. h.1) done.same in
    let ticket = ticket_here d t c.requires.ticket in
    let goes = finish_goes (store_now d) c.args.caller t.blob t.version (blob_at (store_now d) t.blob) refl (omega (arith, c.stands-3.ensures.version)) ticket.numbered in
    let memory = if_err r _ (λ e. OnNoMemory e.0 (is_refused (outcome_now d c.args.caller (Calls.Finish t.blob t.version)) ≡ false)) (λ e h. on_no_memory e.0 _ _ goes h) done.waits in (
      changed d d' event r ws done.new same (Calls.Finish t.blob t.version) c.args.caller (λ (published : ℕ). Outcomes.Published published) (λ e. e.0)
          before.legal before.short before.in_order after.legal after.short after.in_order done.published done.refused memory,
      finishes d d' t c.args.self.row r (fixed_stays d d' event r ws done.new same) done.unfinished done.finished done.already done.waits (if_err r _ (λ e. e.1 ≡ c.args.self.row) (λ e h. h.0) done.same),
    )

pub returns-clause-adds : goal.returns-clause-adds
returns-clause-adds c =
    let d = c.args.state.now in
    let d' = c.finish-finished.new.self in
    let r = c.finish-finished.result in
    let t = c.args.self.ticket.now in
    let done = c.finish-finished.ensures in
    let ws = λ (_ : ℕ). windows_with d t.blob (with_finished (window_in d t.blob) t.version (arc_value c.args.self.row)) in
    adds d d' (Events.Finish c.args.caller t.blob t.version) r ws done.new (if_err r _ (λ _. d' ≡ d) (λ e h. h.1) done.same)
