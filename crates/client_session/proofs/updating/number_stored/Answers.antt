use Rattle.std.proofs.Common.{◌≡◌, List, Some, Result, Ok, Err, ℕ}
use Rattle.std.specs.Prelude.{IfOk}
use Rattle.std.specs.Arc.{arc_value}
use Rattle.blob_model.specs.declared.call.Call.TheVariants as Calls
use Rattle.blob_model.specs.declared.call.Event.{Event}
use Rattle.blob_model.specs.declared.call.Event.TheVariants as Events
use Rattle.blob_model.specs.declared.call.Outcome.TheVariants as Outcomes
use Rattle.blob_model.specs.declared.call.Place.{Place}
use Rattle.page_store.specs.Stored.{Cut, bytes_of_pages}
use Rattle.border_hints.specs.Numbered.{NumberedUpdate}
use Rattle.turn_lock.specs.Shown.{PassView, Turned}
use Rattle.version_manager.specs.Laws.{GapsAreOfOthers}
use Rattle.version_manager.specs.Log.{Changed, IsNewTicket}
use Rattle.version_manager.specs.declared.journal.DeskFixed.{DeskFixed}
use Rattle.version_manager.specs.declared.fault.DeskFault.{DeskFault}
use Rattle.client_session.specs.Sessions.{Went}
use Rattle.client_session.proofs.Numbered.{numbered, not_numbered}
use Rattle.client_session.proofs.Turns.{Took, took, went_changed}
use Rattle.client_session.proofs.updating.number_stored.Goals as goal

-- What a numbering did, of the history before it and after it.
module _ (f : DeskFixed) (caller blob : ℕ) (place : Place) (cut : Cut) (r : Result NumberedUpdate DeskFault) (before after : List (ℕ × Event)) where
  abbrev Entered : Type 0
  Entered =
      Changed f (Calls.Assign blob place (bytes_of_pages cut.pages)) (Events.Assign caller blob place (bytes_of_pages cut.pages))
      (λ (x : NumberedUpdate). Outcomes.Assigned x.version x.at x.size) (λ (x : DeskFault). x) before caller r after

  abbrev Numbers : Type 0
  Numbers = Entered × IfOk r (λ x. IsNewTicket f blob caller cut before after x)

-- The turn of a numbering, by what it gave.
module _ (others : GapsAreOfOthers) (f : DeskFixed) (v w : PassView Event DeskFixed) (fixed : v.fixed ≡ Some f) (blob : ℕ) (place : Place) (cut : Cut)
    (r : Result NumberedUpdate DeskFault) (turned : Turned (λ before g after. Numbers g v.caller blob place cut r before after) v w) where
  turn : Took v.caller v.seen w.seen (λ before after. Numbers f v.caller blob place cut r before after)
  turn = took others f v w (λ before g after. Numbers g v.caller blob place cut r before after) fixed (λ before after x. x.0.log) turned

  entered : Took v.caller v.seen w.seen (λ before after. Entered f v.caller blob place cut r before after)
  entered = record { gap = turn.gap; others = turn.others; gives = turn.gives.0 }

  went : Went f v.seen w.seen
  went =
      went_changed f v.caller v.seen w.seen (Calls.Assign blob place (bytes_of_pages cut.pages)) (Events.Assign v.caller blob place (bytes_of_pages cut.pages))
      (λ (x : NumberedUpdate). Outcomes.Assigned x.version x.at x.size) (λ (x : DeskFault). x) r entered

pub returns-in-Ok-clause-numbered : goal.returns-in-Ok-clause-numbered
returns-in-Ok-clause-numbered g c =
    let f = c.args.shared.now.fixed in
    let v = c.args.pass.now in
    let w = c.assign.new.pass in
    let cut : Cut = arc_value c.args.pages in
    numbered f v.caller v.seen w.seen c.args.blob c.args.place (bytes_of_pages cut.pages) cut c.in-Ok.ticket c.stands.ensures c.requires.ready.here
    (turn c.gaps_are_of_others.ensures f v w c.requires.pass.fixed c.args.blob c.args.place cut (Ok c.in-Ok.ticket) c.in-Ok.ensures.turned)

pub returns-clause-refused : goal.returns-clause-refused
returns-clause-refused g c =
    let f = c.args.shared.now.fixed in
    let v = c.args.pass.now in
    let w = c.assign.new.pass in
    let cut : Cut = arc_value c.args.pages in
    rw c.fault_of.ensures.is
    (not_numbered f v.caller v.seen w.seen c.args.blob c.args.place (bytes_of_pages cut.pages) (λ (x : NumberedUpdate). Outcomes.Assigned x.version x.at x.size)
    c.in-Err.fault (entered c.gaps_are_of_others.ensures f v w c.requires.pass.fixed c.args.blob c.args.place cut (Err c.in-Err.fault) c.in-Err.ensures.turned))

pub returns-in-Ok-clause-went : goal.returns-in-Ok-clause-went
returns-in-Ok-clause-went g c =
    went c.gaps_are_of_others.ensures c.args.shared.now.fixed c.args.pass.now c.assign.new.pass c.requires.pass.fixed c.args.blob c.args.place (arc_value c.args.pages)
    (Ok c.in-Ok.ticket) c.in-Ok.ensures.turned

pub returns-clause-went : goal.returns-clause-went
returns-clause-went g c =
    went c.gaps_are_of_others.ensures c.args.shared.now.fixed c.args.pass.now c.assign.new.pass c.requires.pass.fixed c.args.blob c.args.place (arc_value c.args.pages)
    (Err c.in-Err.fault) c.in-Err.ensures.turned

pub returns-in-Ok-clause-pages : goal.returns-in-Ok-clause-pages
returns-in-Ok-clause-pages g c =
    (turn c.gaps_are_of_others.ensures c.args.shared.now.fixed c.args.pass.now c.assign.new.pass c.requires.pass.fixed c.args.blob c.args.place (arc_value c.args.pages) (Ok c.in-Ok.ticket)
    c.in-Ok.ensures.turned).gives.1.pages_are
