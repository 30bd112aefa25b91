use Rattle.std.proofs.Common.{ap, ◌∙◌, arith}
use Rattle.store_sessions.proofs.Traffics
use Rattle.blob_model.specs.declared.call.Event.{Event}
use Rattle.turn_lock.specs.Shown.{OwnerView}
use Rattle.version_manager.specs.declared.journal.DeskFixed.{DeskFixed}
use Rattle.workload_run.proofs.Returns.{took, took_since}
use Rattle.workload_run.proofs.Stores.{looks_as}
use Rattle.workload_run.proofs.looking.look_back.Goals as goal

pub returns-clause-looks : goal.returns-clause-looks
returns-clause-looks g c =
    let s' = c.read_summary-told.new.session in
    let x = c.in-Ok.ensures in
    let e = c.end_session.ensures in
    let Of : Type 0 = OwnerView Event DeskFixed in
    looks_as c.entries_are_events.ensures c.loads_close.ensures.idle c.args.plan.now c.requires.sized c.requires.limits s' x.session
    (took_since x.given (took c.args.shared.now s'.caller s'.log c.open_session.new.owner c.end_session.new.owner e.counts e.begins e.own e.before e.owner))
    (ap (λ (o : Of). o.made) e.counts.1 ∙ ap (λ (o : Of). o.made) x.given) (omega (arith, e.counts.0, ap (λ (o : Of). o.out) x.given)) c.read_summary-told.result c.read_summary-told.ensures.ends

pub returns-clause-lent : goal.returns-clause-lent
returns-clause-lent g c =
    let hands_out = g.M.DoorMaker.hands_out in
    let takes_back = g.M.DoorMaker.takes_back in
    let p = c.args.shared.now.providers in
    Traffics.lent hands_out takes_back p c.args.maker.now c.end_session.new.maker c.read_summary-told.result
    (Traffics.went_back hands_out takes_back p c.args.maker.now c.open_session.new.maker c.end_session.new.maker c.in-Ok.ensures.handed_out c.end_session.ensures.taken_back)
