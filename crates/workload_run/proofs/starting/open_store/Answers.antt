use Rattle.std.proofs.Common.{ap, arith}
use Rattle.page_store.specs.Calls.{no_door}
use Rattle.store_sessions.proofs.Traffics
use Rattle.blob_model.specs.declared.call.Event.{Event}
use Rattle.turn_lock.specs.Shown.{OwnerView}
use Rattle.version_manager.specs.declared.journal.DeskFixed.{DeskFixed}
use Rattle.workload_run.proofs.Returns.{took, took_since}
use Rattle.workload_run.proofs.Stores.{opens_as}
use Rattle.workload_run.proofs.starting.open_store.Goals as goal

pub returns-clause-opens : goal.returns-clause-opens
returns-clause-opens g c =
    let s' = c.open_blobs-opened.new.session in
    let x = c.in-Ok-open_session.ensures in
    let e = c.end_session.ensures in
    let Of : Type 0 = OwnerView Event DeskFixed in
    opens_as c.entries_are_events.ensures c.loads_close.ensures.idle c.loads_close.ensures.own c.args.plan.now c.requires.limits s' x.session c.open_blobs-opened.ensures.goes_on.caller
    (took_since x.given (took c.args.shared.now s'.caller s'.log c.open_session.new.owner c.end_session.new.owner e.counts e.begins e.own e.before e.owner)) c.requires.no_pass
    (omega (arith, ap (λ (o : Of). o.made) e.counts.1, ap (λ (o : Of). o.made) x.given, c.requires.no_pass)) (omega (arith, e.counts.0, ap (λ (o : Of). o.out) x.given, c.requires.none_out))
    c.open_blobs-opened.result c.open_blobs-opened.ensures.ends

pub returns-in_default-clause-lent : goal.returns-in_default-clause-lent
returns-in_default-clause-lent g c = (0, no_door)

pub returns-clause-lent : goal.returns-clause-lent
returns-clause-lent g c =
    let hands_out = g.M.DoorMaker.hands_out in
    let takes_back = g.M.DoorMaker.takes_back in
    let p = c.args.shared.now.providers in
    Traffics.lent hands_out takes_back p c.args.maker.now c.end_session.new.maker c.open_blobs-opened.result
    (Traffics.went_back hands_out takes_back p c.args.maker.now c.open_session.new.maker c.end_session.new.maker c.in-Ok-open_session.ensures.handed_out c.end_session.ensures.taken_back)
