use Rattle.std.specs.Prelude.{◌≡◌, [], sum_by}
use Rattle.std.proofs.Common.{◌∙◌, ap, subst, arith}
use Rattle.blob_model.specs.declared.call.Event.{Event}
use Rattle.request_form.specs.Session.{Session}
use Rattle.turn_lock.specs.Shown.{PassView, OwnerView}
use Rattle.version_manager.specs.Log.{events}
use Rattle.version_manager.specs.declared.journal.DeskFixed.{DeskFixed}
use Rattle.server_core.specs.Served.{Input}
use Rattle.blobseer_run.specs.Serving.{ServedLines}
use Rattle.blobseer_run.proofs.Stores.{first_there, own_there}
use Rattle.blobseer_run.proofs.serving.serve_store.Goals as goal

pub returns-clause-lines : goal.returns-clause-lines
returns-clause-lines g c =
    let served = c.serve_session-end in
    let pass = c.in-Ok.pass in
    let back = served.result.1 in
    let given = c.in-Ok.ensures in
    let made : c.pass.new.owner.made ≡ 1 = ap (λ (o : OwnerView Event DeskFixed). o.made) given.counts ∙ omega (arith, c.requires.no_pass) in
    let one : c.take_back.new.owner.made ≡ 1 = ap (λ (o : OwnerView Event DeskFixed). o.made) c.take_back.ensures.counts.1 ∙ made in
    let caller : pass.caller ≡ 1 = ap (λ (p : PassView Event DeskFixed). p.caller) given.pass ∙ omega (arith, c.requires.no_pass) in
    let none : pass.seen ≡ [] = ap (λ (p : PassView Event DeskFixed). p.seen) given.pass ∙ c.requires.new in
    let io = c.args.io.now in
    let after = served.new.io in
    let before : Input = record { given = g.I.Ends.given io; left = g.I.Ends.left io; ends = g.I.Ends.ends io } in
    let later : Input = record { given = g.I.Ends.given after; left = g.I.Ends.left after; ends = g.I.Ends.ends after } in
    let L : Session → Type 0 = λ s. ServedLines (record { session = s; faults = sum_by g.D.Door.faults c.args.doors; written = g.I.Ends.written io }) before later (events back.seen) (sum_by g.D.Door.faults served.result.2) (g.I.Ends.written after) served.result.0 in
    record {
      seen = events back.seen;
      own = own_there c.take_back.new.owner.made c.in-Ok-close.desk.history c.take_back.new.owner.seen back.seen one c.in-Ok-close.ensures.no_other c.in-Ok-close.ensures.history c.take_back.ensures.begins.1 served.ensures.pass.log.tags;
      lines = subst L (first_there c.args.shared.fixed pass.caller pass.seen caller none) served.ensures.lines;
    }
