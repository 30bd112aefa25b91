use Rattle.std.specs.Prelude.{◌≡◌, []}
use Rattle.std.proofs.Common.{ℕ, ◌∙◌, ap, arith}
use Rattle.std.proofs.lemmas.List.{length-map}
use Rattle.blob_model.specs.declared.call.Event.{Event}
use Rattle.turn_lock.specs.Shown.{PassView, OwnerView}
use Rattle.version_manager.specs.Log.{events}
use Rattle.version_manager.specs.declared.journal.DeskFixed.{DeskFixed}
use Rattle.blobseer_run.proofs.Stores.{own_there}
use Rattle.blobseer_run.proofs.FilesStored.{first_named}
use Rattle.blobseer_run.proofs.filing.serve_store.Goals as goal

pub returns-clause-lines : goal.returns-clause-lines
returns-clause-lines g c =
    let served = c.serve_named-end in
    let pass = c.in-Ok.pass in
    let back = served.result.1 in
    let given = c.in-Ok.ensures in
    let made : c.pass.new.owner.made ≡ 1 = ap (λ (o : OwnerView Event DeskFixed). o.made) given.counts ∙ omega (arith, c.requires.no_pass) in
    let one : c.take_back.new.owner.made ≡ 1 = ap (λ (o : OwnerView Event DeskFixed). o.made) c.take_back.ensures.counts.1 ∙ made in
    let caller : pass.caller ≡ 1 = ap (λ (p : PassView Event DeskFixed). p.caller) given.pass ∙ omega (arith, c.requires.no_pass) in
    let none : pass.seen ≡ [] = ap (λ (p : PassView Event DeskFixed). p.seen) given.pass ∙ c.requires.new in
    let closed = c.in-Ok-close in
    let log = served.ensures.pass.log in
    record {
      events = events back.seen;
      own = own_there c.take_back.new.owner.made closed.desk.history c.take_back.new.owner.seen back.seen one closed.ensures.no_other closed.ensures.history c.take_back.ensures.begins.1 served.ensures.pass.log.tags;
      history = record { legal = log.legal; short = omega (arith, log.short, length-map back.seen (λ (x : ℕ × Event). x.1)); in_order = log.in_order };
      named = first_named c.args.shared _ _ _ _ _ _ _ _ pass.caller pass.seen caller none c.is_housed.ensures served.ensures.lines;
    }
