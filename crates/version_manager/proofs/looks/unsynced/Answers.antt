use Rattle.std.proofs.Common.{[], ◌∷◌, Some, ap, ◌∙◌, arith}
use Rattle.std.proofs.lemmas.Bool.{lt-ltb, le-ltb}
use Rattle.blob_model.specs.Store.{assigned, published, held}
use Rattle.blob_model.specs.Answer.{not_numbered, pending}
use Rattle.blob_model.specs.declared.call.Refusal.TheVariants as Refusals
use Rattle.version_manager.proofs.Blobs.{assigned_is, published_is}
use Rattle.version_manager.proofs.BlobsTests.{first_hit, first_pass}
use Rattle.version_manager.proofs.looks.unsynced.Goals as goal

pub returns-then-version-published : goal.returns-then-version-published
returns-then-version-published c limits b k =
    let w = c.args.window.now.numbered in
    let v = c.args.version in
    let all = assigned_is limits w b k in
    let done = published_is limits w b k in
    ap (λ n. Some (Refusals.Pending v n)) (c.held_by.ensures limits b k)
    ∙ first_pass (not_numbered b v) (pending b v ∷ []) (Some (Refusals.Pending v (held b))) (le-ltb (assigned b) v (omega arith)) (first_hit (pending b v) [] (lt-ltb (published b) v (omega arith)))
