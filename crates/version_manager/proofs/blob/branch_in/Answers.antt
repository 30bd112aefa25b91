use Rattle.std.proofs.Common.{sym, subst, ap, ◌∙◌, arith}
use Rattle.std.proofs.lemmas.Result.{IfOk-weaker}
use Rattle.blob_model.specs.Store.{branch_of}
use Rattle.snapshot.specs.Versions.{under_blob}
use Rattle.publisher.specs.Windows.{Numbered, WindowState, window_on}
use Rattle.version_manager.specs.declared.waiting.WaitingUpdate.{WaitingUpdate}
use Rattle.version_manager.specs.DeskInvariant.{Keeps}
use Rattle.version_manager.proofs.Blobs.{branch_kept}
use Rattle.version_manager.proofs.blob.branch_in.Goals as goal

pub returns-clause-kept : goal.returns-clause-kept
returns-clause-kept c limits b k =
    let w = c.args.window.now.numbered in
    let P : Numbered → Type 0 = λ x. Keeps limits x (branch_of b c.args.version) in
    let is = c.stands.ensures.version in
    let made = c.in_ok-under.ensures ∙ ap (λ s. under_blob s c.args.new_id) c.in_ok-shared.ensures in
    IfOk-weaker c.new.result _ _ (λ (x : WindowState WaitingUpdate) e. subst P (sym (e ∙ ap window_on made)) (branch_kept limits w b k (omega arith) is c.args.version c.args.new_id c.requires)) c.new.ensures.numbered
