use Rattle.std.proofs.Common.{[], sym, subst, ap, ◌∙◌}
use Rattle.std.proofs.lemmas.Result.{IfOk-weaker}
use Rattle.publisher.specs.Windows.{Numbered, WindowState, window_on}
use Rattle.version_manager.specs.declared.waiting.WaitingUpdate.{WaitingUpdate}
use Rattle.version_manager.specs.DeskInvariant.{Keeps}
use Rattle.version_manager.proofs.Blobs.{first_kept}
use Rattle.version_manager.proofs.blob.first_in.Goals as goal

pub returns-clause-kept : goal.returns-clause-kept
returns-clause-kept c limits =
    let P : Numbered → Type 0 = λ w. Keeps limits w record { updates = []; finished = [] } in
    IfOk-weaker c.new.result _ _ (λ (w : WindowState WaitingUpdate) e. subst P (sym (e ∙ ap window_on c.in_ok-empty.ensures)) (first_kept limits c.args.id c.args.p)) c.new.ensures.numbered
