use Rattle.std.proofs.Common.{◌≡◌, drop}
use Rattle.blob_core.specs.World.{fold_at}
use Rattle.blob_core.proofs.finds.find_fold.Given as goal

abbrev pub invariant-loop-entry : goal.invariant-loop-entry
invariant-loop-entry l = fold_at (drop l.entry-index l.folded) l.key.blob l.key.version l.key.page ≡ fold_at l.folded l.key.blob l.key.version l.key.page
