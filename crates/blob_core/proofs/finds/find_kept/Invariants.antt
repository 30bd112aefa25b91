use Rattle.std.proofs.Common.{◌≡◌, drop}
use Rattle.blob_core.specs.World.{kept_at}
use Rattle.blob_core.proofs.finds.find_kept.Given as goal

abbrev pub invariant-loop-entry : goal.invariant-loop-entry
invariant-loop-entry l = kept_at (drop l.entry-index l.updates) l.blob l.version ≡ kept_at l.updates l.blob l.version
