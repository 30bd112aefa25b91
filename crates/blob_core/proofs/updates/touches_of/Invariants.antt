use Rattle.std.proofs.Common.{◌≡◌, take}
use Rattle.blob_model.specs.Content.{size_of}
use Rattle.blob_core.specs.World.{log_of}
use Rattle.blob_core.proofs.updates.touches_of.Given as goal

abbrev pub invariant-loop-update : goal.invariant-loop-update
invariant-loop-update l = record {
  size : l.size ≡ size_of l.update-items l.update-index;
  log : l.log.items ≡ take l.update-index (log_of l.p l.update-items);
}
