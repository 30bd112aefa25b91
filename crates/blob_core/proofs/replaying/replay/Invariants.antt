use Rattle.std.proofs.Common.{◌≡◌, take}
use Rattle.blob_core.specs.World.{empty_world}
use Rattle.blob_core.specs.Steps.{AllAllowed, world_after}
use Rattle.blob_core.proofs.replaying.replay.Given as goal

abbrev pub invariant-loop-i : goal.invariant-loop-i
invariant-loop-i l = record {
  page : l.world.page ≡ l.fn.p;
  allowed : AllAllowed l.fn.p (empty_world l.fn.limits) (take l.i l.steps);
  world : l.world.world ≡ world_after l.fn.p (empty_world l.fn.limits) (take l.i l.steps);
}
