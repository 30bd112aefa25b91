use Rattle.std.proofs.Common.{◌≡◌, ◌-◌, ◌≤◌, ◌++◌, length}
use Rattle.blob_core.specs.World.{waiting_after}
use Rattle.blob_core.proofs.updates.waiting_above.Given as goal

abbrev pub invariant-loop-below : goal.invariant-loop-below
invariant-loop-below l = record {
  above : l.published ≤ l.below;
  rest : l.waiting.items ++ waiting_after l.log l.published (l.below - l.published) ≡ waiting_after l.log l.published (length l.log - l.published);
}
