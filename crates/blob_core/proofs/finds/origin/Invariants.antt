use Rattle.std.proofs.Common.{◌≡◌, ◌+◌, drop, length}
use Rattle.branching.specs.Parents.{origin_of}
use Rattle.blob_core.proofs.finds.origin.Given as goal

abbrev pub invariant-loop-parent : goal.invariant-loop-parent
invariant-loop-parent l = record {
  left : l.older + l.parent-index ≡ length l.lineage;
  rest : origin_of (drop l.parent-index l.lineage) l.own l.version ≡ origin_of l.lineage l.fn.blob l.version;
}
