use Rattle.std.proofs.Common.{◌≡◌, ℕ, ◌+◌, ◌%◌, ◌<◌, length, get_or}
use Rattle.workload_law.specs.Pieces.{cell_byte}
use Rattle.workload_law.proofs.pieces.cell.Given as goal

abbrev pub invariant-loop-index : goal.invariant-loop-index
invariant-loop-index l = record {
  first : l.first ≡ l.seed % 256 + l.worker % 256 + l.op % 256;
  long : length l.piece ≡ 16;
  made : (k : ℕ) → k < l.index → get_or l.piece k 0 ≡ cell_byte l.seed l.worker l.op k;
}
