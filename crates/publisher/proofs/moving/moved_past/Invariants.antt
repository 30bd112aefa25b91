use Rattle.std.proofs.Common.{◌≡◌, ◌++◌, drop, map}
use Rattle.publisher.specs.Windows.{leading}
use Rattle.publisher.specs.WindowInvariant.{row_in}
use Rattle.publisher.proofs.moving.moved_past.Given as goal

abbrev pub invariant-loop-slot : goal.invariant-loop-slot
invariant-loop-slot g l = record {
  blob : l.snapshot.blob ≡ l.initial.snapshot.blob;
  page_size : l.snapshot.page_size ≡ l.initial.snapshot.page_size;
  rows : l.snapshot.rows ++ leading (map row_in (drop l.slot-index l.above)) ≡ l.initial.snapshot.rows ++ leading (map row_in l.above);
}
