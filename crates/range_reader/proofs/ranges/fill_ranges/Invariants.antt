use Rattle.std.proofs.Common.{◌≡◌, ◌+◌, ◌≤◌, ◌++◌, List, length, map, take, drop}
use Rattle.std.specs.Prelude.{All, sum_by}
use Rattle.blob_model.specs.Content.{Update, content}
use Rattle.range_log.specs.Updates.{extents}
use Rattle.snapshot.specs.Laws.{TellUpdates}
use Rattle.range_reader.specs.Reading.{IsKnown}
use Rattle.range_reader.specs.Faults.{CountsKept}
use Rattle.range_reader.specs.Ranges.{joined, bytes_in, visits_of}
use Rattle.range_reader.proofs.ranges.fill_ranges.Given as goal

abbrev pub invariant-loop-range : goal.invariant-loop-range
invariant-loop-range g l = record {
  left : l.filled + bytes_in (drop l.range-index l.ranges) ≡ length l.fn.out;
  bytes : (us : List Update) → TellUpdates l.source.view.now.page_size us l.source.view.now.rows
      → take l.filled l.out ++ joined (content us (length l.source.view.now.rows)) (drop l.range-index l.ranges) ≡ joined (content us (length l.source.view.now.rows)) l.ranges;
  steps : (us : List Update) → TellUpdates l.source.view.now.page_size us l.source.view.now.rows
      → l.steps + visits_of l.source.view.now.page_size (extents us) (length l.source.view.now.rows) (drop l.range-index l.ranges)
      ≤ l.fn.steps + visits_of l.source.view.now.page_size (extents us) (length l.source.view.now.rows) l.ranges;
  kept : CountsKept (map g.D.Door.faults l.fn.doors) (map g.D.Door.faults l.doors) (sum_by g.D.Door.faults l.fn.doors) (sum_by g.D.Door.faults l.doors);
  doors : length l.doors ≡ length l.fn.doors;
  room : length l.room ≡ length l.fn.room;
  known : All (IsKnown l.source.view.now) l.known;
  truth : All g.D.Door.is_true l.doors;
}
