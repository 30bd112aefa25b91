use Rattle.std.proofs.Common.{◌≡◌, ◌+◌, ◌<◌, ◌≤◌, length, map}
use Rattle.std.specs.Prelude.{All, sum_by}
use Rattle.tree_geom.specs.Geometry.{page_range}
use Rattle.range_log.specs.Visits.{backs_of}
use Rattle.snapshot.specs.Versions.{HasNodeFor}
use Rattle.range_reader.specs.Faults.{CountsKept, IsLedTo}
use Rattle.range_reader.specs.Reading.{falls, page_in, IsLeafOf}
use Rattle.range_reader.specs.Filling.{AreAlike, IsMetBy}
use Rattle.range_reader.proofs.Narrowing.{AllBut}
use Rattle.range_reader.proofs.page.fill_ends.Given as goal

-- all bytes but those of the gap are there, and these are in the page at the leaf of version `at`
abbrev pub invariant-loop-parts : goal.invariant-loop-parts
invariant-loop-parts g l =
    let faults = g.D.Door.faults in
    let s = l.source.view.now in
    let p = s.page_size in
    let page = page_in s l.fn.head.version l.fn.head.page in
    record {
      low : l.begin ≤ l.gap.low;
      some : l.gap.low < l.gap.high;
      high : l.gap.high ≤ l.begin + length l.out;
      has : HasNodeFor s l.version (page_range p l.fn.head.page);
      led : IsLedTo s l.fn.head.page l.version;
      leaf : IsLeafOf s l.version l.fn.head.page l.parts;
      met : IsMetBy l.gap.low l.gap.high l.parts;
      ahead : l.steps + backs_of p (falls s) l.version l.fn.head.page ≤ l.fn.steps + backs_of p (falls s) l.fn.head.version l.fn.head.page;
      there : All g.D.Door.is_true l.fn.doors → AllBut page l.begin l.gap.low l.gap.high l.out;
      alike : AreAlike page (page_in s l.version l.fn.head.page) l.gap.low l.gap.high;
      kept : CountsKept (map faults l.fn.doors) (map faults l.doors) (sum_by faults l.fn.doors) (sum_by faults l.doors);
      count : length l.doors ≡ length l.fn.doors;
      truth : All g.D.Door.is_true l.fn.doors → All g.D.Door.is_true l.doors;
    }

abbrev pub decreases-loop-parts : goal.decreases-loop-parts
decreases-loop-parts g l = l.version
