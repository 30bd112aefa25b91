use Rattle.std.proofs.Common.{ℕ, ◌+◌, ◌<◌, ◌≤◌}
use Rattle.tree_geom.specs.Geometry.{page_range}
use Rattle.range_log.specs.Visits.{backs_of}
use Rattle.snapshot.specs.Versions.{HasNodeFor}
use Rattle.range_reader.specs.Filling.{AreAlike}
use Rattle.range_reader.specs.Faults.{IsLedTo}
use Rattle.range_reader.specs.Reading.{falls, page_in}
use Rattle.range_reader.specs.Holders.{IsReached}
use Rattle.range_reader.proofs.gap.first_with.Given as goal

-- the gap's bytes are the same in the page at the leaf of this version, and all leaves before it lack them
abbrev pub invariant-loop-gap : goal.invariant-loop-gap
invariant-loop-gap g l =
    let s = l.view in
    let p = s.page_size in
    record {
      upto : l.version ≤ l.from;
      has : HasNodeFor s l.version (page_range p l.page);
      reached : (b : ℕ) → l.gap.low ≤ b → b < l.gap.high → IsReached s l.page b l.from → IsReached s l.page b l.version;
      led : IsLedTo s l.page l.from → IsLedTo s l.page l.version;
      alike : AreAlike (page_in s l.from l.page) (page_in s l.version l.page) l.gap.low l.gap.high;
      ahead : l.steps + backs_of p (falls s) l.version l.page ≤ l.fn.steps + backs_of p (falls s) l.from l.page;
    }

abbrev pub decreases-loop-gap : goal.decreases-loop-gap
decreases-loop-gap g l = l.version
