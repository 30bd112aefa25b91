use Rattle.std.proofs.Common.{◌≡◌, ℕ, ◌+◌, ◌<◌, ◌≤◌, length, map, get_or, false, true}
use Rattle.std.specs.Prelude.{All, sum_by}
use Rattle.tree_geom.specs.Geometry.{page_range}
use Rattle.range_log.specs.Visits.{backs_of}
use Rattle.snapshot.specs.Versions.{HasNodeFor}
use Rattle.range_reader.specs.Faults.{CountsKept, IsLedTo}
use Rattle.range_reader.specs.Reading.{falls, page_in, IsLeafOf}
use Rattle.range_reader.proofs.Standing.{AreThere, AreIn}
use Rattle.range_reader.proofs.page.fill_along.Given as goal

-- the bytes before `first` are there, and those still wanted are in the page at the leaf of version `at`
abbrev pub invariant-loop-next : goal.invariant-loop-next
invariant-loop-next g l =
    let faults = g.D.Door.faults in
    let s = l.source.view.now in
    let p = s.page_size in
    let page = page_in s l.fn.head.version l.fn.head.page in
    record {
      within : l.first < length l.out;
      wanted : get_or l.marks l.first false ≡ true;
      before : (x : ℕ) → x < l.first → get_or l.marks x false ≡ false;
      has : HasNodeFor s l.version (page_range p l.fn.head.page);
      led : IsLedTo s l.fn.head.page l.version;
      leaf : IsLeafOf s l.version l.fn.head.page l.parts;
      ahead : l.steps + backs_of p (falls s) l.version l.fn.head.page ≤ l.fn.steps + backs_of p (falls s) l.fn.head.version l.fn.head.page;
      there : All g.D.Door.is_true l.fn.doors → AreThere page l.begin l.out l.marks;
      from : AreIn page (page_in s l.version l.fn.head.page) l.begin (length l.out) l.marks;
      kept : CountsKept (map faults l.fn.doors) (map faults l.doors) (sum_by faults l.fn.doors) (sum_by faults l.doors);
      count : length l.doors ≡ length l.fn.doors;
      truth : All g.D.Door.is_true l.fn.doors → All g.D.Door.is_true l.doors;
    }

abbrev pub decreases-loop-next : goal.decreases-loop-next
decreases-loop-next g l = l.version
