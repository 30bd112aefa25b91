use Rattle.std.proofs.Common.{◌≡◌, ℕ, ◌+◌, ◌-◌, ◌<◌, ◌≤◌, length, map, get_or, true, false}
use Rattle.std.specs.Prelude.{All, sum_by}
use Rattle.range_reader.specs.Faults.{CountsKept}
use Rattle.range_reader.proofs.piece.fill_marked.Given as goal

-- the marked bytes before `first` are there, and no unmarked byte was written
abbrev pub invariant-loop-first : goal.invariant-loop-first
invariant-loop-first g l =
    let faults = g.D.Door.faults in
    record {
      within : l.first ≤ length l.out;
      found : l.first < length l.out → get_or l.marks l.first false ≡ true;
      marked : All g.D.Door.is_true l.fn.doors → (x : ℕ) → x < l.first → get_or l.marks x false ≡ true → get_or l.out x 0 ≡ get_or l.stored.bytes (l.from + x) 0;
      unmarked : (x : ℕ) → x < length l.out → get_or l.marks x false ≡ false → get_or l.out x 0 ≡ get_or l.fn.out x 0;
      kept : CountsKept (map faults l.fn.doors) (map faults l.doors) (sum_by faults l.fn.doors) (sum_by faults l.doors);
      count : length l.doors ≡ length l.fn.doors;
      truth : All g.D.Door.is_true l.fn.doors → All g.D.Door.is_true l.doors;
    }

abbrev pub decreases-loop-first : goal.decreases-loop-first
decreases-loop-first g l = length l.out - l.first
