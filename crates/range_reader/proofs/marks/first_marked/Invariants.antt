use Rattle.std.proofs.Common.{◌≡◌, ℕ, ◌-◌, ◌<◌, ◌≤◌, get_or, length, false}
use Rattle.range_reader.proofs.marks.first_marked.Given as goal

abbrev pub invariant-loop-start : goal.invariant-loop-start
invariant-loop-start l = record {
  least : l.from ≤ l.start;
  most : l.start ≤ length l.marks;
  none : (x : ℕ) → l.from ≤ x → x < l.start → get_or l.marks x false ≡ l.wanted → ⊥;
}

abbrev pub decreases-loop-start : goal.decreases-loop-start
decreases-loop-start l = length l.marks - l.start

abbrev pub invariant-loop-byte : goal.invariant-loop-byte
invariant-loop-byte l = (x : ℕ) → l.from ≤ x → x < l.byte → get_or l.marks x false ≡ l.wanted → ⊥
