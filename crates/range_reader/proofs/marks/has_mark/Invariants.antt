use Rattle.std.proofs.Common.{◌≡◌, ℕ, ◌<◌, get_or, false}
use Rattle.range_reader.proofs.marks.has_mark.Given as goal

abbrev pub invariant-loop-mark : goal.invariant-loop-mark
invariant-loop-mark l = l.found ≡ false → (x : ℕ) → x < l.mark-index → get_or l.marks x false ≡ l.wanted → ⊥
