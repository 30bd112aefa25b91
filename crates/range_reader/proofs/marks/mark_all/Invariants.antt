use Rattle.std.proofs.Common.{◌≡◌, ℕ, ◌<◌, get_or, false}
use Rattle.range_reader.proofs.marks.mark_all.Given as goal

abbrev pub invariant-loop-mark : goal.invariant-loop-mark
invariant-loop-mark l = (x : ℕ) → x < l.mark-index → get_or l.marks x false ≡ l.wanted
