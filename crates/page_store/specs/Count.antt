-- Counts of faults.
use Rattle.std.specs.Prelude.{ℕ}
use Rattle.faults.specs.Counts.{RoseBy}

-- the count rose from one number to the other
abbrev pub HasRisen : ℕ → ℕ → Type 0
HasRisen before now = RoseBy 1 before now
