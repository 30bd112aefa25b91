-- How counts that rise go on, alone and in sums.
use Rattle.std.proofs.Common.{ℕ, ◌+◌, arith}
use Rattle.faults.specs.Counts.{RoseBy}

pub RoseBy-trans : (n m a b c : ℕ) → RoseBy n a b → RoseBy m b c → RoseBy (n + m) a c
RoseBy-trans n m a b c p q = record { later = omega arith; by = λ h. omega (arith, p.by, q.by) }
