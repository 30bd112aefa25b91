use Rattle.std.specs.Prelude.{ℕ, zero, suc, ◌+◌, ◌-◌, ◌^◌, ◌<◌, ◌≤◌, min}

-- A count didn't fall, and rose by at least n. A count stands still at the greatest u64, where it is read as having risen by as much as is asked.
pub record RoseBy (n before after : ℕ) : Type 0 where
  pub later : before ≤ after
  pub by : after < 2 ^ 64 - 1 → before + n ≤ after

-- a count that counts n more, up to the greatest u64
abbrev pub count_after : ℕ → ℕ → ℕ
count_after zero count = count
count_after (suc n) count = min (count + suc n) (2 ^ 64 - 1)
