-- How long a connection is waited for.
use Rattle.std.specs.Prelude.{◌≡◌, ℕ, ◌*◌, ◌-◌, ◌/◌, ◌^◌, ◌<◌}

-- the nanoseconds that are left of a patience after the wait for so many bytes, of which each `rate` are worth a second
abbrev pub left_after : (patience waited bytes rate : ℕ) → ℕ
left_after patience waited bytes rate = patience - (waited - bytes / rate * 10 ^ 9)

-- a connection waits for what is left of a patience, and that is some time
pub record IsTold (timeout patience waited bytes rate : ℕ) : Type 0 where
  pub left : timeout ≡ left_after patience waited bytes rate
  pub some : 0 < timeout
