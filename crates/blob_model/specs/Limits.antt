use Rattle.std.specs.Prelude.{ℕ, ◌≤◌}

-- how much a store takes
pub record Bounds : Type 0 where
  pub max_size : ℕ
  pub max_versions : ℕ
  pub max_open : ℕ
  pub max_blobs : ℕ

-- the greatest bounds that a store may have
abbrev pub greatest : Bounds
greatest = record { max_size = 1099511627776; max_versions = 1048576; max_open = 64; max_blobs = 65535 }

-- no bound is past its greatest value
pub record IsWithin (bounds : Bounds) : Type 0 where
  pub size : bounds.max_size ≤ greatest.max_size
  pub versions : bounds.max_versions ≤ greatest.max_versions
  pub waiting : bounds.max_open ≤ greatest.max_open
  pub blobs : bounds.max_blobs ≤ greatest.max_blobs
