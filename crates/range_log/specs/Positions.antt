-- The ranges of one height in a row.
use Rattle.std.specs.Prelude.{◌≡◌, ℕ, ◌+◌, ◌*◌, ◌/◌, ◌^◌, ◌≤◌, length}
use Rattle.tree_geom.specs.declared.touch.Touch.{Touch}
use Rattle.range_log.specs.Rows.{levels_of}

-- the ranges of so many bytes are those of height h, which is at most `height`: from and to are the numbers of the first and the
-- last that the touched pages meet, and upto is how many ranges of that height and below the row has
pub record IsLevelOf (p : ℕ) (t : Touch) (height h bytes from to upto : ℕ) : Type 0 where
  pub low : h ≤ height
  pub size : bytes ≡ p * 2 ^ h
  pub first : from ≡ t.first / 2 ^ h
  pub last : to ≡ t.last / 2 ^ h
  pub count : upto ≡ length (levels_of p t (h + 1))

-- no height up to that has ranges of so many bytes
abbrev pub NoLevelHas : ℕ → ℕ → ℕ → Type 0
NoLevelHas p height bytes = (h : ℕ) → h ≤ height → bytes ≡ p * 2 ^ h → ⊥
