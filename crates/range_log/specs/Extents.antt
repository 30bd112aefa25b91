use Rattle.std.specs.Prelude.{◌≡◌, ℕ, ◌+◌, ◌<◌, ◌≤◌, zero, suc, List, length, map, slice_index_or, max}
use Rattle.std.specs.List.{range_with_len}
use Rattle.tree_geom.specs.declared.touch.Touch.{Touch}
use Rattle.tree_geom.specs.Geometry.{touched_by}

-- where an update falls, and how many bytes it has
pub record Extent : Type 0 where
  pub at : ℕ
  pub len : ℕ

-- what stands in place of the extent of version 0, which has none
abbrev pub no_extent : Extent
no_extent = record { at = 0; len = 0 }

-- that of update number k, from 1
abbrev pub extent_at : List Extent → ℕ → Extent
extent_at us zero = no_extent
extent_at us (suc k) = slice_index_or us k no_extent

-- the blob's size after k updates: the end of the one that reaches furthest
abbrev pub size_after : List Extent → ℕ → ℕ
size_after us zero = 0
size_after us (suc k) = max (size_after us k) ((extent_at us (suc k)).at + (extent_at us (suc k)).len)

-- each update begins at or before the end of what is there, and has a byte
abbrev pub InBounds : List Extent → Type 0
InBounds us = (k : ℕ) → k < length us → ((extent_at us (suc k)).at ≤ size_after us k) × (1 ≤ (extent_at us (suc k)).len)

-- what update number k touches
abbrev pub touch_of : ℕ → List Extent → ℕ → Touch
touch_of p us k = touched_by p (extent_at us k).at (extent_at us k).len (size_after us k)

-- the log of the updates: what each touches, from update 1 on
unfoldable pub touches : ℕ → List Extent → List Touch
touches p us = map (λ k. touch_of p us k) (range_with_len 1 (length us))

-- the log is that of some updates in bounds
abbrev pub IsLog : ℕ → List Touch → Type 0
IsLog p log = (us : List Extent) × InBounds us × (log ≡ touches p us)
