use Rattle.std.specs.Prelude.{◌≡◌, ℕ, ◌+◌, ◌<◌, List, length, slice_index_or}
use Rattle.tree_geom.specs.Geometry.{no_touch}
use Rattle.range_log.specs.declared.open.OpenTouch.{OpenTouch}

-- what stands in place of an update past the last
abbrev pub no_open : OpenTouch
no_open = record { version = 0; touch = no_touch }

-- waiting update number i, from 0
abbrev pub open_at : List OpenTouch → ℕ → OpenTouch
open_at opens i = slice_index_or opens i no_open

-- each version is one above the one before it
abbrev pub Rises : List OpenTouch → Type 0
Rises opens = (i : ℕ) → i + 1 < length opens → (open_at opens (i + 1)).version ≡ (open_at opens i).version + 1
