-- Which stored page holds a byte of a version.
use Rattle.std.specs.Prelude.{◌≡◌, ℕ, ◌+◌, ◌/◌, ◌%◌, ◌<◌, ◌≤◌, Some, slice_get}
use Rattle.tree_geom.specs.Geometry.{page_range}
use Rattle.tree_geom.specs.Nodes.{first_of, second_of}
use Rattle.range_log.specs.Rows.{back_of}
use Rattle.page_store.specs.Stored.{Stored}
use Rattle.node_store.specs.Parts.{piece_with}
use Rattle.node_store.specs.UpdateRows.{stored_of}
use Rattle.snapshot.specs.Versions.{Version, row_at}
use Rattle.range_reader.specs.Reading.{falls, newest_in, leaf_in, own_start, own_len}

-- The leaf of page i in the row of update j has byte b of the page: it is one of the bytes that the update writes there, or, where the
-- update stores the page anew, one of the page's valid bytes.
abbrev pub HasByte : Version → ℕ → ℕ → ℕ → Type 0
HasByte s j i b = (own_start s j i ≤ b) × (b < own_start s j i + own_len s j i)

-- the update of the newest leaf of page i, or of one to which the backs lead from there past leaves that lack byte b of the page
pub data IsReached (s : Version) (i b : ℕ) : ℕ → Type 0 where
  Newest : IsReached s i b (newest_in s (page_range s.page_size i))
  Older : (j : ℕ) → IsReached s i b j → ¬ HasByte s j i b → 1 ≤ back_of s.page_size (falls s) j i → IsReached s i b (back_of s.page_size (falls s) j i)

-- the number of the stored page, among those of update j, in which its leaf of page i has byte b
abbrev pub stored_with : Version → ℕ → ℕ → ℕ → ℕ
stored_with s j i b = (piece_with (own_start s j i) (first_of (leaf_in s j i)) (second_of (leaf_in s j i)) b).page

-- Byte `at` of the version is held by this stored page: the one in which the first leaf that has the byte has it, from the newest
-- leaf of its page along the backs.
pub record IsHolder (s : Version) (at : ℕ) (stored : Stored) : Type 0 where
  pub version : ℕ
  pub reached : IsReached s (at / s.page_size) (at % s.page_size) version
  pub has : HasByte s version (at / s.page_size) (at % s.page_size)
  pub is : slice_get (stored_of (row_at s.rows version)) (stored_with s version (at / s.page_size) (at % s.page_size)) ≡ Some stored
