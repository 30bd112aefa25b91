-- What a read of a snapshot speaks of.
use Rattle.std.specs.Prelude.{◌≡◌, ℕ, ◌+◌, ◌*◌, ◌<◌, ◌==◌, List, [], length, slice_index_or, slice_range, if◌then◌else◌}
use Rattle.std.specs.List.{sum_by}
use Rattle.blob_model.specs.Content.{content}
use Rattle.tree_geom.specs.declared.range.Range.{Range}
use Rattle.tree_geom.specs.declared.node.Node.{Node}
use Rattle.tree_geom.specs.Geometry.{left_half, right_half, height_of}
use Rattle.tree_geom.specs.Nodes.{start_of, first_of, second_of}
use Rattle.range_log.specs.Log.{newest_of}
use Rattle.range_log.specs.Updates.{page_bytes}
use Rattle.range_log.specs.Rows.{back_of, leaf_of}
use Rattle.range_log.specs.Visits.{visits, pages_met, backs_of}
use Rattle.range_log.specs.Depths.{depth_of}
use Rattle.page_store.specs.Stored.{Stored}
use Rattle.node_store.specs.UpdateRows.{stored_of}
use Rattle.snapshot.specs.Versions.{Version, row_at, updates_of, size_now}
pub use Rattle.snapshot.specs.Versions.{falls, log_of}
use Rattle.node_store.specs.declared.parts.LeafParts.{LeafParts}
use Rattle.range_reader.specs.declared.known.KnownNode.{KnownNode}

-- the newest update of the version that touches the range
abbrev pub newest_in : Version → Range → ℕ
newest_in s range = newest_of s.page_size (log_of s) (length s.rows) range

-- the bytes of the version
abbrev pub content_of : Version → List ℕ
content_of s = content (updates_of s) (length s.rows)

-- n of them, from byte o on
abbrev pub bytes_at : Version → ℕ → ℕ → List ℕ
bytes_at s o n = slice_range (content_of s) o (o + n)

-- how many nodes a read of n bytes at o may visit
abbrev pub bound : Version → ℕ → ℕ → ℕ
bound s o n = visits s.page_size (falls s) (length s.rows) o n

-- that part of it which the pages and the tree's height decide
abbrev pub bound_of_tree : Version → ℕ → ℕ → ℕ
bound_of_tree s o n = if n == 0 then 0 else 2 * length (pages_met s.page_size o n) + 2 * height_of s.page_size (size_now s)

-- how many backs lead from the leaves of the pages of n bytes at o
abbrev pub backs_in : Version → ℕ → ℕ → ℕ
backs_in s o n = sum_by (λ i. backs_of s.page_size (falls s) (length s.rows) i) (pages_met s.page_size o n)

-- the valid bytes of page i at version j
abbrev pub page_in : Version → ℕ → ℕ → List ℕ
page_in s j i = page_bytes s.page_size (updates_of s) j i

-- the leaf of page i in the row of update j
abbrev pub leaf_in : Version → ℕ → ℕ → Node
leaf_in s j i = leaf_of s.page_size (falls s) j i

-- the first byte of the page that this leaf has, and how many it has from there on
abbrev pub own_start : Version → ℕ → ℕ → ℕ
own_start s j i = start_of (leaf_in s j i)

abbrev pub own_len : Version → ℕ → ℕ → ℕ
own_len s j i = (first_of (leaf_in s j i)).len + (second_of (leaf_in s j i)).len

-- what stands in place of a stored page past the last
abbrev pub no_stored : Stored
no_stored = record { bytes = []; spots = [] }

-- the bytes of stored page q of update j
abbrev pub stored_bytes : Version → ℕ → ℕ → List ℕ
stored_bytes s j q = (slice_index_or (stored_of (row_at s.rows j)) q no_stored).bytes

-- these are the parts of the leaf of page i in the row of update j
pub record IsLeafOf (s : Version) (j i : ℕ) (parts : LeafParts) : Type 0 where
  pub start : parts.start ≡ own_start s j i
  pub first : parts.first ≡ first_of (leaf_in s j i)
  pub second : parts.second ≡ second_of (leaf_in s j i)
  pub back : parts.back ≡ back_of s.page_size (falls s) j i
  pub depth : parts.depth ≡ depth_of s.page_size (log_of s) j i

-- these are the links of the version's newest node of their range, if that has any byte
abbrev pub IsKnown : Version → KnownNode → Type 0
IsKnown s node = 0 < node.range.size
    → (node.left ≡ newest_of s.page_size (log_of s) (newest_in s node.range) (left_half node.range))
    × (node.right ≡ newest_of s.page_size (log_of s) (newest_in s node.range) (right_half node.range))
