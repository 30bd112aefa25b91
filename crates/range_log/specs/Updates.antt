use Rattle.std.specs.Prelude.{ℕ, ◌*◌, ◌<◌, ◌≤◌, zero, suc, List, [], length, take, drop, map, slice_index_or}
use Rattle.std.specs.List.{range_with_len}
use Rattle.blob_model.specs.Content.{Update, content, offset_of, size_of}
use Rattle.blob_model.specs.declared.call.Place.TheVariants.{Append}
use Rattle.tree_geom.specs.declared.node.Piece.{Piece}
use Rattle.range_log.specs.Extents.{Extent, no_extent}
use Rattle.range_log.specs.Rows.{leaf_from, leaf_len}

-- what stands in place of update 0, which there is none of
abbrev pub no_update : Update
no_update = record { caller = 0; place = Append; bytes = [] }

-- update number k, from 1
abbrev pub update_at : List Update → ℕ → Update
update_at us zero = no_update
update_at us (suc k) = slice_index_or us k no_update

-- where update number k falls, its place taken at the size before it, and how many bytes it has
abbrev pub extent_of : List Update → ℕ → Extent
extent_of us zero = no_extent
extent_of us (suc k) = record { at = offset_of (update_at us (suc k)).place (size_of us k); len = length (update_at us (suc k)).bytes }

-- those of all the updates
unfoldable pub extents : List Update → List Extent
extents us = map (λ k. extent_of us k) (range_with_len 1 (length us))

-- each update begins at or before the end of what is there, and has a byte
abbrev pub Replayable : List Update → Type 0
Replayable us = (k : ℕ) → k < length us → ((extent_of us (suc k)).at ≤ size_of us k) × (1 ≤ (extent_of us (suc k)).len)

-- the valid bytes of page i at version v
abbrev pub page_bytes : ℕ → List Update → ℕ → ℕ → List ℕ
page_bytes p us v i = take p (drop (i * p) (content us v))

-- the bytes of update k that lie in page i
abbrev pub own_bytes : ℕ → List Update → ℕ → ℕ → List ℕ
own_bytes p us k i = take (leaf_len p (extent_of us k) i) (drop (leaf_from p (extent_of us k) i) (update_at us k).bytes)

-- the bytes of a piece of an update's buffer, which is stored in pages of p bytes
abbrev pub piece_bytes : ℕ → List ℕ → Piece → List ℕ
piece_bytes p bytes piece = take piece.len (drop piece.from (take p (drop (piece.page * p) bytes)))
