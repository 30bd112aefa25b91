use Rattle.std.specs.Prelude.{ℕ, ◌+◌, ◌-◌, ◌*◌, ◌/◌, ◌^◌, ◌==◌, ◌&&◌, nat_lt, nat_le, zero, suc, true, false, List, [], ◌∷◌, ◌++◌, take, drop, if◌then◌else◌, option_map, length, Option, Some, None}
use Rattle.blob_model.specs.Content.{put}
use Rattle.blob_model.specs.Store.{Blob, blob_at}
use Rattle.blob_model.specs.Answer.{answer}
use Rattle.blob_model.specs.History.{is_refused}
use Rattle.blob_model.specs.declared.call.Call.TheVariants as Calls
use Rattle.blob_model.specs.declared.call.Outcome.{Outcome}
use Rattle.blob_model.specs.declared.call.Outcome.TheVariants as Outcomes
use Rattle.tree_geom.specs.declared.range.Range.{Range}
use Rattle.tree_geom.specs.declared.node.Node.{Node}
use Rattle.tree_geom.specs.declared.node.Piece.{Piece}
use Rattle.tree_geom.specs.Geometry.{tree_range, page_range, left_half, right_half, height_of}
use Rattle.tree_geom.specs.Nodes.{left_link, right_link, back_link, is_leaf, start_of, first_of, second_of}
use Rattle.range_log.specs.Extents.{size_after}
use Rattle.range_log.specs.Updates.{extents}
use Rattle.blob_core.specs.World.{World, fold_at, node_in, kept_at, origin, nth_page}

-- ---- what links lead to
-- a way on from a node: by one of its links, or by its back
pub data Way : Type 0 where
  to_left : Way
  to_right : Way
  to_back : Way

-- the version that a node leads to
abbrev pub version_on : Node → Way → ℕ
version_on n to_left = left_link n
version_on n to_right = right_link n
version_on n to_back = back_link n

-- the range of the node that it leads to
abbrev pub range_on : Range → Way → Range
range_on r to_left = left_half r
range_on r to_right = right_half r
range_on r to_back = r

-- the version and the range of a node
pub record VersionedRange : Type 0 where
  pub version : ℕ
  pub range : Range

-- where the ways lead from the node of version j for r, by the nodes that are there; version 0 where they end before
abbrev pub reached : World → ℕ → ℕ → Range → List Way → VersionedRange
reached w blob j r [] = record { version = j; range = r }
reached w blob j r (way ∷ ways) =
    elim (node_in w blob j r) [ None ↦ record { version = 0; range = r } | Some n ↦ reached w blob (version_on n way) (range_on r way) ways ]

-- ---- a read
-- what a walk brings: bytes, and how many nodes it visited
pub record Walked : Type 0 where
  pub bytes : List ℕ
  pub nodes : ℕ

abbrev pub nothing : Walked
nothing = record { bytes = []; nodes = 0 }

-- one walk and then another, and a node more
abbrev pub both : Walked → Walked → Walked
both a b = record { bytes = a.bytes ++ b.bytes; nodes = 1 + a.nodes + b.nodes }

-- the bytes of stored page q of version j, as its leaf of page i means it: those of the buffer's page, and past the buffer's
-- pages those of page i, which the update stored anew
abbrev pub stored_in : World → ℕ → ℕ → ℕ → List ℕ → ℕ → List ℕ
stored_in w blob j i pages q =
    if nat_lt q (length pages) then nth_page w.pages pages q
    else elim (fold_at w.folded (origin w blob j) j i) [ None ↦ [] | Some bytes ↦ bytes ]

-- the bytes of a piece of that leaf
abbrev pub bytes_of_piece : World → ℕ → ℕ → ℕ → List ℕ → Piece → List ℕ
bytes_of_piece w blob j i pages piece = take piece.len (drop piece.from (stored_in w blob j i pages piece.page))

-- the update's own bytes from `start` on, over older ones
abbrev pub over : Walked → ℕ → List ℕ → Walked
over older start own = record { bytes = put older.bytes start own; nodes = 1 + older.nodes }

-- The leaf of page i of version j: its pieces' bytes over those of the leaf that it leads back to, by at most `most` backs.
unfoldable pub leaf_walk : ℕ → ℕ → World → ℕ → ℕ → ℕ → Walked
leaf_walk zero p w blob j i = nothing
leaf_walk (suc most) p w blob j i =
    elim (node_in w blob j (page_range p i)) [
      | None ↦ nothing
      | Some n ↦
          elim (kept_at w.updates (origin w blob j) j) [
            | None ↦ nothing
            | Some kept ↦
                elim (is_leaf n) [
                  | false ↦ nothing
                  | true ↦
                      over
                      (let older : Walked = elim (back_link n == 0) [ true ↦ nothing | false ↦ leaf_walk most p w blob (back_link n) i ] in older)
                      (start_of n) (bytes_of_piece w blob j i kept.pages (first_of n) ++ bytes_of_piece w blob j i kept.pages (second_of n))
                ]
          ]
    ]

-- From the node of version j for range number q of height h: the bytes of the leaves of the pages first to last under it, by
-- links. A node is visited where its range meets these pages.
unfoldable pub tree_walk_from : ℕ → ℕ → World → ℕ → ℕ → ℕ → ℕ → ℕ → Walked
tree_walk_from zero p w blob j q first last = elim (nat_le q last && nat_le first q) [ true ↦ leaf_walk j p w blob j q | false ↦ nothing ]
tree_walk_from (suc h) p w blob j q first last =
    elim (nat_le (q * 2 ^ suc h) last && nat_lt first ((q + 1) * 2 ^ suc h)) [
      | true ↦
          elim (node_in w blob j (tree_range p (suc h) q)) [
            | None ↦ nothing
            | Some n ↦
                both (tree_walk_from h p w blob (left_link n) (2 * q) first last)
                (tree_walk_from h p w blob (right_link n) (2 * q + 1) first last)
          ]
      | false ↦ nothing
    ]

-- the valid bytes of page i of version v, from its root to the page's leaf
abbrev pub page_walk : ℕ → World → ℕ → Blob → ℕ → ℕ → List ℕ
page_walk p w blob b v i = (tree_walk_from (height_of p (size_after (extents b.updates) v)) p w blob v 0 i i).bytes

-- the count bytes from offset of what the leaves brought, which begins at page first
abbrev pub cut_out : ℕ → ℕ → ℕ → Walked → Walked
cut_out p offset count walked = record { bytes = take count (drop (offset - offset / p * p) walked.bytes); nodes = walked.nodes }

-- the read of some bytes of a version, from its root to the leaf of each page that they meet; none visits no node
unfoldable pub read_walk : ℕ → World → ℕ → Blob → ℕ → ℕ → ℕ → Walked
read_walk p w blob b version offset count =
    elim (count == 0) [
      | true ↦ nothing
      | false ↦
          cut_out p offset count
          (tree_walk_from (height_of p (size_after (extents b.updates) version)) p w blob version 0 (offset / p) ((offset + count - 1) / p))
    ]

-- ---- what is read
-- the bytes of a read's answer, none where the answer isn't the content
abbrev pub content_in : Outcome → Option (List ℕ)
content_in (Outcomes.Content bytes) = Some bytes
content_in _ = None

-- the bytes that a walk brings, none where the store refuses the read
abbrev pub walked_in : ℕ → World → ℕ → ℕ → ℕ → ℕ → Option (List ℕ)
walked_in p w blob version offset count =
    if is_refused (answer w.store 0 (Calls.Read blob version offset count)).1 then None
    else option_map (λ (b : Blob). (read_walk p w blob b version offset count).bytes) (blob_at w.store blob)
