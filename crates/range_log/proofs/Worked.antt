-- Worked rows and visit bounds, from the definitions alone. Where no page is stored anew, they are the same over each fold
-- number.
use Rattle.std.specs.Prelude.{◌≡◌, ℕ, List, [], ◌∷◌, refl, length, map, replicate}
use Rattle.std.specs.List.{range_with_len, sum_by}
use Rattle.tree_geom.specs.declared.range.Range.{Range}
use Rattle.tree_geom.specs.declared.node.Node.{Node}
use Rattle.tree_geom.specs.declared.node.Node.TheVariants.{Inner, Leaf}
use Rattle.tree_geom.specs.declared.node.Piece.{Piece}
use Rattle.tree_geom.specs.Geometry.{height_of, doublings}
use Rattle.range_log.specs.Log.{newest_of}
use Rattle.range_log.specs.Extents.{Extent, touches, size_after}
use Rattle.tree_geom.specs.Nodes.{no_piece}
use Rattle.range_log.specs.Rows.{row_by, row_keys_of, levels_of, level_of, back_by, folds_by, leaf_by}
use Rattle.range_log.specs.Depths.{depth_by}
use Rattle.range_log.specs.Visits.{backs_by, backs_from, visits_by, pages_met}

-- n bytes at a place
abbrev w : ℕ → ℕ → Extent
w at n = record { at = at; len = n }

abbrev at_range : ℕ → ℕ → Range
at_range o s = record { offset = o; size = s }

abbrev piece : ℕ → ℕ → ℕ → Piece
piece page from n = record { page = page; from = from; len = n }

abbrev one_piece : ℕ → Piece → ℕ → ℕ → Node
one_piece start first back depth = Leaf start 1 first no_piece depth back

abbrev two_pieces : ℕ → Piece → Piece → ℕ → ℕ → Node
two_pieces start first second back depth = Leaf start 2 first second depth back

-- both fold numbers
abbrev both : List ℕ
both = 0 ∷ 16 ∷ []

-- 6 bytes, and then 2 bytes at 3
abbrev joined : List Extent
joined = w 0 6 ∷ w 3 2 ∷ []

abbrev row-of_joined : List (Range × Node)
row-of_joined = (at_range 0 8, Inner 2 2) ∷ (at_range 0 4, one_piece 3 (piece 0 0 1) 1 1) ∷ (at_range 4 4, one_piece 0 (piece 0 1 1) 1 1) ∷ []

row-joined : map (λ fold. row_by fold 4 joined 2) both ≡ row-of_joined ∷ row-of_joined ∷ []
unfolding newest_of touches row_keys_of levels_of level_of back_by folds_by depth_by height_of doublings
row-joined = refl

-- three appends of 4, 4 and 1 bytes
abbrev appended : List Extent
appended = w 0 4 ∷ w 4 4 ∷ w 8 1 ∷ []

abbrev row-of_appended : List (Range × Node)
row-of_appended = (at_range 0 16, Inner 2 3) ∷ (at_range 8 8, Inner 3 0) ∷ (at_range 8 4, one_piece 0 (piece 0 0 1) 0 0) ∷ []

row-appended : map (λ fold. row_by fold 4 appended 3) both ≡ row-of_appended ∷ row-of_appended ∷ []
unfolding newest_of touches row_keys_of levels_of level_of back_by folds_by depth_by height_of doublings
row-appended = refl

-- one byte, and then 31
abbrev grown : List Extent
grown = w 0 1 ∷ w 1 31 ∷ []

abbrev leaves-of_grown : List Node
leaves-of_grown = one_piece 1 (piece 0 0 3) 1 1 ∷ two_pieces 0 (piece 0 3 1) (piece 1 0 3) 0 0 ∷ two_pieces 0 (piece 1 3 1) (piece 2 0 3) 0 0 ∷ []

leaves-grown : map (λ fold. map (λ i. leaf_by fold 4 grown 2 i) (range_with_len 0 3)) both ≡ leaves-of_grown ∷ leaves-of_grown ∷ []
unfolding newest_of touches back_by folds_by depth_by
leaves-grown = refl

nodes-grown : map (λ fold. length (row_by fold 4 grown 2)) both ≡ 15 ∷ 15 ∷ []
unfolding newest_of touches row_keys_of levels_of level_of back_by folds_by depth_by height_of doublings
nodes-grown = refl

-- the pages, the height, the backs and the visit bound, of n bytes from o on at version v
abbrev steps : ℕ → ℕ → List Extent → ℕ → ℕ → ℕ → List ℕ
steps fold p us v o n =
    length (pages_met p o n) ∷ height_of p (size_after us v) ∷ sum_by (λ i. backs_by fold p us v i) (pages_met p o n) ∷ visits_by fold p us v o n ∷ []

abbrev some_steps : ℕ → List (List ℕ)
some_steps fold =
    steps fold 4 (w 0 6 ∷ w 6 2 ∷ []) 2 4 4 ∷ steps fold 4 grown 2 0 32 ∷ steps fold 4 appended 3 0 9 ∷ steps fold 4 (w 0 4 ∷ w 0 1 ∷ w 1 1 ∷ []) 3 0 4
    ∷ steps fold 4 joined 2 0 6 ∷ steps fold 4096 (w 0 1048576 ∷ []) 1 0 1048576 ∷ []

abbrev told : List (List ℕ)
told =
    (1 ∷ 1 ∷ 1 ∷ 5 ∷ []) ∷ (8 ∷ 3 ∷ 1 ∷ 23 ∷ []) ∷ (3 ∷ 2 ∷ 0 ∷ 10 ∷ []) ∷ (1 ∷ 0 ∷ 2 ∷ 4 ∷ []) ∷ (2 ∷ 1 ∷ 2 ∷ 8 ∷ []) ∷ (256 ∷ 8 ∷ 0 ∷ 528 ∷ []) ∷ []

steps-are : map some_steps both ≡ told ∷ told ∷ []
unfolding newest_of touches row_keys_of levels_of level_of back_by depth_by backs_by backs_from height_of doublings
steps-are = refl

-- how deep the leaves of page 0 lie, version by version
abbrev depths : ℕ → List Extent → List ℕ
depths fold us = map (λ v. depth_by fold 4 (touches 4 us) v 0) (range_with_len 1 (length us))

-- 4 bytes, and then one at 0 and one at 1; 1 byte, and then 3 that fill the page without covering it; 6 bytes, and then 2 at
-- 3; 4 bytes written three times, whole the second time
abbrev some_depths : ℕ → List (List ℕ)
some_depths fold =
    depths fold (w 0 4 ∷ w 0 1 ∷ w 1 1 ∷ []) ∷ depths fold (w 0 1 ∷ w 1 3 ∷ []) ∷ depths fold joined
    ∷ depths fold (w 0 4 ∷ w 1 1 ∷ w 0 4 ∷ w 3 1 ∷ []) ∷ []

abbrev told_depths : List (List ℕ)
told_depths = (0 ∷ 1 ∷ 2 ∷ []) ∷ (0 ∷ 1 ∷ []) ∷ (0 ∷ 1 ∷ []) ∷ (0 ∷ 1 ∷ 0 ∷ 1 ∷ []) ∷ []

depths-are : map some_depths both ≡ told_depths ∷ told_depths ∷ []
unfolding touches depth_by
depths-are = refl

-- ---- pages that are stored anew
-- 2 bytes, and then one at 0 seventeen times
abbrev often : List Extent
often = w 0 2 ∷ replicate 17 (w 0 1)

-- over 16 the leaf of version 17 stores the page anew; over 0 none does
depths-often : map (λ fold. depths fold often) both
    ≡ (0 ∷ 1 ∷ 2 ∷ 3 ∷ 4 ∷ 5 ∷ 6 ∷ 7 ∷ 8 ∷ 9 ∷ 10 ∷ 11 ∷ 12 ∷ 13 ∷ 14 ∷ 15 ∷ 16 ∷ 17 ∷ [])
    ∷ (0 ∷ 1 ∷ 2 ∷ 3 ∷ 4 ∷ 5 ∷ 6 ∷ 7 ∷ 8 ∷ 9 ∷ 10 ∷ 11 ∷ 12 ∷ 13 ∷ 14 ∷ 15 ∷ 0 ∷ 1 ∷ []) ∷ []
unfolding touches depth_by
depths-often = refl

-- reads of both bytes of versions 16, 17 and 18
steps-often : map (λ fold. map (λ v. visits_by fold 4 often v 0 2) (16 ∷ 17 ∷ 18 ∷ [])) both ≡ (17 ∷ 18 ∷ 19 ∷ []) ∷ (17 ∷ 2 ∷ 3 ∷ []) ∷ []
unfolding newest_of touches back_by depth_by backs_by backs_from height_of doublings
steps-often = refl

folds-often : map (λ v. folds_by 16 4 often v) (16 ∷ 17 ∷ 18 ∷ []) ≡ [] ∷ (0 ∷ []) ∷ [] ∷ []
unfolding touches folds_by depth_by
folds-often = refl

-- its stored page comes after the buffer's one, and has both bytes
abbrev often_leaves : List Node
often_leaves = one_piece 0 (piece 0 0 1) 15 15 ∷ one_piece 0 (piece 1 0 2) 0 0 ∷ one_piece 0 (piece 0 0 1) 17 1 ∷ []

leaves-often : map (λ v. leaf_by 16 4 often v 0) (16 ∷ 17 ∷ 18 ∷ []) ≡ often_leaves
unfolding newest_of touches back_by folds_by depth_by
leaves-often = refl

-- 8 bytes, and then 2 bytes at 3 sixteen times: the last stores both pages anew, after its buffer's one page
abbrev across : List Extent
across = w 0 8 ∷ replicate 16 (w 3 2)

abbrev row-of_across : List (Range × Node)
row-of_across = (at_range 0 8, Inner 17 17) ∷ (at_range 0 4, one_piece 0 (piece 1 0 4) 0 0) ∷ (at_range 4 4, one_piece 0 (piece 2 0 4) 0 0) ∷ []

folds-across : folds_by 16 4 across 17 ≡ 0 ∷ 1 ∷ []
unfolding touches folds_by depth_by
folds-across = refl

row-across : row_by 16 4 across 17 ≡ row-of_across
unfolding newest_of touches row_keys_of levels_of level_of back_by folds_by depth_by height_of doublings
row-across = refl
