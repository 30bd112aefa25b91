-- What each condition of a step is for: without it a promise is false. Computed from the definitions alone, which also say what
-- a step leaves that isn't allowed.
use Rattle.std.specs.Prelude.{◌≡◌, ℕ, map, true, List, [], ◌∷◌, ◌++◌, Some, None, refl, take}
use Rattle.blob_model.specs.Content.{content}
use Rattle.blob_model.specs.Store.{blob_at, is_finished}
use Rattle.blob_model.specs.declared.call.Place.TheVariants.{Append}
use Rattle.tree_geom.specs.declared.node.Node.TheVariants.{Inner}
use Rattle.tree_geom.specs.declared.node.Piece.{Piece}
use Rattle.tree_geom.specs.Geometry.{height_of, doublings, span_of}
use Rattle.range_log.specs.Log.{newest_of}
use Rattle.range_log.specs.Extents.{touches}
use Rattle.range_log.specs.Updates.{extents, page_bytes}
use Rattle.range_log.specs.Rows.{row_keys_of, levels_of, level_of, back_by, folds_by, node_of}
use Rattle.range_log.specs.Depths.{depth_by}
use Rattle.range_log.specs.Laws.{FoldNumberIs}
use Rattle.blob_core.specs.World.{World, UpdateEntry, fold_at, node_at, node_in, log_of}
use Rattle.blob_core.specs.Woven.{followed, found_in, woven}
use Rattle.blob_core.specs.Walk.{Walked, bytes_of_piece, leaf_walk, tree_walk_from, read_walk}
use Rattle.blob_core.specs.declared.step.Step.{Step}
use Rattle.blob_core.specs.declared.step.Step.TheVariants as Moves
use Rattle.blob_core.proofs.Example.{both, world_by, world_of, range_at, key, one_piece, one_deep, blob_or, the_blob, two_appends}

-- ---- a finish, though the row isn't there
abbrev finished_bare : World
finished_bare = world_of (two_appends ++ Moves.Finish 1 1 1 ∷ [])

bare_is_finished : is_finished (the_blob finished_bare) 1 ≡ true
bare_is_finished = refl

bare_has_no_root : node_in finished_bare 1 1 (range_at 0 4) ≡ None
bare_has_no_root = refl

bare_content : take 1 (content (the_blob finished_bare).updates 1) ≡ 170 ∷ []
bare_content = refl

bare_read : read_walk 4 finished_bare 1 (the_blob finished_bare) 1 0 1 ≡ record { bytes = []; nodes = 0 }
unfolding touches extents newest_of found_in followed span_of height_of doublings leaf_walk tree_walk_from read_walk
bare_read = refl

-- ---- a node outside its update's row
abbrev stray_node : World
stray_node = world_of (two_appends ++ Moves.NodePut (key 1 1 0 8) ∷ [])

stray_is_stored : node_at stray_node.nodes (key 1 1 0 8) ≡ Some (Inner 1 0)
unfolding touches extents newest_of found_in followed span_of height_of doublings
stray_is_stored = refl

stray_is_in_no_row : row_keys_of 4 (log_of 4 (the_blob stray_node).updates) 1 ≡ range_at 0 4 ∷ []
unfolding touches extents row_keys_of levels_of level_of height_of doublings
stray_is_in_no_row = refl

-- ---- hints that leave out the waiting update
abbrev no_hints : UpdateEntry
no_hints = record { pages = 2 ∷ []; published = 0; waiting = [] }

woven_without_hints : FoldNumberIs → woven 4 (world_of two_appends) 1 (the_blob (world_of two_appends)) no_hints 2 (range_at 0 4) ≡ one_piece 1 1 1 0
unfolding touches extents newest_of found_in followed span_of height_of doublings
woven_without_hints either = rw (one_deep either) refl

row_node_of_it : FoldNumberIs → node_of 4 (extents (the_blob (world_of two_appends)).updates) 2 (range_at 0 4) ≡ one_piece 1 1 1 1
unfolding touches extents newest_of back_by folds_by depth_by
row_node_of_it either = rw (one_deep either) refl

-- ---- a page stored anew before the version before is published: that version's leaf isn't there
abbrev early_fold : World
early_fold = world_of (two_appends ++ Moves.FoldPut 1 2 0 ∷ [])

early_page : page_bytes 4 (the_blob early_fold).updates 2 0 ≡ 170 ∷ 187 ∷ []
early_page = refl

early_bytes : fold_at early_fold.folded 1 2 0 ≡ Some (187 ∷ [])
unfolding touches extents newest_of found_in followed span_of height_of doublings leaf_walk tree_walk_from
early_bytes = refl

-- once it is published, the page's bytes are stored
abbrev fold_in_time : World
fold_in_time = world_of (two_appends ++ Moves.NodePut (key 1 1 0 4) ∷ Moves.Finish 1 1 1 ∷ Moves.FoldPut 1 2 0 ∷ [])

bytes_in_time : fold_at fold_in_time.folded 1 2 0 ≡ Some (170 ∷ 187 ∷ [])
unfolding touches extents newest_of found_in followed span_of height_of doublings leaf_walk tree_walk_from
bytes_in_time = refl

-- ---- a leaf that stores its page anew, without the page
abbrev whole_piece : Piece
whole_piece = record { page = 1; from = 0; len = 2 }

without_page : bytes_of_piece (world_of two_appends) 1 2 0 (2 ∷ []) whole_piece ≡ []
without_page = refl

with_page : bytes_of_piece fold_in_time 1 2 0 (2 ∷ []) whole_piece ≡ 170 ∷ 187 ∷ []
unfolding touches extents newest_of found_in followed span_of height_of doublings leaf_walk tree_walk_from
with_page = refl

-- ---- a page put twice
abbrev one_append : List Step
one_append = Moves.PagePut 1 (170 ∷ []) ∷ Moves.Create 1 ∷ Moves.Assign 1 1 Append (1 ∷ []) ∷ Moves.NodePut (key 1 1 0 4) ∷ Moves.Finish 1 1 1 ∷ []

abbrev page_twice : World
page_twice = world_of (one_append ++ Moves.PagePut 1 (187 ∷ []) ∷ [])

twice_content : content (the_blob page_twice).updates 1 ≡ 170 ∷ []
twice_content = refl

twice_read : read_walk 4 page_twice 1 (the_blob page_twice) 1 0 1 ≡ record { bytes = 187 ∷ []; nodes = 1 }
unfolding touches extents newest_of found_in followed span_of height_of doublings leaf_walk tree_walk_from read_walk
twice_read = refl

-- ---- a page before the last that isn't full
abbrev short_page : World
short_page = world_of
    (Moves.PagePut 1 (170 ∷ []) ∷ Moves.PagePut 2 (187 ∷ []) ∷ Moves.Create 1 ∷ Moves.Assign 1 1 Append (1 ∷ 2 ∷ []) ∷ Moves.NodePut (key 1 1 0 4) ∷ Moves.Finish 1 1 1 ∷ [])

short_content : content (the_blob short_page).updates 1 ≡ 170 ∷ 187 ∷ []
short_content = refl

short_read : read_walk 4 short_page 1 (the_blob short_page) 1 0 2 ≡ record { bytes = 170 ∷ []; nodes = 1 }
unfolding touches extents newest_of found_in followed span_of height_of doublings leaf_walk tree_walk_from read_walk
short_read = refl

-- ---- a page of more than a page's size
abbrev long_page : World
long_page = world_of
    (Moves.PagePut 1 (1 ∷ 2 ∷ 3 ∷ 4 ∷ 5 ∷ []) ∷ Moves.Create 1 ∷ Moves.Assign 1 1 Append (1 ∷ []) ∷ Moves.NodePut (key 1 1 0 8) ∷ Moves.NodePut (key 1 1 0 4)
    ∷ Moves.NodePut (key 1 1 4 4) ∷ Moves.Finish 1 1 1 ∷ [])

long_content : content (the_blob long_page).updates 1 ≡ 1 ∷ 2 ∷ 3 ∷ 4 ∷ 5 ∷ []
long_content = refl

long_read : read_walk 4 long_page 1 (the_blob long_page) 1 0 5 ≡ record { bytes = 1 ∷ 2 ∷ 3 ∷ 4 ∷ []; nodes = 3 }
unfolding touches extents newest_of found_in followed span_of height_of doublings leaf_walk tree_walk_from read_walk
long_read = refl

-- ---- an update of no pages is one of no bytes, which no legal history has
abbrev no_pages : World
no_pages = world_of (Moves.Create 1 ∷ Moves.Assign 1 1 Append [] ∷ [])

no_pages_content : content (the_blob no_pages).updates 1 ≡ []
no_pages_content = refl

-- ---- a branch at a version that isn't published: the store refuses it, and the next blob would have a parent
abbrev early_branch : World
early_branch = world_of (two_appends ++ Moves.Branch 1 1 1 ∷ Moves.PagePut 3 (1 ∷ []) ∷ Moves.Create 1 ∷ Moves.Assign 1 2 Append (3 ∷ []) ∷ Moves.NodePut (key 2 1 0 4) ∷ Moves.Finish 1 2 1 ∷ [])

early_content : content (blob_or (blob_at early_branch.store 2)).updates 1 ≡ 1 ∷ []
early_content = refl

early_read : read_walk 4 early_branch 2 (blob_or (blob_at early_branch.store 2)) 1 0 1 ≡ record { bytes = []; nodes = 0 }
unfolding touches extents newest_of found_in followed span_of height_of doublings leaf_walk tree_walk_from read_walk
early_read = refl

-- ---- a branch taken at 1 while another update waits: each blob has its own second version
abbrev branched : ℕ → World
branched fold = world_by fold
    (Moves.Create 1 ∷ Moves.PagePut 1 (97 ∷ 98 ∷ 99 ∷ 100 ∷ []) ∷ Moves.PagePut 2 (101 ∷ 102 ∷ []) ∷ Moves.Assign 1 1 Append (1 ∷ 2 ∷ [])
    ∷ Moves.NodePut (key 1 1 0 8) ∷ Moves.NodePut (key 1 1 0 4) ∷ Moves.NodePut (key 1 1 4 4) ∷ Moves.Finish 1 1 1
    ∷ Moves.PagePut 3 (88 ∷ 89 ∷ []) ∷ Moves.Assign 1 1 Append (3 ∷ [])
    ∷ Moves.Branch 1 1 1 ∷ Moves.PagePut 4 (90 ∷ []) ∷ Moves.Assign 1 2 Append (4 ∷ [])
    ∷ Moves.NodePut (key 2 2 0 8) ∷ Moves.NodePut (key 2 2 4 4) ∷ Moves.Finish 1 2 2
    ∷ Moves.NodePut (key 1 2 4 4) ∷ Moves.NodePut (key 1 2 0 8) ∷ Moves.Finish 1 1 2 ∷ [])

abbrev read_in : ℕ → ℕ → ℕ → Walked
read_in fold blob count = read_walk 4 (branched fold) blob (blob_or (blob_at (branched fold).store blob)) 2 0 count

abbrev parent_has : Walked
parent_has = record { bytes = 97 ∷ 98 ∷ 99 ∷ 100 ∷ 101 ∷ 102 ∷ 88 ∷ 89 ∷ []; nodes = 4 }

parent_read : map (λ fold. read_in fold 1 8) both ≡ parent_has ∷ parent_has ∷ []
unfolding touches extents newest_of found_in followed span_of height_of doublings leaf_walk tree_walk_from read_walk
parent_read = refl

abbrev branch_has : Walked
branch_has = record { bytes = 97 ∷ 98 ∷ 99 ∷ 100 ∷ 101 ∷ 102 ∷ 90 ∷ []; nodes = 4 }

branch_read : map (λ fold. read_in fold 2 7) both ≡ branch_has ∷ branch_has ∷ []
unfolding touches extents newest_of found_in followed span_of height_of doublings leaf_walk tree_walk_from read_walk
branch_read = refl
