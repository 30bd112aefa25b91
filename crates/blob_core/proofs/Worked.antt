-- Three overlapping updates of one page: every order in which their nodes are stored and they are finished ends in the same bytes.
use Rattle.std.specs.Prelude.{◌≡◌, ℕ, ◌+◌, ◌==◌, ◌&&◌, zero, suc, if◌then◌else◌, List, [], ◌∷◌, ◌++◌, length, map, filter, replicate, Some, refl}
use Rattle.blob_model.specs.declared.call.Place.TheVariants.{Append, WriteAt}
use Rattle.tree_geom.specs.declared.node.Node.TheVariants.{Leaf}
use Rattle.tree_geom.specs.Geometry.{height_of, doublings, span_of}
use Rattle.tree_geom.specs.Nodes.{no_piece}
use Rattle.range_log.specs.Log.{newest_of}
use Rattle.range_log.specs.Extents.{touches}
use Rattle.range_log.specs.Updates.{extents}
use Rattle.blob_core.specs.World.{fold_at, node_at}
use Rattle.blob_core.specs.Woven.{followed, found_in}
use Rattle.blob_core.specs.Walk.{Walked, leaf_walk, tree_walk_from, read_walk}
use Rattle.blob_core.specs.declared.step.Step.{Step}
use Rattle.blob_core.specs.declared.step.Step.TheVariants as Moves
use Rattle.blob_core.proofs.Example.{both, world_by, key, the_blob}

-- the words of n letters from 0 to 2
abbrev words : ℕ → List (List ℕ)
words zero = [] ∷ []
words (suc n) = map (λ w. 0 ∷ w) (words n) ++ map (λ w. 1 ∷ w) (words n) ++ map (λ w. 2 ∷ w) (words n)

abbrev times : ℕ → List ℕ → ℕ
times a [] = 0
times a (b ∷ bs) = (if a == b then 1 else 0) + times a bs

-- the orders in which each of three writers acts twice
abbrev orders : List (List ℕ)
orders = filter (λ w. times 0 w == 2 && times 1 w == 2) (words 6)

-- A writer's first act stores its node, and its second finishes its update.
abbrev acts : List ℕ → List ℕ → List Step
acts before [] = []
acts before (a ∷ rest) =
    (if times a before == 0 then Moves.NodePut (key 1 (a + 1) 0 4) else Moves.Finish a 1 (a + 1)) ∷ acts (a ∷ before) rest

-- four bytes, two over the middle, and two over the end
abbrev three_numbered : List Step
three_numbered =
    Moves.Create 1 ∷ Moves.PagePut 1 (1 ∷ 2 ∷ 3 ∷ 4 ∷ []) ∷ Moves.PagePut 2 (5 ∷ 6 ∷ []) ∷ Moves.PagePut 3 (7 ∷ 8 ∷ [])
    ∷ Moves.Assign 0 1 Append (1 ∷ []) ∷ Moves.Assign 1 1 (WriteAt 1) (2 ∷ []) ∷ Moves.Assign 2 1 (WriteAt 2) (3 ∷ []) ∷ []

abbrev read_after : ℕ → List Step → Walked
read_after fold steps = read_walk 4 (world_by fold (three_numbered ++ steps)) 1 (the_blob (world_by fold (three_numbered ++ steps))) 3 0 4

abbrev bytes_after : ℕ → List ℕ → List ℕ
bytes_after fold order = (read_after fold (acts [] order)).bytes

orders_are : length orders ≡ 90
orders_are = refl

abbrev all_alike : List (List ℕ)
all_alike = replicate 90 (1 ∷ 5 ∷ 7 ∷ 8 ∷ [])

all_agree : map (λ fold. map (bytes_after fold) orders) both ≡ all_alike ∷ all_alike ∷ []
unfolding touches extents newest_of found_in followed span_of height_of doublings leaf_walk tree_walk_from read_walk
all_agree = refl

-- ---- over a fold number of 2 the third of them stores the page anew, and a read visits its leaf alone
abbrev one_by_one : List Step
one_by_one =
    Moves.NodePut (key 1 1 0 4) ∷ Moves.Finish 0 1 1 ∷ Moves.NodePut (key 1 2 0 4) ∷ Moves.Finish 1 1 2 ∷ Moves.FoldPut 1 3 0 ∷ Moves.NodePut (key 1 3 0 4) ∷ Moves.Finish 2 1 3 ∷ []

third_page : fold_at (world_by 2 (three_numbered ++ one_by_one)).folded 1 3 0 ≡ Some (1 ∷ 5 ∷ 7 ∷ 8 ∷ [])
unfolding touches extents newest_of found_in followed span_of height_of doublings leaf_walk tree_walk_from
third_page = refl

third_leaf : node_at (world_by 2 (three_numbered ++ one_by_one)).nodes (key 1 3 0 4) ≡ Some (Leaf 0 1 (record { page = 1; from = 0; len = 4 }) no_piece 0 0)
unfolding touches extents newest_of found_in followed span_of height_of doublings
third_leaf = refl

abbrev read_of : ℕ → Walked
read_of nodes = record { bytes = 1 ∷ 5 ∷ 7 ∷ 8 ∷ []; nodes = nodes }

read_of_third : map (λ fold. read_after fold one_by_one) (0 ∷ 2 ∷ 16 ∷ []) ≡ read_of 3 ∷ read_of 1 ∷ read_of 3 ∷ []
unfolding touches extents newest_of found_in followed span_of height_of doublings leaf_walk tree_walk_from read_walk
read_of_third = refl
