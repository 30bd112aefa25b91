-- The worked script of two updates, computed from the definitions alone, whichever fold number the store has.
use Rattle.std.proofs.Common.{ℕ, ◌*◌, ◌%◌, ◌≤◌, zero, suc, inl, inr, true, false, arith, ap, sym, subst, ◌∙◌, length, lit<, lit≤}
use Rattle.std.specs.Prelude.{◌≡◌, List, [], ◌∷◌, ◌++◌, Option, Some, None, refl}
use Rattle.blob_model.specs.Limits.{greatest}
use Rattle.blob_model.specs.Store.{Blob, blob_at, published}
use Rattle.blob_model.specs.declared.call.Place.TheVariants.{Append}
use Rattle.tree_geom.specs.declared.range.Range.{Range}
use Rattle.tree_geom.specs.declared.node.Node.{Node}
use Rattle.tree_geom.specs.declared.node.Node.TheVariants.{Leaf}
use Rattle.tree_geom.specs.declared.node.NodeKey.{NodeKey}
use Rattle.tree_geom.specs.Geometry.{height_of, doublings, page_range, span_of}
use Rattle.tree_geom.specs.Nodes.{no_piece}
use Rattle.range_log.specs.Log.{newest_of}
use Rattle.range_log.specs.Extents.{touches}
use Rattle.range_log.specs.Updates.{extents}
use Rattle.range_log.specs.Rows.{row_keys_of, levels_of, level_of}
use Rattle.range_log.specs.Log.{HasNode}
use Rattle.std.specs.List.{Contains}
use Rattle.range_log.specs.Depths.{fold_number}
use Rattle.range_log.specs.Laws.{FoldNumberIs}
use Rattle.blob_core.specs.World.{World, UpdateEntry, empty_world, fold_at, kept_at, node_at, origin, IsKnown, log_of}
use Rattle.blob_core.specs.Woven.{followed, found_in, woven_folded}
use Rattle.blob_core.specs.Steps.{world_after_by, IsAllowed, AllAllowed, IsFolded, IsNumberedIn, RowIsThere}
use Rattle.blob_core.specs.Walk.{leaf_walk, tree_walk_from, read_walk}
use Rattle.blob_core.proofs.Lists.{one_value, none_some}
use Rattle.blob_core.specs.declared.step.Step.{Step}
use Rattle.blob_core.specs.declared.step.Step.TheVariants as Moves

-- both fold numbers
abbrev pub both : List ℕ
both = 0 ∷ 16 ∷ []

-- the world of some steps, over a fold number, and at that of the store
abbrev pub world_by : ℕ → List Step → World
world_by fold steps = world_after_by fold 4 (empty_world greatest) steps

abbrev pub world_of : List Step → World
world_of steps = world_by fold_number steps

abbrev pub range_at : ℕ → ℕ → Range
range_at offset size = record { offset = offset; size = size }

abbrev pub key : ℕ → ℕ → ℕ → ℕ → NodeKey
key blob version offset size = record { blob = blob; version = version; range = range_at offset size }

abbrev pub one_piece : ℕ → ℕ → ℕ → ℕ → Node
one_piece start len depth back = Leaf start 1 (record { page = 0; from = 0; len = len }) no_piece depth back

-- one leaf that doesn't cover its page isn't stored anew
pub one_deep : FoldNumberIs → 1 % fold_number ≡ 1
one_deep either = elim either [ inl none ↦ ap (λ n. 1 % n) none | inr sixteen ↦ ap (λ n. 1 % n) sixteen ]

-- what is published of a blob, in a list
abbrev pub published_of : Option Blob → List ℕ
published_of None = []
published_of (Some b) = published b ∷ []

-- blob 1
abbrev pub blob_or : Option Blob → Blob
blob_or None = record { updates = []; finished = [] }
blob_or (Some b) = b

abbrev pub the_blob : World → Blob
the_blob w = blob_or (blob_at w.store 1)

-- what is kept beside an update of it
abbrev kept_or : Option UpdateEntry → UpdateEntry
kept_or None = record { pages = []; published = 0; waiting = [] }
kept_or (Some kept) = kept

-- two pages, and two appends of which neither has stored a node
abbrev pub two_appends : List Step
two_appends = Moves.Create 1 ∷ Moves.PagePut 1 (170 ∷ []) ∷ Moves.PagePut 2 (187 ∷ []) ∷ Moves.Assign 1 1 Append (1 ∷ []) ∷ Moves.Assign 2 1 Append (2 ∷ []) ∷ []

-- the second stores its node and finishes, though the first, to which its leaf leads back, hasn't stored its own
abbrev second_first : List Step
second_first = Moves.NodePut (key 1 2 0 4) ∷ Moves.Finish 2 1 2 ∷ []

abbrev then_first : List Step
then_first = Moves.NodePut (key 1 1 0 4) ∷ Moves.Finish 1 1 1 ∷ []

-- and the worlds in between
abbrev second_put : World
second_put = world_of (two_appends ++ Moves.NodePut (key 1 2 0 4) ∷ [])

abbrev second_done : World
second_done = world_of (two_appends ++ second_first)

abbrev first_put : World
first_put = world_of (two_appends ++ second_first ++ Moves.NodePut (key 1 1 0 4) ∷ [])

row_of_second : row_keys_of 4 (touches 4 (extents (the_blob (world_of two_appends)).updates)) 2 ≡ range_at 0 4 ∷ []
unfolding touches extents row_keys_of levels_of level_of height_of doublings
row_of_second = refl

-- the one node of the second update's row isn't there
second_is_missing : node_at (world_of two_appends).nodes (key 1 2 0 4) ≡ None
second_is_missing = refl

second_is_woven : FoldNumberIs → node_at second_done.nodes (key 1 2 0 4) ≡ Some (one_piece 1 1 1 1)
unfolding touches extents newest_of found_in followed span_of height_of doublings
second_is_woven either = rw (one_deep either) refl

none_published : published_of (blob_at second_done.store 1) ≡ 0 ∷ []
none_published = refl

both_published : published_of (blob_at (world_of (two_appends ++ second_first ++ then_first)).store 1) ≡ 2 ∷ []
both_published = refl

read_of_both : FoldNumberIs → read_walk 4 (world_of (two_appends ++ second_first ++ then_first)) 1 (the_blob (world_of (two_appends ++ second_first ++ then_first))) 2 0 2
    ≡ record { bytes = 170 ∷ 187 ∷ []; nodes = 2 }
unfolding touches extents newest_of found_in followed span_of height_of doublings leaf_walk tree_walk_from read_walk
read_of_both either = rw (one_deep either) refl

-- ---- each step is allowed but the finish before its node
numbered : (w : World) (version : ℕ) → blob_at w.store 1 ≡ Some (the_blob w) → 1 ≤ version → version ≤ length (the_blob w).updates → origin w 1 version ≡ 1
    → IsNumberedIn w 1 version (the_blob w)
numbered w version there some upto own = record { there = there; some = some; upto = upto; own = own }

-- neither stores its page anew
no_fold : (w : World) (version : ℕ) (kept : UpdateEntry) → kept_at w.updates 1 version ≡ Some kept → woven_folded fold_number 4 w 1 (the_blob w) kept version 0 ≡ false
    → (page : ℕ) → range_at 0 4 ≡ page_range 4 page → IsFolded 4 w 1 version (the_blob w) page → IsKnown (fold_at w.folded 1 version page)
no_fold w version kept there none page at f =
    let begins : 0 ≡ page * 4 = ap (λ (r : Range). r.offset) at in
    let first : page ≡ 0 = omega arith in
    let same : f.kept ≡ kept = one_value (kept_at w.updates 1 version) f.kept kept f.there there in
    let no : false ≡ true = sym none ∙ rw (same, first) at f.anew in
    (let never : ⊥ = cc in absurd never)

second_stays : FoldNumberIs → woven_folded fold_number 4 (world_of two_appends) 1 (the_blob (world_of two_appends)) (kept_or (kept_at (world_of two_appends).updates 1 2)) 2 0 ≡ false
unfolding touches extents found_in followed span_of height_of doublings
second_stays either = rw (one_deep either) refl

first_stays : woven_folded fold_number 4 second_done 1 (the_blob second_done)
    (kept_or (kept_at second_done.updates 1 1)) 1 0 ≡ false
unfolding touches extents found_in followed span_of height_of doublings
first_stays = refl

first_has : HasNode 4 (log_of 4 (the_blob (world_of two_appends)).updates) 1 (range_at 0 4)
unfolding touches extents span_of height_of doublings
first_has = record { version = (lit≤ tt, lit≤ tt); aligned = (0, 0, refl); within = lit≤ tt; met = (lit< tt, lit< tt, lit< tt) }

second_has : HasNode 4 (log_of 4 (the_blob (world_of two_appends)).updates) 2 (range_at 0 4)
unfolding touches extents span_of height_of doublings
second_has = record { version = (lit≤ tt, lit≤ tt); aligned = (0, 0, refl); within = lit≤ tt; met = (lit< tt, lit< tt, lit< tt) }

only_one : (a r : Range) → Contains (a ∷ []) r → a ≡ r
only_one a r (zero, lt, e) = e
only_one a r (suc k, lt, e) = absurd (omega arith)

-- the one range of a row with one node
only : (rs : List Range) (a r : Range) → rs ≡ a ∷ [] → Contains rs r → a ≡ r
only rs a r e has =
    only_one a r (rw e at has)

row_there : (w : World) (version : ℕ) (n : Node) → row_keys_of 4 (log_of 4 (the_blob w).updates) version ≡ range_at 0 4 ∷ [] → node_at w.nodes (key 1 version 0 4) ≡ Some n
    → RowIsThere 4 w 1 version (the_blob w)
row_there w version n row is r has =
    let P : Range → Type 0 = λ x. IsKnown (node_at w.nodes (record { blob = 1; version = version; range = x })) in
    subst P (only (row_keys_of 4 (log_of 4 (the_blob w).updates) version) (range_at 0 4) r row has) (n, is)

row_of_first : row_keys_of 4 (touches 4 (extents (the_blob (world_of two_appends)).updates)) 1 ≡ range_at 0 4 ∷ []
unfolding touches extents row_keys_of levels_of level_of height_of doublings
row_of_first = refl

first_is_woven : node_at first_put.nodes (key 1 1 0 4) ≡ Some (one_piece 0 1 0 0)
unfolding touches extents newest_of found_in followed span_of height_of doublings
first_is_woven = refl

second_may_put : FoldNumberIs → IsAllowed 4 (world_of two_appends) (Moves.NodePut (key 1 2 0 4))
second_may_put either = (
  the_blob (world_of two_appends),
  numbered (world_of two_appends) 2 refl (lit≤ tt) (lit≤ tt) refl,
  second_has,
  no_fold (world_of two_appends) 2 (kept_or (kept_at (world_of two_appends).updates 1 2)) refl (second_stays either),
)

second_may_finish : FoldNumberIs → IsAllowed 4 second_put (Moves.Finish 2 1 2)
second_may_finish either = (
  refl,
  (the_blob second_put, numbered second_put 2 refl (lit≤ tt) (lit≤ tt) refl, row_there second_put 2 (one_piece 1 1 1 1) row_of_second (second_is_woven either)),
)

first_may_put : IsAllowed 4 second_done (Moves.NodePut (key 1 1 0 4))
first_may_put = (
  the_blob second_done,
  numbered second_done 1 refl (lit≤ tt) (lit≤ tt) refl,
  first_has,
  no_fold second_done 1 (kept_or (kept_at second_done.updates 1 1)) refl first_stays,
)

first_may_finish : IsAllowed 4 first_put (Moves.Finish 1 1 1)
first_may_finish = (refl, (the_blob first_put, numbered first_put 1 refl (lit≤ tt) (lit≤ tt) refl, row_there first_put 1 (one_piece 0 1 0 0) row_of_first first_is_woven))

script_is_allowed : FoldNumberIs → AllAllowed 4 (empty_world greatest) (two_appends ++ second_first ++ then_first)
script_is_allowed either = (
  refl,
  (
    (refl, lit≤ tt, lit≤ tt),
    (
      (refl, lit≤ tt, lit≤ tt),
      (
        ((170 ∷ [], refl), refl),
        (
          ((187 ∷ [], refl), refl),
          (second_may_put either, (second_may_finish either, (first_may_put, (first_may_finish, tt)))),
        ),
      ),
    ),
  ),
)

-- the sixth step of the short script isn't
finish_is_not_allowed : IsAllowed 4 (world_of two_appends) (Moves.Finish 2 1 2) → ⊥
finish_is_not_allowed ok =
    let (b, own, row) = ok.1 in
    let same : b ≡ the_blob (world_of two_appends) = one_value (blob_at (world_of two_appends).store 1) b (the_blob (world_of two_appends)) own.there refl in
    let keys : row_keys_of 4 (log_of 4 b.updates) 2 ≡ range_at 0 4 ∷ [] = ap (λ (x : Blob). row_keys_of 4 (log_of 4 x.updates) 2) same ∙ row_of_second in
    let (n, is) = row (range_at 0 4) (rw keys (0, lit< tt, refl)) in
    none_some (node_at (world_of two_appends).nodes (key 1 2 0 4)) n second_is_missing is
