-- The row that a ticket tells, and its levels as they are planned.
use Rattle.std.proofs.Common.{◌≡◌, ℕ, suc, ◌+◌, ◌-◌, ◌*◌, ◌/◌, ◌^◌, ◌<◌, ◌≤◌, List, [], ◌∷◌, ◌++◌, length, map, max, arith, inl, inr, refl, ap, sym, subst, ◌∙◌, append_assoc, append-nil}
use Rattle.std.specs.Prelude.{◌==◌, ◌&&◌, ◌||◌, not, Bool, true, false, if◌then◌else◌}
use Rattle.std.specs.List.{range_with_len, filter, position_or_len}
use Rattle.std.proofs.lemmas.Bool.{cases_lt}
use Rattle.std.proofs.lemmas.Nat.{mul-le, pow_pos}
use Rattle.std.proofs.lemmas.List.{get_or_past, map-append}
use Rattle.std.proofs.lemmas.List.FromFn.{map-range_with_len_more}
use Rattle.std.proofs.lemmas.Simd.{map-map}
use Rattle.std.proofs.Math.Nat.{div-mul-le_self, lt-div-mul-add}
use Rattle.tree_geom.specs.declared.range.Range.{Range}
use Rattle.tree_geom.specs.declared.touch.Touch.{Touch}
use Rattle.tree_geom.specs.declared.node.Node.{Node}
use Rattle.tree_geom.specs.declared.node.Node.TheVariants.{Inner}
use Rattle.tree_geom.proofs.Spans.{page_pos}
use Rattle.tree_geom.specs.Geometry.{tree_range, page_range, left_half, right_half, height_of, covers, touched_by}
use Rattle.range_log.specs.Log.{newest_of, touch_at, size_at}
use Rattle.range_log.specs.Extents.{Extent, no_extent, extent_at, size_after, touches}
use Rattle.range_log.specs.Depths.{fold_number, depth_of}
use Rattle.range_log.specs.Rows.{level_of, levels_of, row_keys_of, row_of, node_of, leaf_of, folded_of, folds_by, folds_of}
use Rattle.range_log.specs.Rows.{back_by, covered, edge_pages, fold_at, pages_in, valid_in, whole_leaf, leaf_at}
use Rattle.range_log.specs.Laws.{EachTouchIs, SizesAre}
use Rattle.border_hints.specs.Numbered.{NumberedUpdate, own_touch, log_upto, IsTicketAmong, IsValidTicket}
use Rattle.tree_weaver.specs.Planned.{own_extent, own_folds, own_node, own_nodes, own_ranges, ranges_of}
use Rattle.range_log.proofs.Exact.{row-levels}
use Rattle.snapshot.proofs.Lists.{map_same}

-- ---- what the updates tell that a ticket stands for
-- a node, by where the update falls, the touches, the size after it and its version
made_folded : ℕ → Extent → List Touch → ℕ → ℕ → ℕ → Bool
made_folded p x log n k i = not (covers p x.at x.len n i) && depth_of p log k i == 0

made_folds : ℕ → Extent → List Touch → ℕ → ℕ → List ℕ
made_folds p x log n k = filter (λ i. made_folded p x log n k i) (edge_pages (touched_by p x.at x.len n))

made_leaf : ℕ → Extent → List Touch → ℕ → ℕ → ℕ → Node
made_leaf p x log n k i =
    if made_folded p x log n k i then whole_leaf (pages_in p x.len + position_or_len (λ j. j == i) (made_folds p x log n k)) (valid_in p n i)
    else leaf_at p x i (if covers p x.at x.len n i then 0 else newest_of p log (k - 1) (page_range p i)) (depth_of p log k i)

made_node : ℕ → Extent → List Touch → ℕ → ℕ → Range → Node
made_node p x log n k r =
    if r.size == p then made_leaf p x log n k (r.offset / p)
    else Inner (newest_of p log k (left_half r)) (newest_of p log k (right_half r))

-- a leaf's back is asked for only where it doesn't store its page anew
same_leaf : (whole anew : Bool) (n : ℕ) (a : Node) (b : ℕ → Node) → (if anew then a else b (if whole || anew then 0 else n)) ≡ (if anew then a else b (if whole then 0 else n))
same_leaf true true n a b = refl
same_leaf true false n a b = refl
same_leaf false true n a b = refl
same_leaf false false n a b = refl

leaf_made : (p : ℕ) (us : List Extent) (k i : ℕ) → leaf_of p us k i ≡ made_leaf p (extent_at us k) (touches p us) (size_after us k) k i
unfolding made_leaf made_folded made_folds back_by folds_by
leaf_made p us k i =
    same_leaf (covered p us k i) (folded_of p us k i) (newest_of p (touches p us) (k - 1) (page_range p i)) (whole_leaf (fold_at fold_number p us k i) (valid_in p (size_after us k) i))
    (λ back. leaf_at p (extent_at us k) i back (depth_of p (touches p us) k i))

made_of : (p : ℕ) (us : List Extent) (k : ℕ) (r : Range) → node_of p us k r ≡ made_node p (extent_at us k) (touches p us) (size_after us k) k r
unfolding made_node
made_of p us k r =
    ap (λ l. if r.size == p then l else Inner (newest_of p (touches p us) k (left_half r)) (newest_of p (touches p us) k (right_half r))) (leaf_made p us k (r.offset / p))

made_own : (t : NumberedUpdate) (r : Range) → made_node t.snapshot.page_size (own_extent t) (log_upto t) t.size t.version r ≡ own_node t r
unfolding made_node made_leaf made_folded made_folds
made_own t r = refl

folds_made : (p : ℕ) (us : List Extent) (k : ℕ) → folds_of p us k ≡ made_folds p (extent_at us k) (touches p us) (size_after us k) k
unfolding made_folded made_folds folds_by
folds_made p us k = refl

folds_own : (t : NumberedUpdate) → made_folds t.snapshot.page_size (own_extent t) (log_upto t) t.size t.version ≡ own_folds t
unfolding made_folded made_folds
folds_own t = refl

map_id : {X : Type 0} (xs : List X) → map (λ x. x) xs ≡ xs
map_id [] = refl
map_id (x ∷ xs) = ap (λ l. x ∷ l) (map_id xs)

module _ (each : EachTouchIs) (sizes : SizesAre) (t : NumberedUpdate) (is : IsValidTicket t) (us : List Extent) (st : IsTicketAmong t us) where
  last_version : t.version ≡ suc (t.version - 1)
  last_version = omega (arith, is.version)

  own_is : extent_at us (suc (t.version - 1)) ≡ own_extent t
  own_is = ap (extent_at us) (sym last_version) ∙ st.own

  -- the list has an update of each version up to it
  within : t.version - 1 < length us
  within = elim (cases_lt (t.version - 1) (length us)) [
    | inl lt ↦ lt
    | inr past ↦ absurd (
        let e : extent_at us (suc (t.version - 1)) ≡ no_extent = get_or_past us (t.version - 1) no_extent past in
        let z : 0 ≡ t.len = ap (λ (x : Extent). x.len) (sym e ∙ own_is) in
        omega (arith, is.some))
  ]

  own_size : size_after us t.version ≡ t.size
  own_size =
      let k : ℕ = t.version - 1 in
      let p : ℕ = t.snapshot.page_size in
      let before : size_at (log_upto t) k ≡ size_after us k = ap (λ l. size_at l k) (sym st.touches) ∙ sizes p us k (omega (arith, within)) in
      ap (size_after us) last_version
      ∙ ap (λ (x : Extent). max (size_after us k) (x.at + x.len)) own_is
      ∙ ap (λ n. max n (t.at + t.len)) (sym before)
      ∙ sym is.size

  pub own_touch_in : touch_at (touches t.snapshot.page_size us) t.version ≡ own_touch t
  own_touch_in =
      let k : ℕ = t.version - 1 in
      let p : ℕ = t.snapshot.page_size in
      let made : Extent → ℕ → Touch = λ x n. touched_by p x.at x.len n in
      ap (touch_at (touches p us)) last_version
      ∙ each p us k within
      ∙ ap (λ x. made x (size_after us (suc k))) own_is
      ∙ ap (made (own_extent t)) (ap (size_after us) (sym last_version) ∙ own_size)

  -- what the ticket tells of its own touch
  pub touch_told : touch_at (log_upto t) t.version ≡ own_touch t
  touch_told = ap (λ l. touch_at l t.version) (sym st.touches) ∙ own_touch_in

  -- the row of the version is what the ticket tells
  pub row_told : row_of t.snapshot.page_size us t.version ≡ own_nodes t (own_ranges t)
  row_told =
      let p : ℕ = t.snapshot.page_size in
      let k : ℕ = t.version in
      let keys : row_keys_of p (touches p us) k ≡ own_ranges t =
      row-levels p (touches p us) k ∙ ap (λ (u : Touch). levels_of p u (suc (height_of p u.size))) own_touch_in in
      let same : (r : Range) → node_of p us k r ≡ own_node t r = λ r.
      made_of p us k r
      ∙ ap (λ x. made_node p x (touches p us) (size_after us k) k r) st.own
      ∙ ap (λ l. made_node p (own_extent t) l (size_after us k) k r) st.touches
      ∙ ap (λ n. made_node p (own_extent t) (log_upto t) n k r) own_size
      ∙ made_own t r in
      let of_us : Range → Range × Node = λ r. (r, node_of p us k r) in
      let of_own : Range → Range × Node = λ r. (r, own_node t r) in
      ap (map of_us) keys ∙ map_same of_us of_own (own_ranges t) (λ r. ap (λ (n : Node). (r, n)) (same r))

  -- and so are the pages that it stores anew
  pub folds_told : folds_of t.snapshot.page_size us t.version ≡ own_folds t
  folds_told =
      let p : ℕ = t.snapshot.page_size in
      let k : ℕ = t.version in
      folds_made p us k
      ∙ ap (λ x. made_folds p x (touches p us) (size_after us k) k) st.own
      ∙ ap (λ l. made_folds p (own_extent t) l (size_after us k) k) st.touches
      ∙ ap (λ n. made_folds p (own_extent t) (log_upto t) n k) own_size
      ∙ folds_own t

-- ---- the ranges
-- the planned nodes stand beside the ranges of the row
pub ranges_own : (t : NumberedUpdate) (ranges : List Range) → ranges_of (own_nodes t ranges) ≡ ranges
ranges_own t ranges = map-map (λ (x : Range × Node). x.0) (λ r. (r, own_node t r)) ranges ∙ map_id ranges

-- the height, as the code computes it
pub own_height : (t : NumberedUpdate) (p n height : ℕ) → p ≡ t.snapshot.page_size → n ≡ t.size → height ≡ height_of p n → height ≡ height_of t.snapshot.page_size t.size
own_height t p n height a b is = is ∙ ap (λ x. height_of x n) a ∙ ap (height_of t.snapshot.page_size) b

-- the row's ranges, as a row has them
pub own_levels : (t : NumberedUpdate) (touch : Touch) (p height : ℕ) → touch ≡ own_touch t → p ≡ t.snapshot.page_size → height ≡ height_of t.snapshot.page_size t.size
    → levels_of p touch (height + 1) ≡ own_ranges t
own_levels t touch p height a b c =
    let e : height + 1 ≡ suc (height_of t.snapshot.page_size t.size) = omega arith in
    ap (λ n. levels_of n touch (height + 1)) b ∙ ap (λ u. levels_of t.snapshot.page_size u (height + 1)) a ∙ ap (levels_of t.snapshot.page_size (own_touch t)) e

-- ---- the levels, as they are planned
-- the node for range number q of a height, beside the range
abbrev pub numbered_node : NumberedUpdate → ℕ → ℕ → Range × Node
numbered_node t h q = (tree_range t.snapshot.page_size h q, own_node t (tree_range t.snapshot.page_size h q))

pub level_numbers : (t : NumberedUpdate) (u : Touch) (h : ℕ)
    → own_nodes t (level_of t.snapshot.page_size u h) ≡ map (numbered_node t h) (range_with_len (u.first / 2 ^ h) (u.last / 2 ^ h + 1 - u.first / 2 ^ h))
unfolding level_of
level_numbers t u h = map-map (λ r. (r, own_node t r)) (λ q. tree_range t.snapshot.page_size h q) (range_with_len (u.first / 2 ^ h) (u.last / 2 ^ h + 1 - u.first / 2 ^ h))

-- one more of a level, whatever is told of each number
pub level_more : {X : Type 0} (f : ℕ → X) (all old now : List X) (a q : ℕ) (x : X) → a ≤ q → old ≡ all ++ map f (range_with_len a (q - a)) → now ≡ old ++ x ∷ [] → x ≡ f q
    → now ≡ all ++ map f (range_with_len a (q + 1 - a))
level_more f all old now a q x le so_far more is =
    let n : ℕ = q - a in
    let e : q + 1 - a ≡ n + 1 = omega arith in
    more
    ∙ ap (λ l. l ++ x ∷ []) so_far
    ∙ append_assoc all (map f (range_with_len a n)) (x ∷ [])
    ∙ ap (λ y. all ++ (map f (range_with_len a n) ++ y ∷ [])) is
    ∙ ap (λ l. all ++ l) (sym (map-range_with_len_more f a n q (omega arith)))
    ∙ ap (λ k. all ++ map f (range_with_len a k)) (sym e)

pub quotients_rise : (a b w : ℕ) → 1 ≤ w → a ≤ b → a / w ≤ b / w
quotients_rise a b w pos le =
    let low : a / w * w ≤ a = div-mul-le_self a w in
    elim (cases_lt (b / w) (a / w)) [
      | inl lt ↦ absurd (let e : (b / w + 1) * w ≤ a / w * w = mul-le (b / w + 1) w (a / w) w (omega arith) (omega arith) in let high : b < b / w * w + w = lt-div-mul-add pos in omega arith)
      | inr done ↦ done
    ]

-- the first page that the update touches comes at or before the last
pub touch_ordered : (t : NumberedUpdate) → IsValidTicket t → (own_touch t).first ≤ (own_touch t).last
touch_ordered t is = quotients_rise t.at (t.at + t.len - 1) t.snapshot.page_size (page_pos t.snapshot.page_size is.published.page_size) (omega (arith, is.some))

pub levels_none : (p : ℕ) (u : Touch) → levels_of p u 0 ≡ []
unfolding levels_of
levels_none p u = refl

pub levels_next : (p : ℕ) (u : Touch) (h : ℕ) → levels_of p u (suc h) ≡ level_of p u h ++ levels_of p u h
unfolding levels_of
levels_next p u h = refl

-- one more level, from the largest ranges down, whatever is told of each range
pub level_added_to : {X : Type 0} (F : List Range → List X) → ((a b : List Range) → F (a ++ b) ≡ F a ++ F b) → (p : ℕ) (u : Touch) (level : ℕ) (all old now : List X) → 1 ≤ level
    → old ++ F (levels_of p u level) ≡ all → now ≡ old ++ F (level_of p u (level - 1)) → now ++ F (levels_of p u (level - 1)) ≡ all
level_added_to F joins p u level all old now some so_far more =
    let h : ℕ = level - 1 in
    let e : suc h ≡ level = omega arith in
    ap (λ l. l ++ F (levels_of p u h)) more
    ∙ append_assoc old (F (level_of p u h)) (F (levels_of p u h))
    ∙ ap (λ l. old ++ l) (sym (joins (level_of p u h) (levels_of p u h)) ∙ ap F (sym (levels_next p u h) ∙ ap (levels_of p u) e))
    ∙ so_far

pub own_joins : (t : NumberedUpdate) (a b : List Range) → own_nodes t (a ++ b) ≡ own_nodes t a ++ own_nodes t b
own_joins t a b = map-append (λ r. (r, own_node t r)) a b

pub level_added : (t : NumberedUpdate) (level : ℕ) (all old now : List (Range × Node)) → 1 ≤ level → old ++ own_nodes t (levels_of t.snapshot.page_size (own_touch t) level) ≡ all
    → now ≡ old ++ own_nodes t (level_of t.snapshot.page_size (own_touch t) (level - 1)) → now ++ own_nodes t (levels_of t.snapshot.page_size (own_touch t) (level - 1)) ≡ all
level_added t level all old now some so_far more = level_added_to (own_nodes t) (own_joins t) t.snapshot.page_size (own_touch t) level all old now some so_far more

-- all of them are told, the height being that of the update's tree
pub levels_done : (t : NumberedUpdate) (level height : ℕ) (now : List (Range × Node)) → level ≡ 0 → height ≡ height_of t.snapshot.page_size t.size
    → now ++ own_nodes t (levels_of t.snapshot.page_size (own_touch t) level) ≡ own_nodes t (levels_of t.snapshot.page_size (own_touch t) (height + 1)) → now ≡ own_nodes t (own_ranges t)
levels_done t level height now none high is =
    let u : Touch = own_touch t in
    sym (append-nil now)
    ∙ ap (λ l. now ++ l) (sym (ap (own_nodes t) (ap (levels_of t.snapshot.page_size u) none ∙ levels_none t.snapshot.page_size u)))
    ∙ is
    ∙ ap (own_nodes t) (own_levels t u t.snapshot.page_size height refl refl high)

pub level_begun : {X : Type 0} (f : ℕ → X) (all : List X) (a q : ℕ) → q ≡ a → all ≡ all ++ map f (range_with_len a (q - a))
level_begun f all a q e =
    let z : q - a ≡ 0 = omega arith in
    sym (ap (λ n. all ++ map f (range_with_len a n)) z ∙ append-nil all)

-- where a level's loop has ended, it has told of all numbers of the level
pub level_ended : (t : NumberedUpdate) (v : Touch) (h q : ℕ) → IsValidTicket t → v ≡ own_touch t → v.last / 2 ^ h + 1 ≤ q
    → (v.first / 2 ^ h ≤ v.last / 2 ^ h + 1 → q ≤ v.last / 2 ^ h + 1)
    → q - (own_touch t).first / 2 ^ h ≡ (own_touch t).last / 2 ^ h + 1 - (own_touch t).first / 2 ^ h
level_ended t v h q is e past before =
    let u : Touch = own_touch t in
    let P : Touch → Type 0 = λ x. (x.last / 2 ^ h + 1 ≤ q) × (x.first / 2 ^ h ≤ x.last / 2 ^ h + 1 → q ≤ x.last / 2 ^ h + 1) in
    let ends : P u = subst P e (past, before) in
    let rises : u.first / 2 ^ h ≤ u.last / 2 ^ h = quotients_rise u.first u.last (2 ^ h) (pow_pos h) (touch_ordered t is) in
    omega (arith, ends.0, ends.1 (omega arith))

pub level_finished : (t : NumberedUpdate) (v : Touch) (h q : ℕ) (all now : List (Range × Node)) → IsValidTicket t → v ≡ own_touch t → v.last / 2 ^ h + 1 ≤ q
    → (v.first / 2 ^ h ≤ v.last / 2 ^ h + 1 → q ≤ v.last / 2 ^ h + 1)
    → now ≡ all ++ map (numbered_node t h) (range_with_len ((own_touch t).first / 2 ^ h) (q - (own_touch t).first / 2 ^ h))
    → now ≡ all ++ own_nodes t (level_of t.snapshot.page_size (own_touch t) h)
level_finished t v h q all now is e past before so_far =
    so_far
    ∙ ap (λ n. all ++ map (numbered_node t h) (range_with_len ((own_touch t).first / 2 ^ h) n)) (level_ended t v h q is e past before)
    ∙ ap (λ l. all ++ l) (sym (level_numbers t (own_touch t) h))
