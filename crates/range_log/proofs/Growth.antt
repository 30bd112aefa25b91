-- What later versions leave.
use Rattle.std.proofs.Common.{◌≡◌, ℕ, ◌+◌, ◌-◌, ◌*◌, ◌/◌, ◌<◌, ◌≤◌, zero, suc, List, [], ◌∷◌, ◌++◌, length, take, drop, arith, inl, inr, refl, ap, sym, subst, ◌∙◌, max, min, length-append, length-take}
use Rattle.std.specs.Prelude.{◌==◌, ◌&&◌, ◌||◌, not, Bool, if◌then◌else◌}
use Rattle.std.specs.List.{sum_by, filter, position_or_len}
use Rattle.std.proofs.lemmas.List.{get_or_append_left, take-append-le, take-append-drop, get_or-take, ext_get_or}
use Rattle.std.proofs.lemmas.List.Elements.{filter_agree}
use Rattle.std.proofs.lemmas.List.Sums.{sum_by-cons}
use Rattle.std.proofs.lemmas.Bool.{cases_lt}
use Rattle.blob_model.specs.Content.{Update, content_from, offset_of, size_of}
use Rattle.tree_geom.specs.declared.range.Range.{Range}
use Rattle.tree_geom.specs.declared.touch.Touch.{Touch}
use Rattle.tree_geom.specs.declared.node.Node.TheVariants.{Inner}
use Rattle.tree_geom.specs.Geometry.{Meets, no_touch, page_range, left_half, right_half, height_of, span_of, covers, touched_by}
use Rattle.tree_geom.specs.declared.node.Node.{Node}
use Rattle.tree_geom.proofs.Touches.{meets_cases}
use Rattle.range_log.specs.Log.{touch_at, newest_of, IsNewest, HasNode}
use Rattle.range_log.specs.Extents.{Extent, no_extent, extent_at, size_after, touch_of, touches}
use Rattle.range_log.specs.Updates.{update_at, no_update, extents}
use Rattle.range_log.specs.Depths.{fold_number, depth_of}
use Rattle.range_log.specs.Rows.{row_keys_of, levels_of, back_by, back_of, folded_of, folds_by, folds_of, edge_pages, node_of, pages_in, valid_in, whole_leaf, leaf_at, leaf_of, inner_of}
use Rattle.range_log.specs.Visits.{backs_from, backs_by, backs_of, pages_met, visits}
use Rattle.range_log.specs.Laws.{NewestAbove, LogsGrow, RowsStay, ExtentsGrow, SizesStay, PlacesStay}
use Rattle.range_log.proofs.Bytes.{extent_is, length-extents}
use Rattle.range_log.proofs.Counts.{back_falls}
use Rattle.range_log.proofs.Depths.{same_depth}
use Rattle.range_log.proofs.Greatest.{newest_is, only_one, newest_hit, newest_miss, newest_none}
use Rattle.range_log.proofs.Grown.{length-touches, touch-touches}

pub newest_above : NewestAbove
newest_above p v k log r le none =
    let old : IsNewest p log v r (newest_of p log v r) = newest_is p log v r in
    only_one (newest_is p log k r) (record {
      upto = omega (arith, old.upto);
      met = old.met;
      none = λ i a b. elim (cases_lt v i) [ inl late ↦ none i late b | inr early ↦ old.none i a early ];
    })

-- two logs that say the same of the versions up to k have the same newest versions up to k
same_newest : (p k : ℕ) (log other : List Touch) (r : Range) → ((j : ℕ) → j < k → touch_at other (suc j) ≡ touch_at log (suc j)) → newest_of p other k r ≡ newest_of p log k r
same_newest p zero log other r same = newest_none p other r ∙ sym (newest_none p log r)
same_newest p (suc k) log other r same =
    let M : Touch → Type 0 = λ t. Meets p t r in
    elim (meets_cases p (touch_at log (suc k)) r) [
      | inl hit ↦ newest_hit p other k r (subst M (sym (same k (omega arith))) hit) ∙ sym (newest_hit p log k r hit)
      | inr miss ↦
          newest_miss p other k r (λ m. miss (subst M (same k (omega arith)) m))
          ∙ same_newest p k log other r (λ j lt. same j (omega arith))
          ∙ sym (newest_miss p log k r miss)
    ]

pub logs_grow : LogsGrow
logs_grow p k log more r le = same_newest p k log (log ++ more) r (λ j lt. get_or_append_left log more no_touch j (omega arith))

-- ---- extents of a longer list
same_extent : (us more : List Extent) (k : ℕ) → k ≤ length us → extent_at (us ++ more) k ≡ extent_at us k
same_extent us more zero le = refl
same_extent us more (suc k) le = get_or_append_left us more no_extent k (omega arith)

same_size : (us more : List Extent) (k : ℕ) → k ≤ length us → size_after (us ++ more) k ≡ size_after us k
same_size us more zero le = refl
same_size us more (suc k) le =
    let e : extent_at (us ++ more) (suc k) ≡ extent_at us (suc k) = same_extent us more (suc k) le in
    ap (λ n. max n ((extent_at (us ++ more) (suc k)).at + (extent_at (us ++ more) (suc k)).len)) (same_size us more k (omega arith))
    ∙ ap (λ (x : Extent). max (size_after us k) (x.at + x.len)) e

same_touch : (p : ℕ) (us more : List Extent) (k : ℕ) → k ≤ length us → touch_at (touches p (us ++ more)) k ≡ touch_at (touches p us) k
same_touch p us more zero le = refl
same_touch p us more (suc k) le =
    touch-touches p (us ++ more) k (omega (arith, length-append us more))
    ∙ ap (λ (x : Extent). touched_by p x.at x.len (size_after (us ++ more) (suc k))) (same_extent us more (suc k) le)
    ∙ ap (λ n. touched_by p (extent_at us (suc k)).at (extent_at us (suc k)).len n) (same_size us more (suc k) le)
    ∙ sym (touch-touches p us k (omega arith))

newest_same : (p : ℕ) (us more : List Extent) (k : ℕ) (r : Range) → k ≤ length us → newest_of p (touches p (us ++ more)) k r ≡ newest_of p (touches p us) k r
newest_same p us more k r le = same_newest p k (touches p us) (touches p (us ++ more)) r (λ j lt. same_touch p us more (suc j) (omega arith))

depth_same : (p : ℕ) (us more : List Extent) (k i : ℕ) → k ≤ length us → depth_of p (touches p (us ++ more)) k i ≡ depth_of p (touches p us) k i
depth_same p us more k i le = same_depth p k i (touches p us) (touches p (us ++ more)) (λ j lt. same_touch p us more (suc j) (omega arith))

-- ---- the row of a longer list
-- the ranges of a row, of its version's touch
keys_at : ℕ → Touch → List Range
keys_at p t = levels_of p t (suc (height_of p t.size))

-- whether an update stores a page anew, of where it falls, of the size after it, and of the depth there
folded_at : ℕ → Extent → ℕ → ℕ → ℕ → Bool
folded_at p x size i depth = not (covers p x.at x.len size i) && depth == 0

-- the back of a leaf, of the same and of the newest version before it
back_at : ℕ → Extent → ℕ → ℕ → ℕ → ℕ → ℕ
back_at p x size i depth newest = if covers p x.at x.len size i || folded_at p x size i depth then 0 else newest

-- a leaf, of the same, of whether it stores the page anew, of the page's place among those, of its back and of its depth
leaf_made : ℕ → Extent → ℕ → ℕ → Bool → List ℕ → ℕ → ℕ → Node
leaf_made p x size i anew folds back depth =
    if anew then whole_leaf (pages_in p x.len + position_or_len (λ j. j == i) folds) (valid_in p size i) else leaf_at p x i back depth

-- where an update falls after that size
abbrev placed_at : Update → ℕ → Extent
placed_at u size = record { at = offset_of u.place size; len = length u.bytes }

row_keys-are : (p : ℕ) (log : List Touch) (k : ℕ) → row_keys_of p log k ≡ keys_at p (touch_at log k)
unfolding row_keys_of keys_at
row_keys-are p log k = refl

folded-is : (p : ℕ) (us : List Extent) (k i : ℕ) → folded_of p us k i ≡ folded_at p (extent_at us k) (size_after us k) i (depth_of p (touches p us) k i)
unfolding folded_at
folded-is p us k i = refl

pub same_folded : (p : ℕ) (us more : List Extent) (k i : ℕ) → k ≤ length us → folded_of p (us ++ more) k i ≡ folded_of p us k i
same_folded p us more k i le =
    folded-is p (us ++ more) k i
    ∙ ap (λ x. folded_at p x (size_after (us ++ more) k) i (depth_of p (touches p (us ++ more)) k i)) (same_extent us more k le)
    ∙ ap (λ n. folded_at p (extent_at us k) n i (depth_of p (touches p (us ++ more)) k i)) (same_size us more k le)
    ∙ ap (folded_at p (extent_at us k) (size_after us k) i) (depth_same p us more k i le)
    ∙ sym (folded-is p us k i)

back-is : (p : ℕ) (us : List Extent) (k i : ℕ)
    → back_of p us k i ≡ back_at p (extent_at us k) (size_after us k) i (depth_of p (touches p us) k i) (newest_of p (touches p us) (k - 1) (page_range p i))
unfolding back_by back_at folded_at
back-is p us k i = refl

same_back : (p : ℕ) (us more : List Extent) (k i : ℕ) → k ≤ length us → back_of p (us ++ more) k i ≡ back_of p us k i
same_back p us more k i le =
    let log : List Touch = touches p (us ++ more) in
    back-is p (us ++ more) k i
    ∙ ap (λ x. back_at p x (size_after (us ++ more) k) i (depth_of p log k i) (newest_of p log (k - 1) (page_range p i))) (same_extent us more k le)
    ∙ ap (λ n. back_at p (extent_at us k) n i (depth_of p log k i) (newest_of p log (k - 1) (page_range p i))) (same_size us more k le)
    ∙ ap (λ d. back_at p (extent_at us k) (size_after us k) i d (newest_of p log (k - 1) (page_range p i))) (depth_same p us more k i le)
    ∙ ap (back_at p (extent_at us k) (size_after us k) i (depth_of p (touches p us) k i)) (newest_same p us more (k - 1) (page_range p i) (omega arith))
    ∙ sym (back-is p us k i)

pub folds-are : (p : ℕ) (us : List Extent) (k : ℕ) → folds_of p us k ≡ filter (λ i. folded_of p us k i) (edge_pages (touch_of p us k))
unfolding folds_by
folds-are p us k = refl

folds_stay : (p k : ℕ) (us more : List Extent) → k ≤ length us → folds_of p (us ++ more) k ≡ folds_of p us k
folds_stay p k us more le =
    let touch : touch_of p (us ++ more) k ≡ touch_of p us k =
    ap (λ (x : Extent). touched_by p x.at x.len (size_after (us ++ more) k)) (same_extent us more k le)
    ∙ ap (λ n. touched_by p (extent_at us k).at (extent_at us k).len n) (same_size us more k le) in
    folds-are p (us ++ more) k
    ∙ filter_agree (λ i. folded_of p (us ++ more) k i) (λ i. folded_of p us k i) (λ i. same_folded p us more k i le) (edge_pages (touch_of p (us ++ more) k))
    ∙ ap (λ t. filter (λ i. folded_of p us k i) (edge_pages t)) touch
    ∙ sym (folds-are p us k)

leaf-is : (p : ℕ) (us : List Extent) (k i : ℕ)
    → leaf_of p us k i ≡ leaf_made p (extent_at us k) (size_after us k) i (folded_of p us k i) (folds_of p us k) (back_of p us k i) (depth_of p (touches p us) k i)
unfolding leaf_made
leaf-is p us k i = refl

same_leaf : (p : ℕ) (us more : List Extent) (k i : ℕ) → k ≤ length us → leaf_of p (us ++ more) k i ≡ leaf_of p us k i
same_leaf p us more k i le =
    let all : List Extent = us ++ more in
    let depth : ℕ = depth_of p (touches p all) k i in
    leaf-is p all k i
    ∙ ap (λ x. leaf_made p x (size_after all k) i (folded_of p all k i) (folds_of p all k) (back_of p all k i) depth) (same_extent us more k le)
    ∙ ap (λ n. leaf_made p (extent_at us k) n i (folded_of p all k i) (folds_of p all k) (back_of p all k i) depth) (same_size us more k le)
    ∙ ap (λ b. leaf_made p (extent_at us k) (size_after us k) i b (folds_of p all k) (back_of p all k i) depth) (same_folded p us more k i le)
    ∙ ap (λ l. leaf_made p (extent_at us k) (size_after us k) i (folded_of p us k i) l (back_of p all k i) depth) (folds_stay p k us more le)
    ∙ ap (λ b. leaf_made p (extent_at us k) (size_after us k) i (folded_of p us k i) (folds_of p us k) b depth) (same_back p us more k i le)
    ∙ ap (leaf_made p (extent_at us k) (size_after us k) i (folded_of p us k i) (folds_of p us k) (back_of p us k i)) (depth_same p us more k i le)
    ∙ sym (leaf-is p us k i)

same_node : (p : ℕ) (us more : List Extent) (k : ℕ) (r : Range) → k ≤ length us → node_of p (us ++ more) k r ≡ node_of p us k r
same_node p us more k r le =
    let leaf : leaf_of p (us ++ more) k (r.offset / p) ≡ leaf_of p us k (r.offset / p) = same_leaf p us more k (r.offset / p) le in
    let inner : inner_of p (us ++ more) k r ≡ inner_of p us k r =
    ap (λ j. Inner j (newest_of p (touches p (us ++ more)) k (right_half r))) (newest_same p us more k (left_half r) le)
    ∙ ap (Inner (newest_of p (touches p us) k (left_half r))) (newest_same p us more k (right_half r) le) in
    ap (λ n. if r.size == p then n else inner_of p (us ++ more) k r) leaf ∙ ap (λ n. if r.size == p then leaf_of p us k (r.offset / p) else n) inner

-- a node in a row, in a log that says the same of its version
node_moved : (p : ℕ) (log other : List Touch) (k : ℕ) (r : Range) → touch_at other k ≡ touch_at log k → k ≤ length other → HasNode p log k r → HasNode p other k r
node_moved p log other k r same in_log node =
    let W : Touch → Type 0 = λ t. r.offset + r.size ≤ span_of p t.size in
    let M : Touch → Type 0 = λ t. Meets p t r in
    record {
      version = (node.version.0, in_log);
      aligned = node.aligned;
      within = subst W (sym same) node.within;
      met = subst M (sym same) node.met;
    }

same_backs : (most p : ℕ) (us more : List Extent) (j i : ℕ) → j ≤ length us → backs_from most fold_number p (us ++ more) j i ≡ backs_from most fold_number p us j i
unfolding backs_from
same_backs zero p us more j i le = refl
same_backs (suc most) p us more j i le =
    let b : back_of p (us ++ more) j i ≡ back_of p us j i = same_back p us more j i le in
    ap (λ n. if n == 0 then 0 else 1 + backs_from most fold_number p (us ++ more) n i) b
    ∙ ap (λ n. if back_of p us j i == 0 then 0 else 1 + n) (same_backs most p us more (back_of p us j i) i (omega (arith, back_falls p us j i)))

backs_same : (p : ℕ) (us more : List Extent) (v i : ℕ) → v ≤ length us → backs_of p (us ++ more) v i ≡ backs_of p us v i
unfolding backs_by
backs_same p us more v i le =
    let is : IsNewest p (touches p us) v (page_range p i) (newest_of p (touches p us) v (page_range p i)) = newest_is p (touches p us) v (page_range p i) in
    ap (λ j. backs_from v fold_number p (us ++ more) j i) (newest_same p us more v (page_range p i) le)
    ∙ same_backs v p us more (newest_of p (touches p us) v (page_range p i)) i (omega (arith, is.upto))

sums_same : (f g : ℕ → ℕ) (l : List ℕ) → ((i : ℕ) → f i ≡ g i) → sum_by f l ≡ sum_by g l
sums_same f g [] same = refl
sums_same f g (x ∷ l) same = sum_by-cons f x l ∙ ap (λ n. n + sum_by f l) (same x) ∙ ap (λ n. g x + n) (sums_same f g l same) ∙ sym (sum_by-cons g x l)

same_visits : (p : ℕ) (us more : List Extent) (k o n : ℕ) → k ≤ length us → visits p (us ++ more) k o n ≡ visits p us k o n
same_visits p us more k o n le =
    ap (λ h. if n == 0 then 0 else 2 * length (pages_met p o n) + 2 * height_of p h + sum_by (λ i. backs_of p (us ++ more) k i) (pages_met p o n)) (same_size us more k le)
    ∙ ap (λ s. if n == 0 then 0 else 2 * length (pages_met p o n) + 2 * height_of p (size_after us k) + s)
    (sums_same (λ i. backs_of p (us ++ more) k i) (λ i. backs_of p us k i) (pages_met p o n) (λ i. backs_same p us more k i le))

pub rows_stay : RowsStay
rows_stay p k us more le =
    let t : touch_at (touches p (us ++ more)) k ≡ touch_at (touches p us) k = same_touch p us more k le in
    let long : k ≤ length (touches p (us ++ more)) = omega (arith, length-touches p (us ++ more), length-append us more) in
    let short : k ≤ length (touches p us) = omega (arith, length-touches p us) in (
      t,
      row_keys-are p (touches p (us ++ more)) k ∙ ap (keys_at p) t ∙ sym (row_keys-are p (touches p us) k),
      λ r. (node_moved p (touches p us) (touches p (us ++ more)) k r t long, node_moved p (touches p (us ++ more)) (touches p us) k r (sym t) short),
      λ r. same_node p us more k r le,
      λ o n. same_visits p us more k o n le,
      folds_stay p k us more le,
    )

-- ---- where the updates of a longer list fall
pub size_front : SizesStay
size_front us more v le = ap (λ l. length (content_from [] l)) (take-append-le v us more le)

pub extent_of_front : PlacesStay
extent_of_front us more k h =
    let u : update_at (us ++ more) (suc k) ≡ update_at us (suc k) = get_or_append_left us more no_update k h in
    ap (λ (x : Update). placed_at x (size_of (us ++ more) k)) u ∙ ap (placed_at (update_at us (suc k))) (size_front us more k (omega arith))

pub extents_grow : ExtentsGrow
extents_grow us more =
    let n : ℕ = length us in
    let all : List Extent = extents (us ++ more) in
    let count : length all ≡ n + length more = length-extents (us ++ more) ∙ length-append us more in
    let own : length (extents us) ≡ n = length-extents us in
    let cut : length (take n all) ≡ min n (length all) = length-take n all in
    let front : take n all ≡ extents us =
    ext_get_or no_extent (take n all) (extents us) (omega arith)
    (λ k lt.
    let below : k < n = omega arith in
    get_or-take n all k no_extent below
    ∙ extent_is (us ++ more) k (omega (arith, length-append us more))
    ∙ extent_of_front us more k below
    ∙ sym (extent_is us k below)) in
    (drop n all, sym (take-append-drop n all) ∙ ap (λ l. l ++ drop n all) front)
