-- The ranges of a row, and the node of one of them.
use Rattle.std.proofs.Common.{◌≡◌, ◌↔◌, ℕ, ◌+◌, ◌-◌, ◌*◌, ◌/◌, ◌%◌, ◌^◌, ◌<◌, ◌≤◌, zero, suc, Bool, true, false, List, [], ◌∷◌, length, get_or, arith, inl, inr, refl, ap, sym, subst, ◌∙◌}
use Rattle.std.specs.Prelude.{◌==◌, not, cond, if◌then◌else◌, Option, None, Some, slice_index_or}
use Rattle.std.specs.List.{Contains, filter, position_or_len}
use Rattle.std.specs.Option.{is_some}
use Rattle.std.proofs.lemmas.Bool.{cases_lt}
use Rattle.std.proofs.lemmas.List.{get_or_default, get_or_read}
use Rattle.std.proofs.lemmas.Bool.Decides.{nat_tests}
use Rattle.std.proofs.Math.Nat.{mul-div_cancel, mul-le-mul_right, lt_of_mul-lt-mul_right}
use Rattle.blob_model.specs.Content.{Update, offset_of, size_of}
use Rattle.blob_model.specs.Store.{Blob, assigned}
use Rattle.tree_geom.specs.declared.range.Range.{Range}
use Rattle.tree_geom.specs.declared.node.Node.{Node}
use Rattle.tree_geom.specs.declared.node.NodeKey.{NodeKey}
use Rattle.tree_geom.specs.declared.node.Node.TheVariants.{Leaf}
use Rattle.tree_geom.specs.declared.node.Piece.{Piece}
use Rattle.tree_geom.specs.declared.touch.Touch.{Touch}
use Rattle.tree_geom.specs.Geometry.{Aligned, Meets, covers, no_touch, span_of, tree_range, page_range}
use Rattle.tree_geom.specs.Nodes.{no_piece}
use Rattle.range_log.specs.Depths.{fold_number, depth_by, depth_of, depth_after}
use Rattle.range_log.specs.Log.{HasNode, touch_at, size_at, newest_of}
use Rattle.range_log.specs.Extents.{Extent, extent_at, size_after, touch_of, touches}
use Rattle.range_log.specs.Updates.{Replayable, extents, update_at, no_update}
use Rattle.range_log.specs.Rows.{leaf_len, leaf_start, leaf_from, leaf_of, covered, back_by, back_of, folded_of, folds_by, folds_of, first_piece, second_piece, piece_count, pages_in, valid_in}
use Rattle.range_log.specs.Laws.{ExtentsStand, FoldsAre}
use Rattle.range_log.proofs.Bytes.{length-extents, extent_is}
use Rattle.range_log.proofs.Grown.{touch-touches}
use Rattle.range_log.proofs.Links.{older_page}
use Rattle.blob_core.specs.World.{IsKnown, node_at, log_of}
use Rattle.blob_core.specs.Acts.{AreThere, IsLogOf}
use Rattle.blob_core.proofs.Lists.{none_some}
use Rattle.blob_core.proofs.Growing.{length_log, size_in_log}
use Rattle.blob_core.proofs.Finding.{size_pos, test_same, touched_node, uncovered}
use Rattle.range_log.proofs.Walk.{double}
use Rattle.blob_core.proofs.Sound.{log_size}

-- ---- whether the nodes are there
pub none_of : {V : Type 0} (o : Option V) → is_some o ≡ false → o ≡ None
none_of None e = refl
none_of (Some v) e = (let never : ⊥ = cc in absurd never)

pub not_true : (b : Bool) → not b ≡ true → b ≡ false
not_true true e = sym e
not_true false e = refl

pub not_false : (b : Bool) → not b ≡ false → b ≡ true
not_false true e = refl
not_false false e = sym e

pub some_of : {V : Type 0} (o : Option V) → is_some o ≡ true → (v : V) × (o ≡ Some v)
some_of (Some v) e = (v, refl)
some_of None e = (let never : ⊥ = cc in absurd never)

abbrev pub ThereUpTo : List (NodeKey × Node) → ℕ → ℕ → List Range → ℕ → Type 0
ThereUpTo nodes blob version keys i = (k : ℕ) (r : Range) → k < i → get_or keys k r ≡ r → IsKnown (node_at nodes (record { blob = blob; version = version; range = r }))

pub there_next : (nodes : List (NodeKey × Node)) (blob version : ℕ) (keys : List Range) (i : ℕ) (d : Range) (n : Node) → ThereUpTo nodes blob version keys i → i < length keys
    → node_at nodes (record { blob = blob; version = version; range = get_or keys i d }) ≡ Some n → ThereUpTo nodes blob version keys (i + 1)
there_next nodes blob version keys i d n upto lt is k r le at =
    elim (cases_lt k i) [
      | inl below ↦ upto k r below at
      | inr here ↦
          (let same : k ≡ i = omega arith in
          let e : get_or keys i d ≡ r = get_or_default keys i d r lt ∙ ap (λ (j : ℕ). get_or keys j r) (sym same) ∙ at in
          let K : Range → Type 0 = λ x. IsKnown (node_at nodes (record { blob = blob; version = version; range = x })) in
          subst K e (n, is))
    ]

pub not_there_at : (nodes : List (NodeKey × Node)) (blob version : ℕ) (keys : List Range) (i : ℕ) (d : Range) → i < length keys
    → node_at nodes (record { blob = blob; version = version; range = get_or keys i d }) ≡ None → ¬ AreThere nodes blob version keys
not_there_at nodes blob version keys i d lt none all =
    let (n, is) = all (get_or keys i d) (i, lt, get_or_default keys i (get_or keys i d) d lt) in
    none_some _ n none is

pub all_there : (nodes : List (NodeKey × Node)) (blob version : ℕ) (keys : List Range) (i : ℕ) → length keys ≤ i → ThereUpTo nodes blob version keys i → AreThere nodes blob version keys
all_there nodes blob version keys i le upto r (k, lt, at) = upto k r (omega arith) at

-- ---- where an update falls
pub extent_here : (us : List Update) (k : ℕ) (u : Update) (n : ℕ) → k < length us → u ≡ get_or us k u → n ≡ size_of us k
    → extent_at (extents us) (suc k) ≡ record { at = offset_of u.place n; len = length u.bytes }
extent_here us k u n lt is size = rw (size, get_or_read us k u lt is no_update) (extent_is us k lt)

-- ---- a range of the row
larger : (p h q : ℕ) → 1 ≤ p → (p * 2 ^ h ≡ p → ⊥) → p * 2 ^ h % 2 ≡ 0
larger p zero q pos apart = absurd (apart (omega arith))
larger p (suc h) q pos apart = (let e : p * 2 ^ suc h ≡ 2 * (p * 2 ^ h) = double p h in omega arith)

-- a range of two pages or more has an even size
pub even_size : (p : ℕ) (r : Range) → 1 ≤ p → Aligned p r → (r.size ≡ p → ⊥) → r.size % 2 ≡ 0
even_size p r pos (h, q, e) apart = rw e (larger p h q pos (λ same. apart (rw e same)))

one_page : (p h q : ℕ) → 1 ≤ p → p * 2 ^ h ≡ p → tree_range p h q ≡ page_range p (q * (p * 2 ^ h) / p)
one_page p zero q pos e = rw (e, mul-div_cancel q pos) refl
one_page p (suc h) q pos e = absurd (omega (arith, size_pos p h pos, double p h))

-- a range of a page's size is that page
pub page_of : (p : ℕ) (r : Range) → 1 ≤ p → Aligned p r → r.size ≡ p → r ≡ page_range p (r.offset / p)
page_of p r pos (h, q, e) size = rw e (one_page p h q pos (rw e at size))

-- the log of a blob's updates has an item for each, with the size after it
pub log_tells : ExtentsStand → (p : ℕ) (b : Blob) (log : List Touch) → IsLogOf p b log
    → (length log ≡ length b.updates) × ((v : ℕ) → v ≤ length b.updates → size_at log v ≡ size_of b.updates v)
log_tells stand p b log l = rw l.is (length_log p b.updates, λ v le. log_size stand p b.updates v l.replay le)

-- the versions that have a row
pub has_version : (p : ℕ) (us : List Update) (k : ℕ) (r : Range) → HasNode p (log_of p us) k r → (1 ≤ k) × (k ≤ length us)
has_version p us k r has = (has.version.0, omega (arith, has.version.1, length_log p us))

-- the range of a row ends where a tree may end
pub range_fits : (p : ℕ) (us : List Update) (log : List Touch) (k n : ℕ) (r : Range) → log ≡ log_of p us → HasNode p (log_of p us) k r → n ≡ size_at log k → span_of p n ≤ 2 ^ 40
    → r.offset + r.size ≤ 2 ^ 40
range_fits p us log k n r is has size fits = (let top = rw (size, is) at fits in omega (arith, top, has.within))

-- an item of the log is what the update of its version touches
touch_item : (p : ℕ) (us : List Update) (log : List Touch) (k : ℕ) → log ≡ log_of p us → 1 ≤ k → k ≤ length us → slice_index_or log (k - 1) no_touch ≡ touch_at (log_of p us) k
touch_item p us log zero is some le = absurd (omega arith)
touch_item p us log (suc k) is some le =
    let down : suc k - 1 ≡ k = omega arith in
    rw (down, is) refl

touch_own : (p : ℕ) (us : List Update) (k : ℕ) → 1 ≤ k → k ≤ length us → touch_at (log_of p us) k ≡ touch_of p (extents us) k
touch_own p us zero some le = absurd (omega arith)
touch_own p us (suc k) some le = touch-touches p (extents us) k (omega (arith, le, length-extents us))

-- ---- the leaf of a page
end_within : ExtentsStand → (us : List Update) (k : ℕ) → Replayable us → ((v : ℕ) → v ≤ length us → size_of us v ≤ 2 ^ 40) → 1 ≤ k → k ≤ length us
    → (extent_at (extents us) k).at + (extent_at (extents us) k).len ≤ 2 ^ 40
end_within stand us zero ok fits some le = absurd (omega arith)
end_within stand us (suc k) ok fits some le =
    let size : size_after (extents us) (suc k) ≡ size_of us (suc k) = (stand us ok).2 (suc k) le in
    omega (arith, size, fits (suc k) le)

-- what stands of a version that has a row, in a log of the blob's updates
pub record VersionStands (p : ℕ) (b : Blob) (log : List Touch) (k : ℕ) (r : Range) : Type 0 where
  pub some : 1 ≤ k
  pub upto : k ≤ length b.updates
  pub count : length log ≡ length b.updates
  pub sizes : (v : ℕ) → v ≤ length b.updates → size_at log v ≡ size_of b.updates v
  pub small : size_at log k ≤ 2 ^ 40
  pub within : k ≤ length log
  pub inside : (extent_at (extents b.updates) k).at + (extent_at (extents b.updates) k).len ≤ 2 ^ 40
  pub ends : (n : ℕ) → n ≡ size_at log k → span_of p n ≤ 2 ^ 40 → r.offset + r.size ≤ 2 ^ 40

pub version_stands : ExtentsStand → {p : ℕ} {b : Blob} {log : List Touch} {k : ℕ} {r : Range} → IsLogOf p b log → HasNode p (log_of p b.updates) k r → VersionStands p b log k r
version_stands stand {p} {b} {log} {k} {r} l has =
    let v = has_version p b.updates k r has in
    let (count, sizes) = log_tells stand p b log l in
    record {
      some = v.0;
      upto = v.1;
      count = count;
      sizes = sizes;
      small = omega (arith, sizes k v.1, l.fits k v.1);
      within = omega (arith, count, v.1);
      inside = end_within stand b.updates k l.replay l.fits v.0 v.1;
      ends = λ n size fits. range_fits p b.updates log k n r l.is has size fits;
    }

-- an item of a list of updates
pub update_here : (us : List Update) (k : ℕ) (u : Update) → 1 ≤ k → k ≤ length us → u ≡ get_or us (k - 1) u → u ≡ update_at us k
update_here us zero u some le is = absurd (omega arith)
update_here us (suc k) u some le is =
    let down : suc k - 1 ≡ k = omega arith in
    get_or_read us k u (omega arith) (rw down at is) no_update

-- whether it covers a page, as the code tests it
pub covered_is : (p : ℕ) (us : List Update) (log : List Touch) (k i at len size : ℕ) → log ≡ log_of p us → k ≤ length us → at ≡ (extent_at (extents us) k).at
    → len ≡ (extent_at (extents us) k).len → size ≡ size_at log k → covers p at len size i ≡ covered p (extents us) k i
covered_is p us log k i at len size is upto begin count whole = rw (begin, count, whole, is, size_in_log p us k upto) refl

-- the bytes of an update lie below the greatest size
pub extent_within : ExtentsStand → (p : ℕ) (b : Blob) (log : List Touch) (k at len : ℕ) → IsLogOf p b log → 1 ≤ k → k ≤ assigned b
    → at ≡ (extent_at (extents b.updates) k).at → len ≡ (extent_at (extents b.updates) k).len → at + len ≤ 2 ^ 40
extent_within stand p b log k at len l some upto begin count = omega (arith, end_within stand b.updates k l.replay l.fits some upto, begin, count)

-- a depth after one more update
pub depth_next : (p : ℕ) (log : List Touch) (k i d n : ℕ) → d ≡ depth_of p log k i → n ≡ depth_after fold_number p (touch_at log (suc k)) i d → n ≡ depth_of p log (k + 1) i
unfolding depth_by
depth_next p log k i d n before next =
    let up : k + 1 ≡ suc k = omega arith in
    rw (next, before, up) refl

-- the touched pages are those between the first and the last
pub meets_page : (p : ℕ) (t : Touch) (i : ℕ) → 1 ≤ p → t.first ≤ i → i ≤ t.last → Meets p t (page_range p i)
meets_page p t i pos low high =
    let a : t.first * p ≤ i * p = mul-le-mul_right p low in
    let b : i * p ≤ t.last * p = mul-le-mul_right p high in
    (omega arith, omega arith, omega arith)

pub page_between : (p : ℕ) (t : Touch) (i : ℕ) → 1 ≤ p → Meets p t (page_range p i) → (t.first ≤ i) × (i ≤ t.last)
page_between p t i pos met =
    let low : t.first * p < (i + 1) * p = omega (arith, met.0) in
    (omega (arith, lt_of_mul-lt-mul_right p {m = t.first} {n = i + 1} low), omega (arith, lt_of_mul-lt-mul_right p {m = i} {n = t.last + 1} met.1))

-- ---- the place of a page among those that an update stores anew
short_place : (a : Bool) (first page : ℕ) → (page ≡ first → ⊥) → Contains (cond a (first ∷ []) []) page → position_or_len (λ j. j == page) (cond a (first ∷ []) []) ≡ (if a then 1 else 0)
short_place true first page other (zero, lt, e) = absurd (other (sym e))
short_place true first page other (suc n, lt, e) = absurd (omega arith)
short_place false first page other (n, lt, e) = absurd (omega arith)

last_place : (b : Bool) (last page : ℕ) → Contains (cond b (last ∷ []) []) page → position_or_len (λ j. j == page) (cond b (last ∷ []) []) ≡ 0
last_place true last page (zero, lt, e) = let t : (last == page) ≡ true = test_same last page e in rw t refl
last_place true last page (suc n, lt, e) = absurd (omega arith)
last_place false last page (n, lt, e) = absurd (omega arith)

long_place : (a b : Bool) (first last page : ℕ) → (page ≡ first → ⊥) → Contains (cond a (first ∷ cond b (last ∷ []) []) (cond b (last ∷ []) [])) page
    → position_or_len (λ j. j == page) (cond a (first ∷ cond b (last ∷ []) []) (cond b (last ∷ []) [])) ≡ (if a then 1 else 0)
long_place true b first last page other (zero, lt, e) = absurd (other (sym e))
long_place true b first last page other (suc n, lt, e) =
    let t : (first == page) ≡ false = grind (arith, nat_tests, other) in
    let rest : position_or_len (λ j. j == page) (cond b (last ∷ []) []) ≡ 0 = last_place b last page (n, omega arith, e) in
    rw t (ap (λ (m : ℕ). 1 + m) rest)
long_place false b first last page other has = last_place b last page has

other_place : (f : ℕ → Bool) (s : Bool) (first last page : ℕ) → (page ≡ first → ⊥) → Contains (filter f (if s then first ∷ [] else first ∷ last ∷ [])) page
    → position_or_len (λ j. j == page) (filter f (if s then first ∷ [] else first ∷ last ∷ [])) ≡ (if f first then 1 else 0)
other_place f true first last page other has = short_place (f first) first page other has
other_place f false first last page other has = long_place (f first) (f last) first last page other has

head_place : (f : ℕ → Bool) (first : ℕ) (rest : List ℕ) → f first ≡ true → position_or_len (λ j. j == first) (filter f (first ∷ rest)) ≡ 0
head_place f first rest e =
    let own : (first == first) ≡ true = test_same first first refl in
    ap (λ b. position_or_len (λ j. j == first) (cond b (first ∷ filter f rest) (filter f rest))) e
    ∙ ap (λ b. cond (not b) (1 + position_or_len (λ j. j == first) (filter f rest)) 0) own

first_place : (f : ℕ → Bool) (s : Bool) (first last : ℕ) → f first ≡ true → position_or_len (λ j. j == first) (filter f (if s then first ∷ [] else first ∷ last ∷ [])) ≡ 0
first_place f true first last e = head_place f first [] e
first_place f false first last e = head_place f first (last ∷ []) e

-- that of the first page that the update touches
pub place_first : (p : ℕ) (b : Blob) (log : List Touch) (k i : ℕ) → IsLogOf p b log → HasNode p (log_of p b.updates) k (page_range p i)
    → i ≡ (slice_index_or log (k - 1) no_touch).first → folded_of p (extents b.updates) k i ≡ true → 0 ≡ position_or_len (λ j. j == i) (folds_of p (extents b.updates) k)
unfolding folds_by
place_first p b log k i l has same anew =
    let us : List Extent = extents b.updates in
    let v = has_version p b.updates k (page_range p i) has in
    let u : Touch = touch_of p us k in
    let is : slice_index_or log (k - 1) no_touch ≡ u = touch_item p b.updates log k l.is v.0 v.1 ∙ touch_own p b.updates k v.0 v.1 in
    let f : ℕ → Bool = λ j. folded_of p us k j in
    let e : u.first ≡ i = rw is at (sym same) in
    rw (← e) (sym (first_place f (u.first == u.last) u.first u.last (rw e anew)))

-- that of another page
pub place_other : ExtentsStand → FoldsAre → (p : ℕ) (b : Blob) (log : List Touch) (k i : ℕ) (anew : Bool) → IsLogOf p b log → HasNode p (log_of p b.updates) k (page_range p i)
    → (i ≡ (slice_index_or log (k - 1) no_touch).first → ⊥) → folded_of p (extents b.updates) k i ≡ true
    → anew ≡ folded_of p (extents b.updates) k (slice_index_or log (k - 1) no_touch).first
    → (if anew then 1 else 0) ≡ position_or_len (λ j. j == i) (folds_of p (extents b.updates) k)
unfolding folds_by
place_other stand folds p b log k i anew l has other own first =
    let us : List Extent = extents b.updates in
    let v = has_version p b.updates k (page_range p i) has in
    let u : Touch = touch_of p us k in
    let is : slice_index_or log (k - 1) no_touch ≡ u = touch_item p b.updates log k l.is v.0 v.1 ∙ touch_own p b.updates k v.0 v.1 in
    let f : ℕ → Bool = λ j. folded_of p us k j in
    let within : Contains (folds_of p us k) i = ((folds p k us has.met.2 (stand b.updates l.replay).0 v.0 (omega (arith, v.1, length-extents b.updates))).0 i).1 (has.met, own) in
    rw (first, is) (sym (other_place f (u.first == u.last) u.first u.last i (rw is at other) within))

-- the first page lies before each other
pub first_fits : (p : ℕ) (b : Blob) (log : List Touch) (k i n : ℕ) → IsLogOf p b log → HasNode p (log_of p b.updates) k (page_range p i) → n ≡ size_at log k → span_of p n ≤ 2 ^ 40
    → (slice_index_or log (k - 1) no_touch).first * p + p ≤ 2 ^ 40
first_fits p b log k i n l has size fits =
    let v = has_version p b.updates k (page_range p i) has in
    let is : slice_index_or log (k - 1) no_touch ≡ touch_at (log_of p b.updates) k = touch_item p b.updates log k l.is v.0 v.1 in
    let low : (touch_at (log_of p b.updates) k).first ≤ i = (page_between p (touch_at (log_of p b.updates) k) i has.met.2 has.met).0 in
    let below : (touch_at (log_of p b.updates) k).first * p ≤ i * p = mul-le-mul_right p low in
    rw is (omega (arith, below, range_fits p b.updates log k n (page_range p i) l.is has size fits))

-- the pages that an update touches and stores anew, as the code tests it
pub folds_here : (p : ℕ) (b : Blob) (log : List Touch) (k i : ℕ) → IsLogOf p b log → 1 ≤ p → 1 ≤ k → k ≤ assigned b
    → (((slice_index_or log (k - 1) no_touch).first ≤ i) × (i ≤ (slice_index_or log (k - 1) no_touch).last)) ↔ Meets p (touch_at (log_of p b.updates) k) (page_range p i)
folds_here p b log k i l pos some upto =
    rw (touch_item p b.updates log k l.is some upto)
    (λ within. meets_page p (touch_at (log_of p b.updates) k) i pos within.0 within.1, λ met. page_between p (touch_at (log_of p b.updates) k) i pos met)

-- such a page lies where a tree may end
pub fold_fits : ExtentsStand → (p : ℕ) (b : Blob) (log : List Touch) (k i n : ℕ) → IsLogOf p b log → 1 ≤ p → 1 ≤ k → k ≤ assigned b
    → Meets p (touch_at (log_of p b.updates) k) (page_range p i) → n ≡ size_at log k → span_of p n ≤ 2 ^ 40 → i * p + p ≤ 2 ^ 40
fold_fits stand p b log k i n l pos some upto met size fits =
    let has : HasNode p (log_of p b.updates) k (page_range p i) =
    touched_node p k i (extents b.updates) pos (stand b.updates l.replay).0 some (omega (arith, upto, length-extents b.updates)) met in
    range_fits p b.updates log k n (page_range p i) l.is has size fits

-- and the version before its update has bytes
pub older_some : ExtentsStand → (p : ℕ) (b : Blob) (log : List Touch) (k i : ℕ) → IsLogOf p b log → HasNode p (log_of p b.updates) k (page_range p i)
    → folded_of p (extents b.updates) k i ≡ true → 1 ≤ size_at log (k - 1)
older_some stand p b log zero i l has anew = absurd (omega (arith, has.version.0))
older_some stand p b log (suc k) i l has anew =
    let us : List Extent = extents b.updates in
    let down : suc k - 1 ≡ k = omega arith in
    let part : covered p us (suc k) i ≡ false = uncovered (covered p us (suc k) i) (depth_of p (touches p us) (suc k) i) anew in
    let older : i * p < size_after us k = older_page p k i us has.met.2 (stand b.updates l.replay).0 has part in
    let le : k ≤ length b.updates = omega (arith, has.version.1, length_log p b.updates) in
    rw (down, l.is, size_in_log p b.updates k le) (omega (arith, older))

-- ---- the leaf itself
pub back_is : (p : ℕ) (us : List Extent) (k i : ℕ) (whole : Bool) (back : ℕ) → whole ≡ covered p us k i → folded_of p us k i ≡ false → (whole ≡ true → back ≡ 0)
    → (whole ≡ false → back ≡ newest_of p (touches p us) (k - 1) (page_range p i)) → back ≡ back_of p us k i
unfolding back_by
back_is p us k i true back e kept one other = rw (one refl, ← e) refl
back_is p us k i false back e kept one other = rw (other refl, kept, ← e) refl

pub own_leaf_is : (p : ℕ) (us : List Extent) (k i start from len count : ℕ) (first second : Piece) (depth back : ℕ) → folded_of p us k i ≡ false
    → start ≡ leaf_start p (extent_at us k) i → from ≡ leaf_from p (extent_at us k) i → len ≡ leaf_len p (extent_at us k) i
    → count ≡ piece_count p from len → first ≡ first_piece p from len → second ≡ second_piece p from len
    → depth ≡ depth_of p (touches p us) k i → back ≡ back_of p us k i → Leaf start count first second depth back ≡ leaf_of p us k i
own_leaf_is p us k i start from len count first second depth back kept begin of much pieces one two deep older =
    rw (pieces, one, two, begin, of, much, deep, older, kept) refl

pub whole_leaf_is : (p : ℕ) (us : List Extent) (k i number valid : ℕ) (second : Piece) → folded_of p us k i ≡ true
    → number ≡ pages_in p (extent_at us k).len + position_or_len (λ j. j == i) (folds_of p us k) → valid ≡ valid_in p (size_after us k) i → second ≡ no_piece
    → Leaf 0 1 (record { page = number; from = 0; len = valid }) second 0 0 ≡ leaf_of p us k i
whole_leaf_is p us k i number valid second anew place long none = rw (none, place, long, anew) refl
