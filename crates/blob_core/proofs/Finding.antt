-- The nodes that are there lead to the newest versions, and so a woven node is the row's.
use Rattle.std.proofs.Common.{◌≡◌, ℕ, ◌+◌, ◌-◌, ◌*◌, ◌/◌, ◌^◌, ◌<◌, ◌≤◌, zero, suc, Bool, true, false, List, length, arith, inl, inr, refl, ap, sym, ◌∙◌, max}
use Rattle.std.specs.Prelude.{◌==◌, ◌&&◌, ◌||◌, not, nat_lt, nat_le, if◌then◌else◌, Some}
use Rattle.std.specs.List.{filter, position_or_len}
use Rattle.std.proofs.lemmas.List.Elements.{filter_agree}
use Rattle.std.proofs.lemmas.Bool.{cases_lt}
use Rattle.std.proofs.lemmas.Bool.Decides.{nat_tests}
use Rattle.std.proofs.lemmas.Nat.{mul-le, pow_pos}
use Rattle.std.proofs.Math.Nat.{pow-succ'}
use Rattle.blob_model.specs.Content.{Update}
use Rattle.blob_model.specs.Store.{Blob}
use Rattle.tree_geom.specs.declared.range.Range.{Range}
use Rattle.tree_geom.specs.declared.touch.Touch.{Touch}
use Rattle.tree_geom.specs.declared.node.Node.{Node}
use Rattle.tree_geom.specs.declared.node.Node.TheVariants.{Inner}
use Rattle.tree_geom.specs.Nodes.{depth_in}
use Rattle.tree_geom.specs.Geometry.{Meets, Aligned, meets_of, left_half, right_half, tree_range, page_range, span_of, height_of}
use Rattle.range_log.specs.declared.«open».OpenTouch.{OpenTouch}
use Rattle.range_log.specs.Log.{touch_at, size_at, newest_of, HasNode}
use Rattle.range_log.specs.Extents.{Extent, extent_at, size_after, touches, InBounds}
use Rattle.range_log.specs.Depths.{fold_number, depth_of, depth_after}
use Rattle.range_log.specs.Updates.{extents}
use Rattle.range_log.specs.Rows.{inner_of, leaf_at, leaf_of, covered, back_by, folded_of, folds_of, edge_pages, pages_in, valid_in, whole_leaf, fold_at, node_of}
use Rattle.range_log.specs.Walk.{half_toward, descend, root_of, found, waiting_of}
use Rattle.range_log.proofs.Bytes.{length-extents}
use Rattle.range_log.proofs.Depths.{depth_of_newest, depth_none, depth_next}
use Rattle.range_log.proofs.Grown.{grown_updates, length-touches, touch-touches}
use Rattle.range_log.proofs.Greatest.{newest_hit}
use Rattle.range_log.proofs.Links.{newest_has_node}
use Rattle.range_log.proofs.Nodes.{node_leaf, leaf_depth}
use Rattle.blob_core.specs.World.{World, UpdateEntry, node_in, log_of, waiting_after}
use Rattle.blob_core.specs.Woven.{link_toward, followed, found_in, greatest_open, older_link, link_of, depth_found, depth_through, woven_depth, woven_folded, woven_folds, woven_leaf, woven}
use Rattle.blob_core.proofs.Growing.{Cited}
use Rattle.range_log.proofs.Walk.{double}
use Rattle.range_log.proofs.Growth.{folds-are}

-- ---- ranges
abbrev pub ranged : ℕ → ℕ → Range
ranged o s = record { offset = o; size = s }

pub size_pos : (p h : ℕ) → 1 ≤ p → p ≤ p * 2 ^ h
size_pos p h pos = let e : p * 1 ≤ p * 2 ^ h = mul-le p 1 p (2 ^ h) (omega arith) (pow_pos h) in omega arith

half_size : (p h : ℕ) → p * 2 ^ suc h / 2 ≡ p * 2 ^ h
half_size p h = rw (pow-succ' 2 h) (omega arith)

pub page_is : (p i : ℕ) → page_range p i ≡ tree_range p 0 i
page_is p i = let e : p ≡ p * 2 ^ 0 = omega arith in ap (λ s. ranged (i * s) s) e

pub left_is : (p h q : ℕ) → left_half (tree_range p (suc h) q) ≡ tree_range p h (2 * q)
left_is p h q =
    let s : p * 2 ^ suc h / 2 ≡ p * 2 ^ h = half_size p h in
    let o : q * (p * 2 ^ suc h) ≡ 2 * q * (p * 2 ^ h) = rw (pow-succ' 2 h) (omega arith) in
    ap (λ n. ranged n (p * 2 ^ suc h / 2)) o ∙ ap (ranged (2 * q * (p * 2 ^ h))) s

pub right_is : (p h q : ℕ) → right_half (tree_range p (suc h) q) ≡ tree_range p h (2 * q + 1)
right_is p h q =
    let s : p * 2 ^ suc h / 2 ≡ p * 2 ^ h = half_size p h in
    let o : q * (p * 2 ^ suc h) + p * 2 ^ suc h / 2 ≡ (2 * q + 1) * (p * 2 ^ h) = rw (s, pow-succ' 2 h) (omega arith) in
    ap (λ n. ranged n (p * 2 ^ suc h / 2)) o ∙ ap (ranged ((2 * q + 1) * (p * 2 ^ h))) s

-- ---- tests
pub test_some : (n : ℕ) → 1 ≤ n → (n == 0) ≡ false
test_some n h = grind (arith, nat_tests)

pub test_none : (n : ℕ) → n ≤ 0 → (n == 0) ≡ true
test_none n h = grind (arith, nat_tests)

test_le : (a b : ℕ) → a ≤ b → nat_le a b ≡ true
test_le a b h = grind (arith, nat_tests)

test_above : (a b : ℕ) → b < a → nat_le a b ≡ false
test_above a b h = grind (arith, nat_tests)

test_apart : (a b : ℕ) → b < a → (a == b) ≡ false
test_apart a b h = grind (arith, nat_tests)

pub test_same : (a b : ℕ) → a ≡ b → (a == b) ≡ true
test_same a b h = grind (arith, nat_tests)

choose_number : (b : Bool) (f : Range → ℕ) (x y : Range) → (if b then f x else f y) ≡ f (if b then x else y)
choose_number true f x y = refl
choose_number false f x y = refl

choose_fact : (P : Range → Type 0) (b : Bool) (x y : Range) → P x → P y → P (if b then x else y)
choose_fact P true x y p q = p
choose_fact P false x y p q = q

-- the rows of the versions up to n are there
abbrev pub RowsKnown : ℕ → World → ℕ → List Update → ℕ → Type 0
RowsKnown p w blob us n = (j : ℕ) (r : Range) → j ≤ n → HasNode p (log_of p us) j r → node_in w blob j r ≡ Some (node_of p (extents us) j r)

pub inner_is : (p : ℕ) (us : List Extent) (j : ℕ) (r : Range) → p < r.size → node_of p us j r ≡ inner_of p us j r
inner_is p us j r large = let t : (r.size == p) ≡ false = test_apart r.size p large in rw t refl

span_zero : (p : ℕ) → span_of p 0 ≡ 0
unfolding span_of
span_zero p = refl

-- ---- what the nodes lead to, where the rows of the versions up to n are there
module _ (c : Cited) (p : ℕ) (w : World) (blob : ℕ) (us : List Update) (n : ℕ) (pos : 1 ≤ p) (ok : InBounds (extents us)) (known : RowsKnown p w blob us n) (in_list : n ≤ length us) where
  abbrev log : List Touch
  log = log_of p us

  abbrev xs : List Extent
  xs = extents us

  followed_is : (most j : ℕ) (r target : Range) → j ≤ n → HasNode p log j r → p ≤ target.size → followed most w blob j r target ≡ descend most p log j r target
  unfolding followed descend
  followed_is zero j r target le has large = refl
  followed_is (suc most) j r target le has large =
      elim (cases_lt target.size r.size) [
        | inr stop ↦ (let t : nat_le r.size target.size ≡ true = test_le r.size target.size stop in rw (t, followed, descend) refl)
        | inl on ↦
            (let t : nat_le r.size target.size ≡ false = test_above r.size target.size on in
            let is : node_in w blob j r ≡ Some (node_of p xs j r) = known j r le has in
            let wide : p < r.size = omega arith in
            let half : Range = half_toward r target in
            let m : ℕ = newest_of p log j half in
            let link : link_toward (node_of p xs j r) r target ≡ m =
            ap (λ (x : Node). link_toward x r target) (inner_is p xs j r wide)
            ∙ choose_number (nat_lt target.offset (r.offset + r.size / 2)) (λ (x : Range). newest_of p log j x) (left_half r) (right_half r) in
            elim (cases_lt 0 m) [
              | inr none ↦
                  (let f : (m == 0) ≡ true = test_none m none in
                  let g : (link_toward (node_of p xs j r) r target == 0) ≡ true = ap (λ (k : ℕ). k == 0) link ∙ f in
                  rw (t, is, g, f, followed, descend) refl)
              | inl some ↦
                  (let f : (m == 0) ≡ false = test_some m some in
                  let g : (link_toward (node_of p xs j r) r target == 0) ≡ false = ap (λ (k : ℕ). k == 0) link ∙ f in
                  let upto : m ≤ j = (c.greatest p j log half).0.upto in
                  let leads = c.lead p j xs r pos ok has wide in
                  let P : Range → Type 0 = λ x. 1 ≤ newest_of p log j x → HasNode p log (newest_of p log j x) x in
                  let next : HasNode p log m half = choose_fact P (nat_lt target.offset (r.offset + r.size / 2)) (left_half r) (right_half r) leads.0 leads.1 some in
                  rw (t, is, g, f, followed, descend) (ap (λ (k : ℕ). followed most w blob k half target) link ∙ followed_is most m half target (omega arith) next large))
            ])
      ]

  found_same : (v h q : ℕ) → v ≤ n → found_in p w blob log v (tree_range p h q) ≡ found p log v (tree_range p h q)
  unfolding found_in found
  found_same zero h q le =
      let t : nat_le (span_of p (size_at log 0)) (tree_range p h q).offset ≡ true = test_le (span_of p (size_at log 0)) (tree_range p h q).offset (omega (arith, span_zero p)) in
      rw (t, found_in, found) refl
  found_same (suc v) h q le =
      let r : Range = tree_range p h q in
      let root : HasNode p log (suc v) (root_of p log (suc v)) = c.roots p (suc v) xs pos ok (omega arith) (omega (arith, length-extents us)) in
      elim (cases_lt r.offset (span_of p (size_at log (suc v)))) [
        | inr past ↦ (let t : nat_le (span_of p (size_at log (suc v))) r.offset ≡ true = test_le (span_of p (size_at log (suc v))) r.offset past in rw (t, found_in, found) refl)
        | inl inside ↦
            (let t : nat_le (span_of p (size_at log (suc v))) r.offset ≡ false = test_above (span_of p (size_at log (suc v))) r.offset inside in
            rw (t, found_in, found) (followed_is (height_of p (size_at log (suc v))) (suc v) (root_of p log (suc v)) r le root (size_pos p h pos)))
      ]

  pub found_newest : (v : ℕ) (r : Range) → v ≤ n → Aligned p r → found_in p w blob (log_of p us) v r ≡ newest_of p (log_of p us) v r
  found_newest v r le (h, q, e) = rw e (found_same v h q le ∙ c.find p v h q xs pos ok (omega (arith, length-extents us)))

  depth_found_is : (v i : ℕ) → v ≤ n → depth_found p w blob log v i ≡ depth_of p log v i
  depth_found_is v i le =
      let r : Range = page_range p i in
      let m : ℕ = newest_of p log v r in
      let f : found_in p w blob log v r ≡ m = found_newest v r le (0, i, page_is p i) in
      elim (cases_lt 0 m) [
        | inr none ↦
            (let z : m ≡ 0 = omega arith in
            let t : (found_in p w blob log v r == 0) ≡ true = test_none (found_in p w blob log v r) (omega (arith, f)) in
            rw (t, depth_found) (sym (depth_none p log i) ∙ ap (λ (k : ℕ). depth_of p log k i) (sym z) ∙ depth_of_newest p v i log))
        | inl some ↦
            (let in_log : v ≤ length log = omega (arith, length-touches p xs, length-extents us) in
            let has : HasNode p log m r = rw (page_is p i) (newest_has_node p log v 0 i pos (grown_updates p xs pos ok) in_log (inl refl) (rw (page_is p i) at some)) in
            let upto : m ≤ v = (c.greatest p v log r).0.upto in
            let t : (found_in p w blob log v r == 0) ≡ false = test_some (found_in p w blob log v r) (omega (arith, f, some)) in
            let node : node_in w blob (found_in p w blob log v r) r ≡ Some (node_of p xs m r) = rw f (known m r (omega arith) has) in
            rw (t, node, depth_found) (ap depth_in (node_leaf p m i xs pos) ∙ leaf_depth p m i xs ∙ depth_of_newest p v i log))
      ]

-- ---- hints
if_upto : (b : Bool) (x y m : ℕ) → x ≤ m → y ≤ m → (if b then x else y) ≤ m
if_upto true x y m a b = a
if_upto false x y m a b = b

waiting_upto : (p : ℕ) (log : List Touch) (v n : ℕ) (r : Range) → waiting_of p log v n r ≤ v + n
unfolding waiting_of
waiting_upto p log v zero r = omega arith
waiting_upto p log v (suc n) r = if_upto (meets_of p (touch_at log (suc (v + n))) r) _ _ (v + suc n) (omega arith) (omega (arith, waiting_upto p log v n r))

max_pick : (b : Bool) (x y : ℕ) → y ≤ x → max (if b then x else 0) y ≡ (if b then x else y)
max_pick true x y le = omega arith
max_pick false x y le = omega arith

greatest_is : (p : ℕ) (log : List Touch) (v n : ℕ) (r : Range) → greatest_open p (waiting_after log v n) r ≡ waiting_of p log v n r
unfolding waiting_of
greatest_is p log v zero r = refl
greatest_is p log v (suc n) r =
    ap (λ (g : ℕ). max (if meets_of p (touch_at log (suc (v + n))) r then suc (v + n) else 0) g) (greatest_is p log v n r)
    ∙ max_pick (meets_of p (touch_at log (suc (v + n))) r) (suc (v + n)) (waiting_of p log v n r) (omega (arith, waiting_upto p log v n r))

through_is : (p : ℕ) (log : List Touch) (v n i d : ℕ) → d ≡ depth_of p log v i → depth_through fold_number p (waiting_after log v n) i d ≡ depth_of p log (v + n) i
through_is p log v zero i d e = let z : v ≡ v + 0 = omega arith in e ∙ ap (λ (k : ℕ). depth_of p log k i) z
through_is p log v (suc n) i d e =
    let z : suc (v + n) ≡ v + suc n = omega arith in
    ap (depth_after fold_number p (touch_at log (suc (v + n))) i) (through_is p log v n i d e)
    ∙ sym (depth_next p log (v + n) i)
    ∙ ap (λ (k : ℕ). depth_of p log k i) z

-- a leaf, of whether its update stores the page anew, of the pages that it does, of its back and of its depth
abbrev leaf_form : ℕ → Extent → ℕ → ℕ → Bool → List ℕ → ℕ → ℕ → Node
leaf_form p x i valid anew folds back depth =
    if anew then whole_leaf (pages_in p x.len + position_or_len (λ j. j == i) folds) valid else leaf_at p x i back depth

-- its back is asked for only where it doesn't
same_leaf : (whole anew : Bool) (n : ℕ) (a : Node) (b : ℕ → Node) → (if anew then a else b (if whole then 0 else n)) ≡ (if anew then a else b (if whole || anew then 0 else n))
same_leaf true true n a b = refl
same_leaf true false n a b = refl
same_leaf false true n a b = refl
same_leaf false false n a b = refl

back_asked : (p : ℕ) (us : List Extent) (k i : ℕ)
    → leaf_form p (extent_at us k) i (valid_in p (size_after us k) i) (folded_of p us k i) (folds_of p us k)
    (if covered p us k i then 0 else newest_of p (touches p us) (k - 1) (page_range p i)) (depth_of p (touches p us) k i)
    ≡ leaf_of p us k i
unfolding back_by
back_asked p us k i =
    same_leaf (covered p us k i) (folded_of p us k i) (newest_of p (touches p us) (k - 1) (page_range p i)) (whole_leaf (fold_at fold_number p us k i) (valid_in p (size_after us k) i))
    (λ back. leaf_at p (extent_at us k) i back (depth_of p (touches p us) k i))

-- ---- what an update's writer finds and weaves, where its hints are those of its numbering
module _ (c : Cited) (p : ℕ) (w : World) (blob : ℕ) (b : Blob) (kept : UpdateEntry) (k n : ℕ) (pos : 1 ≤ p) (ok : InBounds (extents b.updates))
    (known : RowsKnown p w blob b.updates kept.published) (hints : kept.waiting ≡ waiting_after (log_of p b.updates) kept.published n) (sum : kept.published + n ≡ k)
    (in_list : suc k ≤ length b.updates) where
  abbrev its_log : List Touch
  its_log = log_of p b.updates

  abbrev its_xs : List Extent
  its_xs = extents b.updates

  -- what it finds among its hints, or else by links, is the newest older version
  older_is : (r : Range) → Aligned p r → older_link p w blob b kept r ≡ newest_of p its_log k r
  older_is r (h, q, e) =
      let v : ℕ = kept.published in
      let t : Range = tree_range p h q in
      let pick : ℕ → ℕ → ℕ = λ g f. if g == 0 then f else g in
      let g : greatest_open p kept.waiting t ≡ waiting_of p its_log v n t = ap (λ (l : List OpenTouch). greatest_open p l t) hints ∙ greatest_is p its_log v n t in
      rw (e, ← sum)
      (ap (λ (x : ℕ). pick x (found_in p w blob its_log v t)) g
      ∙ ap (pick (waiting_of p its_log v n t)) (found_same c p w blob b.updates v pos ok known (omega arith) v h q (omega arith))
      ∙ sym (c.weave p v n h q its_xs pos ok (omega (arith, length-extents b.updates))))

  -- the depth that it weaves is that of its leaf
  woven_depth_is : (i : ℕ) → woven_depth fold_number p w blob b kept (suc k) i ≡ depth_of p its_log (suc k) i
  woven_depth_is i =
      let v : ℕ = kept.published in
      let at : depth_found p w blob its_log v i ≡ depth_of p its_log v i = depth_found_is c p w blob b.updates v pos ok known (omega arith) v i (omega arith) in
      ap (λ (l : List OpenTouch). depth_after fold_number p (touch_at its_log (suc k)) i (depth_through fold_number p l i (depth_found p w blob its_log v i))) hints
      ∙ ap (depth_after fold_number p (touch_at its_log (suc k)) i) (through_is p its_log v n i (depth_found p w blob its_log v i) at ∙ ap (λ (m : ℕ). depth_of p its_log m i) sum)
      ∙ sym (depth_next p its_log k i)

  folded_same : (j : ℕ) → woven_folded fold_number p w blob b kept (suc k) j ≡ folded_of p its_xs (suc k) j
  folded_same j = ap (λ (d : ℕ). not (covered p its_xs (suc k) j) && d == 0) (woven_depth_is j)

  folds_same : woven_folds fold_number p w blob b kept (suc k) ≡ folds_of p its_xs (suc k)
  folds_same =
      filter_agree (λ j. woven_folded fold_number p w blob b kept (suc k) j) (λ j. folded_of p its_xs (suc k) j) folded_same (edge_pages (touch_at its_log (suc k)))
      ∙ ap (λ (t : Touch). filter (λ j. folded_of p its_xs (suc k) j) (edge_pages t)) (touch-touches p its_xs k (omega (arith, in_list, length-extents b.updates)))
      ∙ sym (folds-are p its_xs (suc k))

  leaf_same : (i : ℕ) → woven_leaf fold_number p w blob b kept (suc k) i ≡ leaf_of p its_xs (suc k) i
  leaf_same i =
      let form : Bool → List ℕ → ℕ → ℕ → Node = λ anew folds back depth. leaf_form p (extent_at its_xs (suc k)) i (valid_in p (size_after its_xs (suc k)) i) anew folds back depth in
      let older : ℕ → ℕ = λ x. if covered p its_xs (suc k) i then 0 else x in
      let depth : ℕ = woven_depth fold_number p w blob b kept (suc k) i in
      let less : k ≡ suc k - 1 = omega arith in
      let e : older_link p w blob b kept (page_range p i) ≡ newest_of p its_log (suc k - 1) (page_range p i) =
      older_is (page_range p i) (0, i, page_is p i) ∙ ap (λ (m : ℕ). newest_of p its_log m (page_range p i)) less in
      ap (λ (t : Bool). form t (woven_folds fold_number p w blob b kept (suc k)) (older (older_link p w blob b kept (page_range p i))) depth) (folded_same i)
      ∙ ap (λ (l : List ℕ). form (folded_of p its_xs (suc k) i) l (older (older_link p w blob b kept (page_range p i))) depth) folds_same
      ∙ ap (λ (x : ℕ). form (folded_of p its_xs (suc k) i) (folds_of p its_xs (suc k)) (older x) depth) e
      ∙ ap (form (folded_of p its_xs (suc k) i) (folds_of p its_xs (suc k)) (older (newest_of p its_log (suc k - 1) (page_range p i)))) (woven_depth_is i)
      ∙ back_asked p its_xs (suc k) i

  link_is : (r : Range) → Aligned p r → link_of p w blob b kept (suc k) r ≡ newest_of p its_log (suc k) r
  unfolding newest_of
  link_is r aligned = ap (λ (x : ℕ). if meets_of p (touch_at its_log (suc k)) r then suc k else x) (older_is r aligned)

  woven_tree : (h q : ℕ) → woven p w blob b kept (suc k) (tree_range p h q) ≡ node_of p its_xs (suc k) (tree_range p h q)
  woven_tree zero q =
      let t : ((tree_range p 0 q).size == p) ≡ true = test_same (tree_range p 0 q).size p (omega arith) in
      rw t (leaf_same ((tree_range p 0 q).offset / p))
  woven_tree (suc h) q =
      let r : Range = tree_range p (suc h) q in
      let t : (r.size == p) ≡ false = test_apart r.size p (omega (arith, size_pos p h pos, double p h)) in
      let both : ℕ → ℕ → Node = λ x y. Inner x y in
      rw t
      (ap (λ (x : ℕ). both x (link_of p w blob b kept (suc k) (right_half r))) (link_is (left_half r) (h, 2 * q, left_is p h q))
      ∙ ap (both (newest_of p its_log (suc k) (left_half r))) (link_is (right_half r) (h, 2 * q + 1, right_is p h q)))

module _ (c : Cited) (p : ℕ) (w : World) (blob : ℕ) (b : Blob) (kept : UpdateEntry) where
  -- whether an update stores a page anew, as its writer weaves it, is what its row says
  pub woven_folded_is : (k : ℕ) → 1 ≤ p → InBounds (extents b.updates) → RowsKnown p w blob b.updates kept.published → kept.published < k
      → kept.waiting ≡ waiting_after (log_of p b.updates) kept.published (k - 1 - kept.published) → k ≤ length b.updates
      → (i : ℕ) → woven_folded fold_number p w blob b kept k i ≡ folded_of p (extents b.updates) k i
  woven_folded_is zero pos ok known before hints in_list i = absurd (omega arith)
  woven_folded_is (suc k) pos ok known before hints in_list i = folded_same c p w blob b kept k (suc k - 1 - kept.published) pos ok known hints (omega arith) in_list i

  -- the node that an update's writer weaves is that of its row
  pub woven_is : (k : ℕ) (r : Range) → 1 ≤ p → InBounds (extents b.updates) → RowsKnown p w blob b.updates kept.published → kept.published < k
      → kept.waiting ≡ waiting_after (log_of p b.updates) kept.published (k - 1 - kept.published) → k ≤ length b.updates
      → Aligned p r → woven p w blob b kept k r ≡ node_of p (extents b.updates) k r
  woven_is zero r pos ok known before hints in_list al = absurd (omega arith)
  woven_is (suc k) r pos ok known before hints in_list (h, q, e) = rw e (woven_tree c p w blob b kept k (suc k - 1 - kept.published) pos ok known hints (omega arith) in_list h q)

-- ---- a leaf that is stored anew
-- its update doesn't cover the page
pub uncovered : (whole : Bool) (d : ℕ) → (not whole && d == 0) ≡ true → whole ≡ false
uncovered true d e = sym e
uncovered false d e = refl

-- an update that touches a page has a leaf of it
pub touched_node : (p k i : ℕ) (xs : List Extent) → 1 ≤ p → InBounds xs → 1 ≤ k → k ≤ length xs → Meets p (touch_at (touches p xs) k) (page_range p i) → HasNode p (touches p xs) k (page_range p i)
touched_node p zero i xs pos ok some le met = absurd (omega arith)
touched_node p (suc k) i xs pos ok some le met =
    let log : List Touch = touches p xs in
    let at : newest_of p log (suc k) (tree_range p 0 i) ≡ suc k = ap (newest_of p log (suc k)) (sym (page_is p i)) ∙ newest_hit p log k (page_range p i) met in
    rw (page_is p i) (rw at at (newest_has_node p log (suc k) 0 i pos (grown_updates p xs pos ok) (omega (arith, le, length-touches p xs)) (inl refl)) (omega arith))
