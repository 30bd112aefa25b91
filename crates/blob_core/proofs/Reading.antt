-- A read by links brings the content, and visits no more nodes than the bound.
use Rattle.std.proofs.Common.{◌≡◌, ◌⊎◌, ℕ, ◌+◌, ◌-◌, ◌*◌, ◌/◌, ◌^◌, ◌<◌, ◌≤◌, zero, suc, true, false, List, [], ◌∷◌, ◌++◌, length, take, drop, arith, inl, inr, refl, ap, sym, subst, ◌∙◌, max, min, append-nil, take-add, length-append, length-drop, length-take}
use Rattle.std.proofs.Math.Seq.{take-length, take-nil, drop-nil}
use Rattle.std.specs.Prelude.{◌==◌, ◌&&◌, nat_le, nat_lt, Option, Some}
use Rattle.std.specs.List.{range_with_len, sum_by}
use Rattle.std.proofs.lemmas.Bool.{cases_lt}
use Rattle.std.proofs.lemmas.Bool.Decides.{nat_tests}
use Rattle.std.proofs.lemmas.List.{drop-drop, drop-take, take-take}
use Rattle.std.proofs.lemmas.List.Sums.{sum_by-append, sum_by-cons}
use Rattle.std.proofs.lemmas.Nat.{mul-le, div_below, le-div}
use Rattle.std.proofs.Math.Nat.{pow-succ', mul-div_cancel}
use Rattle.blob_model.specs.Content.{Update, put, content, size_of}
use Rattle.blob_model.specs.Store.{Blob, published}
use Rattle.tree_geom.specs.declared.range.Range.{Range}
use Rattle.tree_geom.specs.declared.touch.Touch.{Touch}
use Rattle.tree_geom.specs.declared.node.Node.{Node}
use Rattle.tree_geom.specs.declared.node.Piece.{Piece}
use Rattle.tree_geom.specs.Nodes.{left_link, right_link, back_link, is_leaf, start_of, first_of, second_of}
use Rattle.tree_geom.specs.Geometry.{tree_range, page_range, left_half, right_half, height_of, span_of}
use Rattle.range_log.specs.Log.{newest_of, size_at, HasNode}
use Rattle.range_log.specs.Extents.{Extent, extent_at, size_after, touches, InBounds}
use Rattle.range_log.specs.Updates.{update_at, extent_of, extents, page_bytes, own_bytes, piece_bytes}
use Rattle.range_log.specs.Rows.{leaf_of, leaf_at, whole_leaf, fold_at as fold_page, pages_in, valid_in, inner_of, back_of, covered, folded_of, leaf_start, leaf_from, leaf_len, first_piece, second_piece, node_of}
use Rattle.range_log.specs.Depths.{fold_number, depth_of}
use Rattle.range_log.proofs.Greatest.{bool_cases}
use Rattle.range_log.proofs.Leaves.{pieces_fit}
use Rattle.range_log.proofs.Links.{back_none, back_anew}
use Rattle.range_log.specs.Visits.{backs_of, visits}
use Rattle.range_log.specs.Walk.{nodes_visited, root_of}
use Rattle.range_log.proofs.Bytes.{extent_is, length-extents}
use Rattle.blob_core.specs.World.{World, UpdateEntry, AreCut, fold_at, nth_page, bytes_of_page, bytes_of_pages, node_in, kept_at, origin, log_of}
use Rattle.blob_core.specs.Walk.{Walked, nothing, both, over, stored_in, bytes_of_piece, page_walk, leaf_walk, tree_walk_from, cut_out, read_walk}
use Rattle.blob_core.proofs.Lists.{nth_is, SmallPages, page_small}
use Rattle.blob_core.proofs.Growing.{Cited, length_log, size_in_log}
use Rattle.blob_core.proofs.Finding.{ranged, size_pos, left_is, right_is, page_is, inner_is, test_same, test_some, test_none}
use Rattle.range_log.proofs.Walk.{double}
use Rattle.blob_core.proofs.Keeping.{Stands, BlobStands, UpdateStands, rows_known, in_bounds, published_finished, published_within}
use Rattle.tree_geom.proofs.Spans.{height_enough}

-- bytes put over none at the beginning are themselves
put_none : (start : ℕ) (own : List ℕ) → put [] start own ≡ own
put_none start own = simp (take-nil, drop-nil, append-nil)

-- ---- a leaf
-- what a leaf's back brings
abbrev pub older_walk : ℕ → ℕ → World → ℕ → ℕ → ℕ → Walked
older_walk most p w blob back i = let older : Walked = elim (back == 0) [ true ↦ nothing | false ↦ leaf_walk most p w blob back i ] in older

pub leaf_walk_on : (most p : ℕ) (w : World) (blob j i : ℕ) (n : Node) (kept : UpdateEntry) → is_leaf n ≡ true → node_in w blob j (page_range p i) ≡ Some n
    → kept_at w.updates (origin w blob j) j ≡ Some kept
    → leaf_walk (suc most) p w blob j i
    ≡ over (older_walk most p w blob (back_link n) i) (start_of n) (bytes_of_piece w blob j i kept.pages (first_of n) ++ bytes_of_piece w blob j i kept.pages (second_of n))
unfolding leaf_walk
leaf_walk_on most p w blob j i n kept leaf e f = rw (e, f, leaf, leaf_walk) refl

pub older_none : (most p : ℕ) (w : World) (blob back i : ℕ) → (back == 0) ≡ true → older_walk most p w blob back i ≡ nothing
older_none most p w blob back i e = rw (e, older_walk) refl

pub older_on : (most p : ℕ) (w : World) (blob back i : ℕ) → (back == 0) ≡ false → older_walk most p w blob back i ≡ leaf_walk most p w blob back i
older_on most p w blob back i e = rw (e, older_walk) refl

leaf_is : (p : ℕ) (us : List Extent) (j i : ℕ) → 1 ≤ p → node_of p us j (page_range p i) ≡ leaf_of p us j i
leaf_is p us j i pos =
    let t : (p == p) ≡ true = test_same p p refl in
    rw t (ap (λ (k : ℕ). leaf_of p us j k) (mul-div_cancel i pos))

stored_own : (w : World) (blob j i : ℕ) (pages : List ℕ) (q : ℕ) → q < length pages → stored_in w blob j i pages q ≡ nth_page w.pages pages q
stored_own w blob j i pages q lt = let t : nat_lt q (length pages) ≡ true = grind (arith, nat_tests) in rw (t, stored_in) refl

stored_past : (w : World) (blob j i : ℕ) (pages : List ℕ) (q : ℕ) (bytes : List ℕ) → length pages ≤ q → fold_at w.folded (origin w blob j) j i ≡ Some bytes → stored_in w blob j i pages q ≡ bytes
stored_past w blob j i pages q bytes le e = let t : nat_lt q (length pages) ≡ false = grind (arith, nat_tests) in rw (t, e, stored_in) refl

abbrev own_of : ℕ → Extent → ℕ → List ℕ → List ℕ
own_of p x i bytes = take (leaf_len p x i) (drop (leaf_from p x i) bytes)

pub extent_at_is : (us : List Update) (j : ℕ) → 1 ≤ j → j ≤ length us → extent_at (extents us) j ≡ extent_of us j
extent_at_is us zero some le = absurd (omega arith)
extent_at_is us (suc k) some le = extent_is us k (omega arith)

extent_len : (us : List Update) (j : ℕ) → 1 ≤ j → j ≤ length us → (extent_at (extents us) j).len ≡ length (update_at us j).bytes
extent_len us zero some le = absurd (omega arith)
extent_len us (suc k) some le = ap (λ (x : Extent). x.len) (extent_is us k (omega arith))

-- ---- the pages that a buffer needs
pages_below : (p : ℕ) (stored : List (ℕ × List ℕ)) (pages : List ℕ) → SmallPages p stored → AreCut p stored pages → (q : ℕ) → q * p < length (bytes_of_pages stored pages) → q < length pages
pages_below p stored [] small cut q lt = absurd cut
pages_below p stored (page ∷ rest) small cut zero lt = omega arith
pages_below p stored (page ∷ []) small cut (suc q) lt = absurd (omega (arith, length-append (bytes_of_page stored page) [], (page_small p stored page small cut).1))
pages_below p stored (page ∷ next ∷ rest) small cut (suc q) lt =
    let all = length-append (bytes_of_page stored page) (bytes_of_pages stored (next ∷ rest)) in
    let below : q < length (next ∷ rest) = pages_below p stored (next ∷ rest) small cut.2 q (omega (arith, all, cut.1)) in
    omega (arith, below)

pages_long : (p : ℕ) (stored : List (ℕ × List ℕ)) (pages : List ℕ) → SmallPages p stored → AreCut p stored pages → length pages * p ≤ length (bytes_of_pages stored pages) + p - 1
pages_long p stored [] small cut = absurd cut
pages_long p stored (page ∷ []) small cut = omega (arith, length-append (bytes_of_page stored page) [], (page_small p stored page small cut).0)
pages_long p stored (page ∷ next ∷ rest) small cut =
    omega (arith, length-append (bytes_of_page stored page) (bytes_of_pages stored (next ∷ rest)), cut.1, pages_long p stored (next ∷ rest) small cut.2)

-- the pieces of some bytes lie in pages that begin before the buffer's end
pieces_below : (p b n m : ℕ) → 1 ≤ p → 1 ≤ n → n ≤ p → b + n ≤ m → ((first_piece p b n).page * p < m) × ((second_piece p b n).page * p < m)
pieces_below p b n m pos some small fits =
    let f = pieces_fit p b n m pos some small fits in (
      omega (arith, f.0.some, f.0.in_buffer),
      elim f.2 [
        | inl none ↦ (let y : (second_piece p b n).page * p ≡ 0 * p = ap (λ (x : Piece). x.page * p) none.1 in omega (arith, y, some, fits))
        | inr both ↦ omega (arith, both.1.some, both.1.in_buffer)
      ],
    )

-- what a walk brought is a page, and it visited so many nodes
record LeafIs (t : Walked) (page : List ℕ) (count : ℕ) : Type 0 where
  bytes : t.bytes ≡ page
  nodes : t.nodes ≡ count

-- a leaf that doesn't store its page anew
leaf_kept : (p : ℕ) (us : List Extent) (j i : ℕ) → folded_of p us j i ≡ false → leaf_of p us j i ≡ leaf_at p (extent_at us j) i (back_of p us j i) (depth_of p (touches p us) j i)
leaf_kept p us j i kept = rw kept refl

-- and one that does
leaf_anew : (p : ℕ) (us : List Extent) (j i : ℕ) → folded_of p us j i ≡ true → leaf_of p us j i ≡ whole_leaf (fold_page fold_number p us j i) (valid_in p (size_after us j) i)
leaf_anew p us j i anew = rw anew refl

newest_self : (c : Cited) (p : ℕ) (log : List Touch) (k : ℕ) (r : Range) → HasNode p log k r → k ≡ newest_of p log k r
newest_self c p log k r has =
    (c.greatest p k log r).1 k (record { upto = omega arith; met = λ some. has.met; none = λ i a b. absurd (omega arith) })

-- ---- the pages from lo up to hi
-- x, moved into first to last + 1
abbrev clamp : ℕ → ℕ → ℕ → ℕ
clamp first last x = min (max x first) (last + 1)

abbrev slice : List ℕ → ℕ → ℕ → List ℕ
slice l lo hi = take (hi - lo) (drop lo l)

range_join : (n k t a m : ℕ) → t ≡ n + k → m ≡ a + n → range_with_len a t ≡ range_with_len a n ++ range_with_len m k
range_join zero k t a m e f =
    let g : t ≡ k = omega arith in
    let h : a ≡ m = omega arith in
    rw (g, h) refl
range_join (suc n) k zero a m e f = absurd (omega arith)
range_join (suc n) k (suc t) a m e f = ap (λ (l : List ℕ). a ∷ l) (range_join n k t (a + 1) m (omega arith) (omega arith))

slice_join : (l : List ℕ) (lo mid hi : ℕ) → lo ≤ mid → mid ≤ hi → slice l lo mid ++ slice l mid hi ≡ slice l lo hi
slice_join l lo mid hi a b =
    let e : lo + (mid - lo) ≡ mid = omega arith in
    let f : (mid - lo) + (hi - mid) ≡ hi - lo = omega arith in
    let g : drop (mid - lo) (drop lo l) ≡ drop mid l = drop-drop (mid - lo) lo l ∙ ap (λ (n : ℕ). drop n l) e in
    rw (← g, ← f) (sym (take-add (mid - lo) (hi - mid) (drop lo l)))

pages_rise : (p a b : ℕ) → a ≤ b → a * p ≤ b * p
pages_rise p a b le = mul-le a p b p le (omega arith)

module _ (p : ℕ) (us : List Update) (v : ℕ) where
  -- what a walk brought are the pages from lo up to hi, with their backs
  record PagesAre (t : Walked) (lo hi count : ℕ) : Type 0 where
    bytes : t.bytes ≡ slice (content us v) (lo * p) (hi * p)
    nodes : t.nodes ≡ count + sum_by (λ i. backs_of p (extents us) v i) (range_with_len lo (hi - lo))

  pages_join : (a b : Walked) (lo mid hi x y : ℕ) → PagesAre a lo mid x → PagesAre b mid hi y → lo ≤ mid → mid ≤ hi → PagesAre (both a b) lo hi (1 + x + y)
  pages_join a b lo mid hi x y left right le le' =
      let f : ℕ → ℕ = λ i. backs_of p (extents us) v i in
      let sums : sum_by f (range_with_len lo (hi - lo)) ≡ sum_by f (range_with_len lo (mid - lo)) + sum_by f (range_with_len mid (hi - mid)) =
      ap (λ (r : List ℕ). sum_by f r) (range_join (mid - lo) (hi - mid) (hi - lo) lo mid (omega arith) (omega arith))
      ∙ sum_by-append f (range_with_len lo (mid - lo)) (range_with_len mid (hi - mid)) in
      record {
        bytes = rw (left.bytes, right.bytes) (slice_join (content us v) (lo * p) (mid * p) (hi * p) (pages_rise p lo mid le) (pages_rise p mid hi le'));
        nodes = omega (arith, left.nodes, right.nodes, sums);
      }

  pages_none : (lo hi count : ℕ) → lo ≡ hi → count ≡ 0 → PagesAre nothing lo hi count
  pages_none lo hi count e z =
      let d : hi - lo ≡ 0 = omega arith in
      let f : hi * p ≡ lo * p = ap (λ (n : ℕ). n * p) (sym e) in
      let k : hi * p - lo * p ≡ 0 = omega arith in
      record { bytes = rw k refl; nodes = rw (d, z) refl }

-- ---- a walk down a tree
pub walk_apart : (h p : ℕ) (w : World) (blob j q first last : ℕ) → (last < q * 2 ^ h) ⊎ ((q + 1) * 2 ^ h ≤ first) → tree_walk_from h p w blob j q first last ≡ nothing
unfolding tree_walk_from
walk_apart zero p w blob j q first last past =
    let e : (nat_le q last && nat_le first q) ≡ false = elim past [ inl late ↦ grind (arith, nat_tests) | inr early ↦ grind (arith, nat_tests) ] in rw (e, tree_walk_from)
walk_apart (suc h) p w blob j q first last past =
    let e : (nat_le (q * 2 ^ suc h) last && nat_lt first ((q + 1) * 2 ^ suc h)) ≡ false = elim past [ inl late ↦ grind (arith, nat_tests) | inr early ↦ grind (arith, nat_tests) ] in
    rw (e, tree_walk_from)

pub walk_leaf : (p : ℕ) (w : World) (blob j q first last : ℕ) → first ≤ q → q ≤ last → tree_walk_from 0 p w blob j q first last ≡ leaf_walk j p w blob j q
unfolding tree_walk_from
walk_leaf p w blob j q first last from to = let e : (nat_le q last && nat_le first q) ≡ true = grind (arith, nat_tests) in rw (e, tree_walk_from)

pub walk_inner : (h p : ℕ) (w : World) (blob j q first last : ℕ) (n : Node) → q * 2 ^ suc h ≤ last → first < (q + 1) * 2 ^ suc h → node_in w blob j (tree_range p (suc h) q) ≡ Some n
    → tree_walk_from (suc h) p w blob j q first last
    ≡ both (tree_walk_from h p w blob (left_link n) (2 * q) first last) (tree_walk_from h p w blob (right_link n) (2 * q + 1) first last)
unfolding tree_walk_from
walk_inner h p w blob j q first last n begins ends is =
    let e : (nat_le (q * 2 ^ suc h) last && nat_lt first ((q + 1) * 2 ^ suc h)) ≡ true = grind (arith, nat_tests) in rw (e, is, tree_walk_from)

-- the node at which a walk comes in, where its range meets the pages
abbrev Enters : ℕ → List Update → ℕ → ℕ → ℕ → ℕ → ℕ → ℕ → Type 0
Enters p us v j h q first last =
    q * 2 ^ h ≤ last → first < (q + 1) * 2 ^ h → HasNode p (log_of p us) j (tree_range p h q) × (j ≡ newest_of p (log_of p us) v (tree_range p h q))

reaches_page : (p c h last size : ℕ) → c * 2 ^ h ≤ last → last * p < size → c * (p * 2 ^ h) < size
reaches_page p c h last size le inside =
    let e : c * 2 ^ h * p ≤ last * p = pages_rise p (c * 2 ^ h) last le in
    let f : c * (p * 2 ^ h) ≡ c * 2 ^ h * p = omega arith in
    omega arith

page_slice : (p : ℕ) (us : List Update) (v q : ℕ) → slice (content us v) (q * p) ((q + 1) * p) ≡ page_bytes p us v q
page_slice p us v q = let e : (q + 1) * p - q * p ≡ p = omega arith in rw e refl

one_sum : (f : ℕ → ℕ) (q n : ℕ) → n ≡ 1 → 1 + f q ≡ 1 + sum_by f (range_with_len q n)
one_sum f q n d = rw d (omega (arith, sum_by-cons f q []))

span_some : (p n : ℕ) → 1 ≤ n → span_of p n ≡ p * 2 ^ height_of p n
unfolding span_of
span_some p n h = grind (arith, nat_tests)

root_is : (p : ℕ) (log : List Touch) (v size : ℕ) → size_at log v ≡ size → 1 ≤ size → root_of p log v ≡ tree_range p (height_of p size) 0
root_is p log v size e some =
    let z : 0 ≡ 0 * (p * 2 ^ height_of p size) = omega arith in
    rw (e, span_some p size some) (ap (λ (n : ℕ). ranged n (p * 2 ^ height_of p size)) z)

-- ---- a read
pub read_none : (p : ℕ) (w : World) (blob : ℕ) (b : Blob) (v o n : ℕ) → (n == 0) ≡ true → read_walk p w blob b v o n ≡ nothing
unfolding read_walk
read_none p w blob b v o n e = rw (e, read_walk)

pub read_some : (p : ℕ) (w : World) (blob : ℕ) (b : Blob) (v o n : ℕ) → (n == 0) ≡ false
    → read_walk p w blob b v o n ≡ cut_out p o n (tree_walk_from (height_of p (size_after (extents b.updates) v)) p w blob v 0 (o / p) ((o + n - 1) / p))
unfolding read_walk
read_some p w blob b v o n e = rw (e, read_walk)

cut_slice : (c : List ℕ) (low high o n : ℕ) → low ≤ o → o + n ≤ high → take n (drop (o - low) (slice c low high)) ≡ take n (drop o c)
cut_slice c low high o n begins ends =
    let k : ℕ = o - low in
    let m : ℕ = high - o in
    let e : high - low ≡ k + m = omega arith in
    let f : low + k ≡ o = omega arith in
    rw (e, drop-take k m (drop low c)) (take-take n m (drop k (drop low c)) (omega arith) ∙ ap (λ (l : List ℕ). take n l) (drop-drop k low c ∙ ap (λ (x : ℕ). drop x c) f))

pub record ReadIs (t : Walked) (asked : List ℕ) (bound : ℕ) : Type 0 where
  pub bytes : t.bytes ≡ asked
  pub nodes : t.nodes ≤ bound

begins_before : (p o : ℕ) → o / p * p ≤ o
begins_before p o = omega arith

ends_after : (p o : ℕ) → 1 ≤ p → o < (o / p + 1) * p
ends_after p o pos = omega arith

-- ---- what walks bring of a blob
module _ (c : Cited) (p : ℕ) (w : World) (blob : ℕ) (b : Blob) (pos : 1 ≤ p) (s : Stands p w) (bs : BlobStands p w blob b) where
  abbrev us : List Update
  us = b.updates

  abbrev xs : List Extent
  xs = extents b.updates

  abbrev log : List Touch
  log = log_of p b.updates

  ok : InBounds xs
  ok = in_bounds c us bs.replay

  -- the pieces of a leaf are the update's own bytes in the page
  own_is : (j i : ℕ) (u : UpdateStands p w blob b j) → HasNode p log j (page_range p i)
      → bytes_of_piece w blob j i u.kept.pages (first_piece p (leaf_from p (extent_at xs j) i) (leaf_len p (extent_at xs j) i))
      ++ bytes_of_piece w blob j i u.kept.pages (second_piece p (leaf_from p (extent_at xs j) i) (leaf_len p (extent_at xs j) i))
      ≡ own_bytes p us j i
  own_is j i u has =
      let bytes : List ℕ = (update_at us j).bytes in
      let from : ℕ = leaf_from p (extent_at xs j) i in
      let len : ℕ = leaf_len p (extent_at xs j) i in
      let in_list : j ≤ length us = omega (arith, has.version.1, length_log p us) in
      let fits = c.fit p j i xs pos ok has in
      let short : len ≤ p = omega (arith, fits.1) in
      let inside : from + len ≤ length bytes = omega (arith, fits.2, extent_len us j has.version.0 in_list) in
      let below = pieces_below p from len (length bytes) pos fits.0 short inside in
      let piece : (q : Piece) → q.page * p < length bytes → bytes_of_piece w blob j i u.kept.pages q ≡ piece_bytes p bytes q = λ q lt.
      ap (λ (l : List ℕ). take q.len (drop q.from l))
      (stored_own w blob j i u.kept.pages q.page (pages_below p w.pages u.kept.pages s.pages u.cut q.page (omega (arith, lt, ap length u.bytes)))
      ∙ sym (nth_is p w.pages s.pages u.kept.pages q.page u.cut)
      ∙ ap (λ (l : List ℕ). take p (drop (q.page * p) l)) u.bytes) in
      ap (λ (l : List ℕ). l ++ bytes_of_piece w blob j i u.kept.pages (second_piece p from len)) (piece (first_piece p from len) below.0)
      ∙ ap (λ (l : List ℕ). piece_bytes p bytes (first_piece p from len) ++ l) (piece (second_piece p from len) below.1)
      ∙ c.join p from len bytes pos short inside
      ∙ ap (λ (y : Extent). own_of p y i bytes) (extent_at_is us j has.version.0 in_list)

  -- the leaf that is there is the row's
  leaf_there : (j i : ℕ) (n : Node) → j ≤ published b → HasNode p log j (page_range p i) → leaf_of p xs j i ≡ n → node_in w blob j (page_range p i) ≡ Some n
  leaf_there j i n upto has is = bs.rows j (page_range p i) (published_finished b j upto) has ∙ ap {B = Option Node} Some (leaf_is p xs j i pos ∙ is)

  -- what a walk brings of a leaf that stores its page anew
  anew_walk_is : (most j i v : ℕ) → j ≤ published b → HasNode p log j (page_range p i) → newest_of p log v (page_range p i) ≡ j → folded_of p xs j i ≡ true
      → LeafIs (leaf_walk (suc most) p w blob j i) (page_bytes p us j i) (1 + backs_of p xs v i)
  anew_walk_is most j i v upto has newest anew =
      let in_list : j ≤ length us = omega (arith, has.version.1, length_log p us) in
      let u : UpdateStands p w blob b j = bs.updates j has.version.0 in_list in
      let q : ℕ = fold_page fold_number p xs j i in
      let valid : ℕ = valid_in p (size_after xs j) i in
      let page : List ℕ = page_bytes p us j i in
      let len : (extent_at xs j).len ≡ length (bytes_of_pages w.pages u.kept.pages) = extent_len us j has.version.0 in_list ∙ sym (ap length u.bytes) in
      let enough : length u.kept.pages ≤ pages_in p (extent_at xs j).len = rw len (le-div _ _ p pos (pages_long p w.pages u.kept.pages s.pages u.cut)) in
      let past : length u.kept.pages ≤ q = omega (arith, enough) in
      let next : (i + 1) * p ≡ i * p + p = omega arith in
      let size : size_after xs j ≡ size_of us j = (c.stand us bs.replay).2 j in_list in
      let count : length page ≡ valid = omega (arith, length-take p (drop (i * p) (content us j)), length-drop (i * p) (content us j), size, next) in
      let own : bytes_of_piece w blob j i u.kept.pages (first_of (whole_leaf q valid)) ++ bytes_of_piece w blob j i u.kept.pages (second_of (whole_leaf q valid)) ≡ page =
      ap (λ (l : List ℕ). take valid (drop 0 l) ++ []) (stored_past w blob j i u.kept.pages q page past (bs.folds j i (published_finished b j upto) has anew))
      ∙ append-nil (take valid page) ∙ ap (λ (n : ℕ). take n page) (sym count) ∙ take-length page in
      let on = leaf_walk_on most p w blob j i (whole_leaf q valid) u.kept refl (leaf_there j i (whole_leaf q valid) upto has (leaf_anew p xs j i anew)) u.there in
      let backs = rw newest at (c.backs p v i xs) in
      let T : Walked → Type 0 = λ t. LeafIs t page (1 + backs_of p xs v i) in
      subst T (sym (on ∙ ap (λ (l : List ℕ). over nothing 0 l) own))
      (record { bytes = put_none 0 page; nodes = ap (λ (k : ℕ). 1 + k) (sym (backs.0 (back_anew p xs j i anew))) })

  leaf_walk_is : (most j i v : ℕ) → j ≤ most → j ≤ published b → HasNode p log j (page_range p i) → newest_of p log v (page_range p i) ≡ j
      → LeafIs (leaf_walk most p w blob j i) (page_bytes p us j i) (1 + backs_of p xs v i)
  leaf_walk_is zero j i v fuel upto has newest = absurd (omega (arith, has.version.0))
  leaf_walk_is (suc most) j i v fuel upto has newest =
      elim (bool_cases (folded_of p xs j i)) [
        | inl anew ↦ anew_walk_is most j i v upto has newest anew
        | inr kept ↦
            (let x : Extent = extent_at xs j in
            let in_list : j ≤ length us = omega (arith, has.version.1, length_log p us) in
            let u : UpdateStands p w blob b j = bs.updates j has.version.0 in_list in
            let back : ℕ = back_of p xs j i in
            let start : ℕ = leaf_start p x i in
            let leaf : Node = leaf_at p x i back (depth_of p log j i) in
            let own : List ℕ = bytes_of_piece w blob j i u.kept.pages (first_of leaf) ++ bytes_of_piece w blob j i u.kept.pages (second_of leaf) in
            let own_bytes_are : own ≡ own_bytes p us j i = own_is j i u has in
            let fill = c.fill p j i us pos bs.replay has in
            let backs = rw newest at (c.backs p v i xs) in
            let T : Walked → Type 0 = λ t. LeafIs t (page_bytes p us j i) (1 + backs_of p xs v i) in
            subst T (sym (leaf_walk_on most p w blob j i leaf u.kept refl (leaf_there j i leaf upto has (leaf_kept p xs j i kept)) u.there))
            (elim (bool_cases (covered p xs j i)) [
              | inl is ↦
                  (let none : back ≡ 0 = back_none p xs j i is in
                  let stop : older_walk most p w blob back i ≡ nothing = older_none most p w blob back i (test_none back (omega arith)) in
                  record {
                    bytes = ap (λ (o : Walked). put o.bytes start own) stop ∙ put_none start own ∙ own_bytes_are ∙ sym (fill.0 is);
                    nodes = ap (λ (o : Walked). 1 + o.nodes) stop ∙ ap (λ (k : ℕ). 1 + k) (sym (backs.0 none));
                  })
              | inr is ↦
                  (let hold = (c.backs_hold p j i xs pos ok has is).1 kept in
                  let next : HasNode p log back (page_range p i) = c.backs_lead p j i xs pos ok has hold.0 in
                  let go : older_walk most p w blob back i ≡ leaf_walk most p w blob back i = older_on most p w blob back i (test_some back hold.0) in
                  let rest : LeafIs (leaf_walk most p w blob back i) (page_bytes p us back i) (1 + backs_of p xs back i) =
                  leaf_walk_is most back i back (omega (arith, hold.1)) (omega (arith, hold.1)) next (sym (newest_self c p log back (page_range p i) next)) in
                  record {
                    bytes = ap (λ (o : Walked). put o.bytes start own) go
                        ∙ ap (λ (l : List ℕ). put l start own) rest.bytes
                        ∙ ap (λ (l : List ℕ). put (page_bytes p us back i) start l) own_bytes_are
                        ∙ ap (λ (y : Extent). put (page_bytes p us back i) (leaf_start p y i) (own_bytes p us j i)) (extent_at_is us j has.version.0 in_list)
                        ∙ sym (fill.1 is kept);
                    nodes = ap (λ (o : Walked). 1 + o.nodes) go ∙ ap (λ (k : ℕ). 1 + k) (rest.nodes ∙ sym (backs.1 hold.0));
                  })
            ]))
      ]

  module _ (v : ℕ) (upto : v ≤ published b) where
    within : v ≤ length us
    within = omega (arith, published_within p w blob b bs)

    leaf_pages : (j q : ℕ) → HasNode p log j (tree_range p 0 q) → j ≡ newest_of p log v (tree_range p 0 q) → PagesAre p us v (leaf_walk j p w blob j q) q (q + 1) 1
    leaf_pages j q has newest =
        let has' : HasNode p log j (page_range p q) = rw (page_is p q) has in
        let newest' : newest_of p log v (page_range p q) ≡ j = rw (page_is p q) (sym newest) in
        let below : j ≤ v = omega (arith, (c.greatest p v log (page_range p q)).0.upto, newest') in
        let one : LeafIs (leaf_walk j p w blob j q) (page_bytes p us j q) (1 + backs_of p xs v q) = leaf_walk_is j j q v (omega arith) (omega arith) has' newest' in
        let same : page_bytes p us v q ≡ page_bytes p us j q = c.bytes p v q us pos bs.replay within ∙ ap (λ (k : ℕ). page_bytes p us k q) newest' in
        record {
          bytes = one.bytes ∙ sym same ∙ sym (page_slice p us v q);
          nodes = one.nodes ∙ one_sum (λ i. backs_of p xs v i) q (q + 1 - q) (omega arith);
        }

    module _ (first last : ℕ) (le : first ≤ last) where
      -- a walk from version j's node for range number q of height h brings the pages from the first to the last that lie below it
      abbrev Brings : ℕ → ℕ → ℕ → Type 0
      Brings h j q = PagesAre p us v (tree_walk_from h p w blob j q first last) (clamp first last (q * 2 ^ h)) (clamp first last ((q + 1) * 2 ^ h)) (nodes_visited h q first last)

      apart_pages : (h j q : ℕ) → (last < q * 2 ^ h) ⊎ ((q + 1) * 2 ^ h ≤ first) → Brings h j q
      apart_pages h j q past =
          let next : (q + 1) * 2 ^ h ≡ q * 2 ^ h + 2 ^ h = omega arith in
          rw (walk_apart h p w blob j q first last past)
          (pages_none p us v _ _ _ (elim past [ inl late ↦ omega arith | inr early ↦ omega arith ]) (c.apart h q first last past))

      tree_pages : last * p < size_at log v → (h q j : ℕ) → Enters p us v j h q first last → Brings h j q
      tree_pages inside zero q j enters =
          elim (cases_lt last q) [
            | inl late ↦ apart_pages 0 j q (inl (omega arith))
            | inr to ↦
                elim (cases_lt q first) [
                  | inl early ↦ apart_pages 0 j q (inr (omega arith))
                  | inr from ↦
                      (let d = enters (omega arith) (omega arith) in
                      let lo : clamp first last (q * 2 ^ 0) ≡ q = omega arith in
                      let hi : clamp first last ((q + 1) * 2 ^ 0) ≡ q + 1 = omega arith in
                      rw (walk_leaf p w blob j q first last from to, lo, hi, c.leaf q first last from to) (leaf_pages j q d.0 d.1))
                ]
          ]
      tree_pages inside (suc h) q j enters =
          elim (cases_lt last (q * 2 ^ suc h)) [
            | inl late ↦ apart_pages (suc h) j q (inl late)
            | inr begins ↦
                elim (cases_lt first ((q + 1) * 2 ^ suc h)) [
                  | inr early ↦ apart_pages (suc h) j q (inr early)
                  | inl ends ↦
                      (let d = enters begins ends in
                      let r : Range = tree_range p (suc h) q in
                      let below : j ≤ v = omega (arith, (c.greatest p v log r).0.upto, d.1) in
                      let in_log : v ≤ length log = omega (arith, length_log p us, within) in
                      let large : p < r.size = omega (arith, size_pos p h pos, double p h) in
                      let node : node_in w blob j r ≡ Some (inner_of p xs j r) =
                      rows_known p w blob b j bs (omega arith) j r (omega arith) d.0 ∙ ap {B = Option Node} Some (inner_is p xs j r large) in
                      let low : ℕ = 2 * q in
                      let high : ℕ = 2 * q + 1 in
                      let left : Brings h (newest_of p log j (left_half r)) low =
                      tree_pages inside h low (newest_of p log j (left_half r))
                      (rw (left_is p h q) (λ a e. c.child p v j h q low log pos (xs, ok, refl) in_log d.0 d.1 (inl refl) (reaches_page p low h last (size_at log v) a inside))) in
                      let right : Brings h (newest_of p log j (right_half r)) high =
                      tree_pages inside h high (newest_of p log j (right_half r))
                      (rw (right_is p h q) (λ a e. c.child p v j h q high log pos (xs, ok, refl) in_log d.0 d.1 (inr refl) (reaches_page p high h last (size_at log v) a inside))) in
                      let power : 2 ^ suc h ≡ 2 * 2 ^ h = pow-succ' 2 h in
                      let e : q * 2 ^ suc h ≡ low * 2 ^ h = rw power (omega arith) in
                      let f : (q + 1) * 2 ^ suc h ≡ (high + 1) * 2 ^ h = rw power (omega arith) in
                      rw (walk_inner h p w blob j q first last (inner_of p xs j r) begins ends node, c.inner h q first last begins ends, e, f)
                      (pages_join p us v _ _ _ _ _ _ _ left right (omega arith) (omega arith)))
                ]
          ]

  -- a walk from the root of a published version brings the pages from the first to the last
  root_pages : (v first last : ℕ) → v ≤ published b → 1 ≤ v → first ≤ last → last * p < size_of us v
      → PagesAre p us v (tree_walk_from (height_of p (size_after xs v)) p w blob v 0 first last) first (last + 1) (nodes_visited (height_of p (size_after xs v)) 0 first last)
  root_pages v first last upto numbered le inside =
      let top : ℕ = height_of p (size_after xs v) in
      let in_list : v ≤ length us = within v upto in
      let size : size_after xs v ≡ size_of us v = (c.stand us bs.replay).2 v in_list in
      let at : size_at log v ≡ size_after xs v = size_in_log p us v in_list in
      let enough : size_after xs v ≤ p * 2 ^ top = height_enough p (size_after xs v) pos in
      let few : last * p / p ≡ last = mul-div_cancel last pos in
      let short : last < 2 ^ top = (let d : last * p / p < 2 ^ top = div_below (last * p) p (2 ^ top) pos (omega arith) in omega (arith, d, few)) in
      let root : HasNode p log v (tree_range p top 0) =
      rw (root_is p log v (size_after xs v) at (omega arith)) at (c.roots p v xs pos ok numbered (omega (arith, length-extents us))) in
      let from : clamp first last (0 * 2 ^ top) ≡ first = omega arith in
      let to : clamp first last ((0 + 1) * 2 ^ top) ≡ last + 1 = omega arith in
      rw (from, to) at (tree_pages v upto first last le (omega arith) top 0 v (λ a e. (root, newest_self c p log v (tree_range p top 0) root)))

  -- a read brings the content, through at most as many nodes as the bound
  pub read_is : (v o n : ℕ) → v ≤ published b → o + n ≤ size_of b.updates v
      → ReadIs (read_walk p w blob b v o n) (take n (drop o (content b.updates v))) (visits p (extents b.updates) v o n)
  read_is v o zero upto inside =
      let e : read_walk p w blob b v o 0 ≡ nothing = read_none p w blob b v o 0 refl in
      record { bytes = ap (λ (t : Walked). t.bytes) e; nodes = omega (arith, ap (λ (t : Walked). t.nodes) e) }
  read_is zero o (suc n) upto inside = (let none : size_of b.updates 0 ≡ 0 = refl in absurd (omega arith))
  read_is (suc v) o (suc n) upto inside =
      let first : ℕ = o / p in
      let last : ℕ = (o + suc n - 1) / p in
      let size : size_after xs (suc v) ≡ size_of us (suc v) = (c.stand us bs.replay).2 (suc v) (within (suc v) upto) in
      let low_last : last * p ≤ o + suc n - 1 = begins_before p (o + suc n - 1) in
      let high : o + suc n - 1 < (last + 1) * p = ends_after p (o + suc n - 1) pos in
      let le : first ≤ last = le-div (o / p) (o + suc n - 1) p pos (omega (arith, begins_before p o)) in
      let is = root_pages (suc v) first last upto (omega arith) le (omega arith) in
      rw (read_some p w blob b (suc v) o (suc n) (test_some (suc n) (omega arith)))
      (record {
        bytes = ap (λ (l : List ℕ). take (suc n) (drop (o - first * p) l)) is.bytes
            ∙ cut_slice (content us (suc v)) (first * p) ((last + 1) * p) o (suc n) (begins_before p o) (omega arith);
        nodes = omega (arith, is.nodes, c.bounded p (suc v) o (suc n) xs pos (omega arith) (omega arith));
      })

  -- a walk to one page of a published version brings the page's valid bytes
  pub page_walk_is : (v i : ℕ) → v ≤ published b → 1 ≤ v → i * p < size_of b.updates v → page_walk p w blob b v i ≡ page_bytes p b.updates v i
  page_walk_is v i upto numbered inside = (root_pages v i i upto numbered (omega arith) inside).bytes ∙ page_slice p us v i
