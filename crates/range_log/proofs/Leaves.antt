-- What a leaf's pieces and its back hold.
use Rattle.std.proofs.Common.{◌≡◌, ℕ, ◌+◌, ◌-◌, ◌*◌, ◌/◌, ◌%◌, ◌<◌, ◌≤◌, zero, suc, List, ◌++◌, length, take, drop, arith, inl, inr, refl, ap, sym, subst, ◌∙◌, max, min, true, false, append-nil, take-add}
use Rattle.std.specs.Prelude.{◌==◌, ◌&&◌, nat_lt}
use Rattle.std.proofs.lemmas.Bool.{cases_lt}
use Rattle.std.proofs.lemmas.Bool.Decides.{nat_tests}
use Rattle.std.proofs.lemmas.List.{drop_all, take-take, drop-drop, drop-take}
use Rattle.std.proofs.lemmas.Nat.{mod_below, mul-le}
use Rattle.blob_model.specs.Content.{Update, put, content, size_of}
use Rattle.tree_geom.specs.declared.touch.Touch.{Touch}
use Rattle.tree_geom.specs.Geometry.{Meets, page_range}
use Rattle.range_log.specs.Log.{newest_of, HasNode}
use Rattle.range_log.specs.Extents.{Extent, extent_at, size_after, InBounds, touch_of, touches}
use Rattle.range_log.specs.Updates.{update_at, extent_of, extents, Replayable, page_bytes, own_bytes}
use Rattle.range_log.specs.Rows.{back_of, leaf_start}
use Rattle.range_log.specs.Laws.{LeavesFill, LeavesFit, PiecesJoin, PiecesFit, PieceFits}
use Rattle.range_log.proofs.Bytes.{extent_is, length-extents, content_next, size_is, bounds_hold, page_bytes_stay}
use Rattle.range_log.proofs.Exact.{cancel}
use Rattle.range_log.proofs.Grown.{length-touches, touch-touches}
use Rattle.range_log.proofs.Links.{back_some, page_met}
use Rattle.range_log.proofs.Windows.{window_put, length-window}

-- the extent of some bytes at a place
abbrev placed : ℕ → List ℕ → Extent
placed at b = record { at = at; len = length b }

page_put_plain : (p i at : ℕ) (c b : List ℕ) (x : Extent) → x ≡ placed at b → at ≤ length c → i * p < at + length b → at < i * p + p
    → take p (drop (i * p) (put c at b))
    ≡ put (take p (drop (i * p) c)) (max x.at (i * p) - i * p) (take (min (x.at + x.len) ((i + 1) * p) - max x.at (i * p)) (drop (max x.at (i * p) - x.at) b))
page_put_plain p i at c b x e fits from to =
    let P : Extent → Type 0 = λ y. take p (drop (i * p) (put c at b))
    ≡ put (take p (drop (i * p) c)) (max y.at (i * p) - i * p) (take (min (y.at + y.len) ((i + 1) * p) - max y.at (i * p)) (drop (max y.at (i * p) - y.at) b)) in
    let next : i * p + p ≡ (i + 1) * p = omega arith in
    subst P (sym e)
    (window_put c b at (i * p) p fits from to
    ∙ ap (λ n. put (take p (drop (i * p) c)) (max at (i * p) - i * p) (take (min (at + length b) n - max at (i * p)) (drop (max at (i * p) - at) b))) next)

below_page_end : (p i at : ℕ) → 1 ≤ p → at / p * p < i * p + p → at < i * p + p
below_page_end p i at pos h =
    let page : at / p < i + 1 = cancel (at / p) (i + 1) p (omega arith) in
    let e : (at / p + 1) * p ≤ (i + 1) * p = mul-le (at / p + 1) p (i + 1) p (omega arith) (omega arith) in
    let f : at < (at / p + 1) * p = omega arith in
    omega arith

-- the bytes of an update that touches a page meet the page's
falls : (p k i : ℕ) (us : List Extent) → 1 ≤ p → InBounds us → HasNode p (touches p us) (suc k) (page_range p i)
    → (i * p < (extent_at us (suc k)).at + (extent_at us (suc k)).len) × ((extent_at us (suc k)).at < i * p + p)
falls p k i us pos bounds node =
    let in_list : k < length us = omega (arith, node.version.1, length-touches p us) in
    let x : Extent = extent_at us (suc k) in
    let met : Meets p (touch_of p us (suc k)) (page_range p i) = (let P : Touch → Type 0 = λ t. Meets p t (page_range p i) in subst P (touch-touches p us k in_list) node.met) in
    (page_met p x.at x.len i pos (bounds k in_list).1 met.1, below_page_end p i x.at pos met.0)

-- a page after one more update that touches it
page_put : (p v i : ℕ) (us : List Update) → 1 ≤ p → Replayable us → v < length us → HasNode p (touches p (extents us)) (suc v) (page_range p i)
    → page_bytes p us (suc v) i ≡ put (page_bytes p us v i) (leaf_start p (extent_of us (suc v)) i) (own_bytes p us (suc v) i)
page_put p v i us pos ok h node =
    let x : Extent = extent_at (extents us) (suc v) in
    let y : Extent = extent_of us (suc v) in
    let e : x ≡ y = extent_is us v h in
    let at : x.at ≡ y.at = ap (λ (z : Extent). z.at) e in
    let len : x.len ≡ y.len = ap (λ (z : Extent). z.len) e in
    let f = falls p v i (extents us) pos (bounds_hold us ok) node in
    ap (λ c. take p (drop (i * p) c)) (content_next us v h)
    ∙ page_put_plain p i y.at (content us v) (update_at us (suc v)).bytes y refl (ok v h).0 (omega (arith, f)) (omega (arith, f))

put_over : (w b : List ℕ) (s : ℕ) → s ≡ 0 → length w ≤ length b → put w s b ≡ b
put_over w b s z long = rw (z, drop_all (0 + length b) w (omega arith)) (append-nil b)

-- where the update covers the page, it leaves none of the older bytes
none_left : (p i size offset : ℕ) (x : Extent) (b w : List ℕ) → x ≡ placed offset b → length w ≡ min p (size - i * p) → i * p < offset + length b
    → ((max x.at (i * p) == i * p) && (min (x.at + x.len) ((i + 1) * p) == min (max size (x.at + x.len)) ((i + 1) * p))) ≡ true
    → (max offset (i * p) - i * p ≡ 0)
    × (length w ≤ length (take (min (offset + length b) ((i + 1) * p) - max offset (i * p)) (drop (max offset (i * p) - offset) b)))
none_left p i size offset x b w e long reach whole =
    let at : x.at ≡ offset = ap (λ (y : Extent). y.at) e in
    let len : x.len ≡ length b = ap (λ (y : Extent). y.len) e in
    let first : max x.at (i * p) ≡ i * p = grind (arith, nat_tests) in
    let last : min (x.at + x.len) ((i + 1) * p) ≡ min (max size (x.at + x.len)) ((i + 1) * p) = grind (arith, nat_tests) in
    let own : length (take (min (offset + length b) ((i + 1) * p) - max offset (i * p)) (drop (max offset (i * p) - offset) b))
    ≡ min (min (offset + length b) ((i + 1) * p) - max offset (i * p)) (length b - (max offset (i * p) - offset)) =
    length-window b (max offset (i * p) - offset) (min (offset + length b) ((i + 1) * p) - max offset (i * p)) in
    let next : (i + 1) * p ≡ i * p + p = omega arith in
    (omega arith, omega (arith, own))

pub leaves_fill : LeavesFill
leaves_fill p zero i us pos ok node = absurd (omega (arith, node.version.0))
leaves_fill p (suc v) i us pos ok node =
    let log : List Touch = touches p (extents us) in
    let in_list : v < length us = omega (arith, node.version.1, length-touches p (extents us), length-extents us) in
    let before : size_after (extents us) v ≡ size_of us v = size_is us v ok (omega arith) in
    let x : Extent = extent_at (extents us) (suc v) in
    let y : Extent = extent_of us (suc v) in
    let e : x ≡ y = extent_is us v in_list in
    let at : x.at ≡ y.at = ap (λ (z : Extent). z.at) e in
    let len : x.len ≡ y.len = ap (λ (z : Extent). z.len) e in
    let f = falls p v i (extents us) pos (bounds_hold us ok) node in (
      λ whole.
          let d = none_left p i (size_after (extents us) v) y.at x (update_at us (suc v)).bytes (page_bytes p us v i) e
          (length-window (content us v) (i * p) p ∙ ap (λ n. min p (n - i * p)) (sym before)) (omega (arith, f)) whole in
          page_put p v i us pos ok in_list node ∙ put_over (page_bytes p us v i) (own_bytes p us (suc v) i) (leaf_start p (extent_of us (suc v)) i) d.0 d.1,
      λ part_only kept.
          let back : back_of p (extents us) (suc v) i ≡ newest_of p log v (page_range p i) =
          back_some p (extents us) (suc v) i part_only kept ∙ (let g : suc v - 1 ≡ v = omega arith in ap (λ n. newest_of p log n (page_range p i)) g) in
          page_put p v i us pos ok in_list node
          ∙ ap (λ w. put w (leaf_start p (extent_of us (suc v)) i) (own_bytes p us (suc v) i))
          (page_bytes_stay p v i us pos ok (omega arith) ∙ ap (λ n. page_bytes p us n i) (sym back)),
      page_put p v i us pos ok in_list node
          ∙ (let g : v ≡ suc v - 1 = omega arith in ap (λ n. put (page_bytes p us n i) (leaf_start p (extent_of us (suc v)) i) (own_bytes p us (suc v) i)) g),
    )

fits_plain : (p i at len : ℕ) → 1 ≤ p → i * p < at + len → at < i * p + p → 1 ≤ len
    → (1 ≤ min (at + len) ((i + 1) * p) - max at (i * p)) × (max at (i * p) - i * p + (min (at + len) ((i + 1) * p) - max at (i * p)) ≤ p)
    × (max at (i * p) - at + (min (at + len) ((i + 1) * p) - max at (i * p)) ≤ len)
fits_plain p i at len pos reach past some =
    let next : (i + 1) * p ≡ i * p + p = omega arith in
    (omega arith, omega arith, omega arith)

pub leaves_fit : LeavesFit
leaves_fit p zero i us pos bounds node = absurd (omega (arith, node.version.0))
leaves_fit p (suc v) i us pos bounds node =
    let f = falls p v i us pos bounds node in
    fits_plain p i (extent_at us (suc v)).at (extent_at us (suc v)).len pos f.0 f.1 (bounds v (omega (arith, node.version.1, length-touches p us))).1

-- ---- pieces
one_piece : (p b n : ℕ) (bytes : List ℕ) → 1 ≤ p → n ≤ p - b % p → take n (drop (b % p) (take p (drop (b / p * p) bytes))) ≡ take n (drop b bytes)
one_piece p b n bytes pos small =
    let split : b / p * p + b % p ≡ b = omega arith in
    let rest : b % p + (p - b % p) ≡ p = let e : b % p < p = mod_below b p pos in omega arith in
    ap (λ k. take n (drop (b % p) (take k (drop (b / p * p) bytes)))) (sym rest)
    ∙ ap (take n) (drop-take (b % p) (p - b % p) (drop (b / p * p) bytes))
    ∙ take-take n (p - b % p) (drop (b % p) (drop (b / p * p) bytes)) small
    ∙ ap (take n) (drop-drop (b % p) (b / p * p) bytes ∙ ap (λ k. drop k bytes) split)

two_pieces : (p b first n : ℕ) (bytes : List ℕ) → 1 ≤ p → first ≡ p - b % p → n ≤ first + p
    → take first (drop (b % p) (take p (drop (b / p * p) bytes))) ++ take (n - first) (drop 0 (take p (drop ((b / p + 1) * p) bytes))) ≡ take (first + (n - first)) (drop b bytes)
two_pieces p b first n bytes pos is small =
    let low : b % p < p = mod_below b p pos in
    let next : (b / p + 1) * p ≡ b + first = omega arith in
    ap (λ l. l ++ take (n - first) (take p (drop ((b / p + 1) * p) bytes))) (one_piece p b first bytes pos (omega arith))
    ∙ ap (λ l. take first (drop b bytes) ++ l)
    (take-take (n - first) p (drop ((b / p + 1) * p) bytes) (omega arith)
    ∙ ap (λ k. take (n - first) (drop k bytes)) next
    ∙ ap (take (n - first)) (sym (drop-drop first b bytes)))
    ∙ sym (take-add first (n - first) (drop b bytes))

pub pieces_join : PiecesJoin
pieces_join p b n bytes pos small fits =
    let first : ℕ = p - b % p in
    let low : b % p < p = mod_below b p pos in
    elim (cases_lt first n) [
      | inl two ↦
          let e : nat_lt first n ≡ true = grind (arith, nat_tests) in
          let whole : min first n ≡ first = omega arith in
          let all : first + (n - first) ≡ n = omega arith in
          rw (e, whole) (two_pieces p b first n bytes pos refl (omega arith) ∙ ap (λ k. take k (drop b bytes)) all)
      | inr one ↦
          let e : nat_lt first n ≡ false = grind (arith, nat_tests) in
          let all : min first n ≡ n = omega arith in
          rw (e, all) (append-nil (take n (drop (b % p) (take p (drop (b / p * p) bytes)))) ∙ one_piece p b n bytes pos one)
    ]

pub pieces_fit : PiecesFit
pieces_fit p b n m pos some small fits =
    let first : ℕ = p - b % p in
    let low : b % p < p = mod_below b p pos in
    let split : b / p * p + b % p ≡ b = omega arith in
    let next : (b / p + 1) * p ≡ b / p * p + p = omega arith in
    let here : PieceFits p m (b / p) (b % p) (min first n) = record { some = omega arith; in_page = omega arith; in_buffer = omega arith } in
    elim (cases_lt first n) [
      | inl two ↦
          let e : nat_lt first n ≡ true = grind (arith, nat_tests) in
          rw e (here, omega arith, inr (refl, record { some = omega arith; in_page = omega arith; in_buffer = omega arith }))
      | inr one ↦
          let e : nat_lt first n ≡ false = grind (arith, nat_tests) in
          rw e (here, omega arith, inl (refl, refl))
    ]
