-- The steps down to a page, and the ranges beside its path.
use Rattle.std.proofs.Common.{◌≡◌, ◌≢◌, ℕ, zero, suc, ◌+◌, ◌-◌, ◌*◌, ◌/◌, ◌%◌, ◌^◌, ◌<◌, ◌≤◌, List, [], ◌∷◌, ◌++◌, length, map, set, arith, inl, inr, refl, ap, sym, subst, ◌∙◌, true, false, get_or, length-append}
use Rattle.std.specs.Prelude.{◌==◌, ◌&&◌, if◌then◌else◌, nat_lt, nat_le}
use Rattle.std.proofs.lemmas.Bool.{cases_lt}
use Rattle.std.proofs.lemmas.Bool.Decides.{nat_tests}
use Rattle.std.proofs.lemmas.Nat.{mul-le, pow_pos, le-div, div_below}
use Rattle.std.proofs.lemmas.List.{get_or-map, get_or_append_left, get_or-append_right, get_or-set_same, get_or-set_other, length-set}
use Rattle.std.proofs.Math.Nat.{pow-succ', div-div-eq-div-mul, div-mul-le_self, lt-div-mul-add}
use Rattle.tree_geom.specs.declared.range.Range.{Range}
use Rattle.tree_geom.specs.declared.touch.Touch.{Touch}
use Rattle.tree_geom.specs.Geometry.{tree_range, page_range, height_of, no_touch, meets_of}
use Rattle.tree_geom.specs.Laws.{HeightsHold}
use Rattle.range_log.specs.Laws.{Grown, NewestIsGreatest, NewestHits, NewestOfNone, LogsAreGrown}
use Rattle.range_log.specs.declared.open.OpenTouch.{OpenTouch}
use Rattle.range_log.specs.Log.{newest_of, touch_at, size_at}
use Rattle.range_log.specs.Depths.{depth_of}
use Rattle.range_log.specs.Laws.{TouchesAre, LogsGrow}
use Rattle.range_log.specs.Open.{no_open, open_at}
use Rattle.border_hints.specs.Numbered.{NumberedUpdate, log_of, log_with, own_touch, log_upto, IsTicketAmong, IsValidTicket}
use Rattle.border_hints.specs.Borders.{beside, newest_known, KnowsEdge, edge_links}
use Rattle.border_hints.proofs.Tickets.{length-log_of, length-log_with}
use Rattle.tree_geom.proofs.Spans.{size_pos}
use Rattle.border_hints.proofs.Published.{holds_root}

-- ---- the ranges that an update touches, by height and number
ends_after : (p w a q : ℕ) → 1 ≤ p → 1 ≤ w → nat_lt (a * p) (q * (p * w) + p * w) ≡ nat_le (a / w) q
ends_after p w a q pos some =
    elim (cases_lt a (q * w + w)) [
      | inl before ↦
          let e : a / w < q + 1 = div_below a w (q + 1) some (omega arith) in
          let f : (a + 1) * p ≤ (q * w + w) * p = mul-le (a + 1) p (q * w + w) p (omega arith) (omega arith) in
          let g : a * p < q * (p * w) + p * w = omega arith in
          grind (arith, nat_tests)
      | inr after ↦
          let e : q + 1 ≤ a / w = le-div (q + 1) a w some (omega arith) in
          let f : (q * w + w) * p ≤ a * p = mul-le (q * w + w) p a p after (omega arith) in
          let g : q * (p * w) + p * w ≤ a * p = omega arith in
          grind (arith, nat_tests)
    ]

starts_before : (p w a q : ℕ) → 1 ≤ p → 1 ≤ w → nat_lt (q * (p * w)) ((a + 1) * p) ≡ nat_le q (a / w)
starts_before p w a q pos some =
    elim (cases_lt a (q * w)) [
      | inl before ↦
          let e : a / w < q = div_below a w q some before in
          let f : (a + 1) * p ≤ q * w * p = mul-le (a + 1) p (q * w) p (omega arith) (omega arith) in
          let g : (a + 1) * p ≤ q * (p * w) = omega arith in
          grind (arith, nat_tests)
      | inr after ↦
          let e : q ≤ a / w = le-div q a w some after in
          let f : q * w * p ≤ a * p = mul-le (q * w) p a p after (omega arith) in
          let g : q * (p * w) < (a + 1) * p = omega arith in
          grind (arith, nat_tests)
    ]

-- range number q of a height is touched from the first touched page's number there to the last one's
meets_by_number : (p h q : ℕ) (t : Touch) → 1 ≤ p → meets_of p t (tree_range p h q) ≡ (nat_le (t.first / 2 ^ h) q && nat_le q (t.last / 2 ^ h))
meets_by_number p h q t pos =
    let a : nat_lt (t.first * p) (q * (p * 2 ^ h) + p * 2 ^ h) ≡ nat_le (t.first / 2 ^ h) q = ends_after p (2 ^ h) t.first q pos (pow_pos h) in
    let b : nat_lt (q * (p * 2 ^ h)) ((t.last + 1) * p) ≡ nat_le q (t.last / 2 ^ h) = starts_before p (2 ^ h) t.last q pos (pow_pos h) in
    let s : 1 ≤ p * 2 ^ h = size_pos p h pos in
    let c : nat_lt 0 (p * 2 ^ h) ≡ true = grind (arith, nat_tests) in
    rw (a, b, c) (grind (arith, nat_tests))

pub meets_from : (p h q : ℕ) (t : Touch) → 1 ≤ p → t.first / 2 ^ h ≤ q → nat_le q (t.last / 2 ^ h) ≡ meets_of p t (tree_range p h q)
meets_from p h q t pos from =
    let e : nat_le (t.first / 2 ^ h) q ≡ true = grind (arith, nat_tests) in
    rw (meets_by_number p h q t pos, e) (grind (arith, nat_tests))

pub meets_none : (p h q : ℕ) (t : Touch) → 1 ≤ p → q < t.first / 2 ^ h → nat_le (t.first / 2 ^ h) q ≡ meets_of p t (tree_range p h q)
meets_none p h q t pos below =
    let e : nat_le (t.first / 2 ^ h) q ≡ false = grind (arith, nat_tests) in
    rw (meets_by_number p h q t pos, e) (grind (arith, nat_tests))

-- ---- a ticket's touches
abbrev pub touch_in : OpenTouch → Touch
touch_in o = o.touch

-- those of the waiting updates
pub touch_waiting : TouchesAre → (t : NumberedUpdate) (i : ℕ) → i < length t.waiting → touch_at (log_upto t) (suc (length t.snapshot.rows + i)) ≡ (open_at t.waiting i).touch
touch_waiting are t i lt =
    let s : List Touch = log_of t.snapshot in
    let w : List Touch = map touch_in t.waiting in
    let v : ℕ = length t.snapshot.rows in
    let count : length s ≡ v = length-log_of are t.snapshot in
    let both : length (log_with t.snapshot t.waiting) ≡ v + length t.waiting = length-log_with are t.snapshot t.waiting in
    let e : v + i - length s ≡ i = omega arith in
    get_or_append_left (s ++ w) (own_touch t ∷ []) no_touch (v + i) (omega arith)
    ∙ get_or-append_right s w (length s) (v + i) no_touch refl (omega arith)
    ∙ ap (λ k. get_or w k no_touch) e
    ∙ get_or-map touch_in t.waiting i no_open no_touch lt

-- the versions of the snapshot have the same newest ones in the ticket's touches
pub newest_stays : TouchesAre → LogsGrow → (t : NumberedUpdate) (range : Range) → newest_known t.snapshot range ≡ newest_of t.snapshot.page_size (log_upto t) (length t.snapshot.rows) range
newest_stays are grow t range =
    let p : ℕ = t.snapshot.page_size in
    let s : List Touch = log_of t.snapshot in
    let w : List Touch = map touch_in t.waiting in
    let v : ℕ = length t.snapshot.rows in
    let count : length s ≡ v = length-log_of are t.snapshot in
    let both : length (s ++ w) ≡ v + length t.waiting = length-log_with are t.snapshot t.waiting in
    sym (grow p v (s ++ w) (own_touch t ∷ []) range (omega arith) ∙ grow p v s w range (omega arith))

-- a waiting update that touches the range is the newest up to itself, and one that doesn't leaves the newest
pub waiting_hit : TouchesAre → (t : NumberedUpdate) → IsValidTicket t → (range : Range) (i k : ℕ) → i < length t.waiting → k ≡ i + 1 → meets_of t.snapshot.page_size (open_at t.waiting i).touch range ≡ true
    → newest_of t.snapshot.page_size (log_upto t) (length t.snapshot.rows + k) range ≡ (open_at t.waiting i).version
unfolding newest_of
waiting_hit are t is range i k lt next met =
    let v : ℕ = length t.snapshot.rows in
    let p : ℕ = t.snapshot.page_size in
    let e : v + k ≡ suc (v + i) = omega arith in
    let here : touch_at (log_upto t) (suc (v + i)) ≡ (open_at t.waiting i).touch = touch_waiting are t i lt in
    let hit : meets_of p (touch_at (log_upto t) (suc (v + i))) range ≡ true = ap (λ (u : Touch). meets_of p u range) here ∙ met in
    let took : newest_of p (log_upto t) (suc (v + i)) range ≡ suc (v + i) = ap (λ b. if b then suc (v + i) else newest_of p (log_upto t) (v + i) range) hit in
    let named : (open_at t.waiting i).version ≡ v + i + 1 = is.waiting i lt in
    ap (λ n. newest_of p (log_upto t) n range) e ∙ took ∙ omega arith

pub waiting_miss : TouchesAre → (t : NumberedUpdate) (range : Range) (i k : ℕ) → i < length t.waiting → k ≡ i + 1 → meets_of t.snapshot.page_size (open_at t.waiting i).touch range ≡ false
    → newest_of t.snapshot.page_size (log_upto t) (length t.snapshot.rows + k) range ≡ newest_of t.snapshot.page_size (log_upto t) (length t.snapshot.rows + i) range
unfolding newest_of
waiting_miss are t range i k lt next apart =
    let v : ℕ = length t.snapshot.rows in
    let p : ℕ = t.snapshot.page_size in
    let e : v + k ≡ suc (v + i) = omega arith in
    let here : touch_at (log_upto t) (suc (v + i)) ≡ (open_at t.waiting i).touch = touch_waiting are t i lt in
    let miss : meets_of p (touch_at (log_upto t) (suc (v + i))) range ≡ false = ap (λ (u : Touch). meets_of p u range) here ∙ apart in
    ap (λ n. newest_of p (log_upto t) n range) e ∙ ap (λ b. if b then suc (v + i) else newest_of p (log_upto t) (v + i) range) miss

-- no version is so great that it doesn't fit in 32 bits
pub newest_few : NewestIsGreatest → (t : NumberedUpdate) (range : Range) (newest : ℕ) → IsValidTicket t → length t.waiting ≤ 64
    → newest ≡ newest_of t.snapshot.page_size (log_upto t) (t.version - 1) range → newest < 2 ^ 32
newest_few greatest t range newest is few e =
    let upto = (greatest t.snapshot.page_size (t.version - 1) (log_upto t) range).0.upto in
    omega (arith, e, upto, is.version, is.published.counted, few)

-- ---- the path to a page
pub halved : (page h : ℕ) → page / 2 ^ h / 2 ≡ page / 2 ^ (h + 1)
halved page h =
    let e : 2 ^ h * 2 ≡ 2 ^ (h + 1) = let f : h + 1 ≡ suc h = omega arith in rw (f, pow-succ' 2 h) (omega arith) in
    div-div-eq-div-mul page (2 ^ h) 2 ∙ ap (λ n. page / n) e

pub beside_even : (n : ℕ) → n % 2 ≡ 0 → beside n ≡ n + 1
beside_even n e = let test : (n % 2 == 0) ≡ true = grind (arith, nat_tests) in ap (λ b. if b then n + 1 else n - 1) test

pub beside_odd : (n : ℕ) → n % 2 ≡ 1 → beside n ≡ n - 1
beside_odd n e = let test : (n % 2 == 0) ≡ false = grind (arith, nat_tests) in ap (λ b. if b then n + 1 else n - 1) test

-- ---- down to the page
-- from the root down to a height: the snapshot's newest version for the range over the page, and the newest lower versions
-- beside the path
pub record Down (p : ℕ) (log below : List Touch) (v k top page h at : ℕ) (besides : List ℕ) : Type 0 where
  pub below_root : h ≤ top
  pub room : length besides ≡ 39
  pub newest : at ≡ newest_of p below v (tree_range p h (page / 2 ^ h))
  pub sides : (j : ℕ) → h ≤ j → j < top → get_or besides j 0 ≡ newest_of p log k (tree_range p j (beside (page / 2 ^ j)))

-- sizes rise
rise : (p : ℕ) (log : List Touch) → Grown p log → (a n : ℕ) → a + n ≤ length log → size_at log a ≤ size_at log (a + n)
rise p log g a zero le =
    let e : a + 0 ≡ a = omega arith in
    let P : ℕ → Type 0 = λ m. size_at log a ≤ size_at log m in
    subst P (sym e) (omega arith)
rise p log g a (suc n) le =
    let e : a + suc n ≡ suc (a + n) = omega arith in
    let before : size_at log a ≤ size_at log (a + n) = rise p log g a n (omega arith) in
    let last : size_at log (a + n) ≤ size_at log (suc (a + n)) = g.rises (a + n) (omega arith) in
    let P : ℕ → Type 0 = λ m. size_at log a ≤ size_at log m in
    subst P (sym e) (omega arith)

size_front : (s more : List Touch) (v : ℕ) → v ≤ length s → size_at (s ++ more) v ≡ size_at s v
size_front s more zero le = refl
size_front s more (suc v) le = ap (λ (u : Touch). u.size) (get_or_append_left s more no_touch v le)

-- the snapshot has no more bytes than the new version
pub size_before : TouchesAre → LogsAreGrown → (t : NumberedUpdate) → IsValidTicket t → 1 ≤ t.snapshot.page_size → size_at (log_of t.snapshot) (length t.snapshot.rows) ≤ t.size
size_before are grown t is pos =
    let p : ℕ = t.snapshot.page_size in
    let s : List Touch = log_of t.snapshot in
    let w : List Touch = map touch_in t.waiting in
    let all : List Touch = log_upto t in
    let v : ℕ = length t.snapshot.rows in
    let n : ℕ = length t.waiting in
    let us = is.stands.0 in
    let st : IsTicketAmong t us = is.stands.1 in
    let P : List Touch → Type 0 = λ l. Grown p l in
    let g : Grown p all = subst P st.touches (grown p us pos st.in_bounds) in
    let count : length s ≡ v = length-log_of are t.snapshot in
    let both : length (s ++ w) ≡ v + n = length-log_with are t.snapshot t.waiting in
    let whole : length all ≡ v + n + 1 = length-append (s ++ w) (own_touch t ∷ []) ∙ ap (λ m. m + 1) both in
    let up : size_at all v ≤ size_at all (v + n) = rise p all g v n (omega arith) in
    let e : t.version - 1 ≡ v + n = omega (arith, is.version) in
    let top : size_at all (t.version - 1) ≡ size_at all (v + n) = ap (size_at all) e in
    let low : size_at all v ≡ size_at s v = size_front (s ++ w) (own_touch t ∷ []) v (omega arith) ∙ size_front s w v (omega arith) in
    omega (arith, is.size, up, top, low)

down_start : NewestHits → NewestOfNone → HeightsHold → TouchesAre → LogsAreGrown → (log : List Touch) (t : NumberedUpdate) (k page : ℕ) (besides : List ℕ) → length besides ≡ 39 → IsValidTicket t → 1 ≤ t.snapshot.page_size
    → Grown t.snapshot.page_size (log_of t.snapshot) → page * t.snapshot.page_size < t.size
    → Down t.snapshot.page_size log (log_of t.snapshot) (length t.snapshot.rows) k (height_of t.snapshot.page_size t.size) page (height_of t.snapshot.page_size t.size) (length t.snapshot.rows) besides
down_start hits none heights are grown log t k page besides room is pos g inside =
    let p : ℕ = t.snapshot.page_size in
    let top : ℕ = height_of p t.size in
    let s : List Touch = log_of t.snapshot in
    let v : ℕ = length t.snapshot.rows in
    let count : length s ≡ v = length-log_of are t.snapshot in
    let reach : t.size ≤ p * 2 ^ top = (heights p t.size pos).reaches in
    let small : page < 1 * 2 ^ top = elim (cases_lt page (2 ^ top)) [
      | inl lt ↦ omega arith
      | inr ge ↦ absurd (let e : 2 ^ top * p ≤ page * p = mul-le (2 ^ top) p page p ge (omega arith) in omega arith)
    ] in
    let under : page / 2 ^ top < 1 = div_below page (2 ^ top) 1 (pow_pos top) small in
    let zero_q : page / 2 ^ top ≡ 0 = omega arith in
    record {
      below_root = omega arith;
      room = room;
      newest = sym (ap (λ q. newest_of p s v (tree_range p top q)) zero_q ∙ holds_root hits none p s v top g pos (omega arith) (omega (arith, size_before are grown t is pos)));
      sides = λ j from to. absurd (omega arith);
    }

pub down_started : NewestHits → NewestOfNone → HeightsHold → TouchesAre → LogsAreGrown → (log : List Touch) (t : NumberedUpdate) (k page h at : ℕ) (besides : List ℕ) → length besides ≡ 39 → IsValidTicket t → 1 ≤ t.snapshot.page_size
    → Grown t.snapshot.page_size (log_of t.snapshot) → page * t.snapshot.page_size < t.size → h ≡ height_of t.snapshot.page_size t.size → at ≡ length t.snapshot.rows
    → Down t.snapshot.page_size log (log_of t.snapshot) (length t.snapshot.rows) k (height_of t.snapshot.page_size t.size) page h at besides
down_started hits none heights are grown log t k page h at besides room is pos g inside high v =
    let P : ℕ → ℕ → Type 0 = λ j a. Down t.snapshot.page_size log (log_of t.snapshot) (length t.snapshot.rows) k (height_of t.snapshot.page_size t.size) page j a besides in
    let Q : ℕ → Type 0 = λ j. P j at in
    let R : ℕ → Type 0 = λ a. P (height_of t.snapshot.page_size t.size) a in
    subst Q (sym high) (subst R (sym v) (down_start hits none heights are grown log t k page besides room is pos g inside))

pub down_turn : (p : ℕ) (log below : List Touch) (v k top page h at on off : ℕ) (besides : List ℕ) → 1 ≤ h → h ≤ 38 → Down p log below v k top page h at besides
    → on ≡ newest_of p below v (tree_range p (h - 1) (page / 2 ^ (h - 1))) → off ≡ newest_of p log k (tree_range p (h - 1) (beside (page / 2 ^ (h - 1))))
    → Down p log below v k top page (h - 1) on (set besides (h - 1) off)
down_turn p log below v k top page h at on off besides some few d newest side = let room : h - 1 < length besides = omega (arith, d.room) in record {
  below_root = omega (arith, d.below_root);
  room = length-set besides (h - 1) off ∙ d.room;
  newest = newest;
  sides = λ j from to. elim (cases_lt (h - 1) j) [
    | inl above ↦
        let other : j ≢ h - 1 = λ e. omega arith in
        get_or-set_other besides (h - 1) j off 0 other ∙ d.sides j (omega arith) to
    | inr here ↦
        let e : j ≡ h - 1 = omega arith in
        let S : ℕ → ℕ = λ m. newest_of p log k (tree_range p m (beside (page / 2 ^ m))) in
        ap (λ m. get_or (set besides (h - 1) off) m 0) e ∙ get_or-set_same besides (h - 1) off 0 room ∙ side ∙ ap S (sym e)
  ];
}

pub page_is : (p page h : ℕ) → h ≡ 0 → tree_range p h (page / 2 ^ h) ≡ tree_range p 0 page
page_is p page h e = let number : page / 2 ^ h ≡ page = rw e (omega arith) in ap (tree_range p h) number ∙ ap (λ k. tree_range p k page) e

pub edge_known : (p : ℕ) (log below : List Touch) (v k top page h at leaf depth : ℕ) (besides : List ℕ) (range : Range) → h ≡ 0 → Down p log below v k top page h at besides
    → range ≡ page_range p page → leaf ≡ newest_of p log k range → depth ≡ depth_of p log k page → KnowsEdge p log k top page (edge_links besides leaf depth)
edge_known p log below v k top page h at leaf depth besides range low d here is deep =
    record { leaf = is ∙ ap (newest_of p log k) here; besides = λ j lt. d.sides j (omega arith) lt; depth = deep }

-- ---- the touched pages
pub first_inside : (at len p size : ℕ) → 1 ≤ len → at + len ≤ size → at / p * p < size
first_inside at len p size some le = let e : at / p * p ≤ at = div-mul-le_self at p in omega arith

pub last_inside : (at len p size : ℕ) → 1 ≤ len → at + len ≤ size → (at + len - 1) / p * p < size
last_inside at len p size some le = let e : (at + len - 1) / p * p ≤ at + len - 1 = div-mul-le_self (at + len - 1) p in omega arith

pub pages_ordered : (at len p : ℕ) → 1 ≤ p → 1 ≤ len → at / p ≤ (at + len - 1) / p
pages_ordered at len p pos some =
    let a : at / p * p ≤ at = div-mul-le_self at p in
    elim (cases_lt ((at + len - 1) / p) (at / p)) [
      | inl lt ↦ absurd (let b : (((at + len - 1) / p) + 1) * p ≤ at / p * p = mul-le ((at + len - 1) / p + 1) p (at / p) p (omega arith) (omega arith) in let d : at + len - 1 < (at + len - 1) / p * p + p = lt-div-mul-add pos in omega arith)
      | inr done ↦ done
    ]
