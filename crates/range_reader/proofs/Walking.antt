-- Steps of the walk from a node to its halves, and at a page.
use Rattle.std.proofs.Common.{◌≡◌, ◌≢◌, ◌⊎◌, ℕ, zero, suc, ◌+◌, ◌-◌, ◌*◌, ◌/◌, ◌%◌, ◌^◌, ◌<◌, ◌≤◌, List, [], ◌∷◌, ◌++◌, length, arith, refl, ap, sym, ◌∙◌, subst, inl, inr, false}
use Rattle.std.proofs.lemmas.Bool.Decides.{nat_tests}
use Rattle.std.specs.Prelude.{◌==◌, Result, Ok, Err, IfErr, OnOk}
use Rattle.std.specs.List.{range_with_len, sum_by}
use Rattle.std.proofs.lemmas.Bool.{cases_lt}
use Rattle.std.proofs.lemmas.Nat.{mul-le, pow_pos, le-div, div-add-mod'}
use Rattle.std.proofs.lemmas.List.Sums.{sum_by-append, sum_by-cons}
use Rattle.std.proofs.Math.Nat.{div-mul-le_self, mul-div_cancel}
use Rattle.tree_geom.specs.declared.range.Range.{Range}
use Rattle.tree_geom.specs.Geometry.{Aligned, tree_range, page_range, left_half, right_half, height_of, span_of}
use Rattle.range_log.specs.Log.{newest_of}
use Rattle.range_log.specs.Visits.{pages_met, backs_of}
use Rattle.range_log.specs.Laws.{ExtentsStand}
use Rattle.range_log.specs.Walk.{nodes_visited, LinksStep, VisitedLeaf, VisitedInner}
use Rattle.snapshot.specs.Versions.{Version, updates_of, size_now, HasNodeFor, IsVersion}
use Rattle.tree_geom.proofs.Spans.{page_pos}
use Rattle.range_log.proofs.Bytes.{length-extents}
use Rattle.range_reader.specs.Reading.{falls, log_of, newest_in, backs_in}
use Rattle.range_reader.specs.Faults.{PageFailedIn}
use Rattle.page_fan.specs.Counts.{NoneFell}
use Rattle.range_reader.proofs.Counting.{page_since}
use Rattle.range_reader.proofs.Among.{length-updates}
use Rattle.range_log.proofs.Walk.{double}

-- ---- pages by their bytes
pub page_le : (p a b x : ℕ) → 1 ≤ p → a * p ≤ x → x < (b + 1) * p → a ≤ b
page_le p a b x pos le lt = elim (cases_lt b a) [
  | inl more ↦ absurd (let e : (b + 1) * p ≤ a * p = mul-le (b + 1) p a p (omega arith) (omega arith) in omega arith)
  | inr fine ↦ fine
]

pub down : (x p : ℕ) → x / p * p ≤ x
down x p = div-mul-le_self x p

pub up : (x p : ℕ) → 1 ≤ p → x < (x / p + 1) * p
up x p pos = omega arith

pub div_is : (p q x : ℕ) → 1 ≤ p → q * p ≤ x → x < (q + 1) * p → x / p ≡ q
div_is p q x pos le lt =
    let a : x / p ≤ q = page_le p (x / p) q x pos (down x p) lt in
    let b : q ≤ x / p = page_le p q (x / p) x pos le (up x p pos) in
    omega arith

div_rises : (p x y : ℕ) → 1 ≤ p → x ≤ y → x / p ≤ y / p
div_rises p x y pos le = le-div (x / p) y p pos (let d : x / p * p ≤ x = down x p in omega arith)

pub at_least : (p h : ℕ) → p ≤ p * 2 ^ h
at_least p h = let e : p * 1 ≤ p * 2 ^ h = mul-le p 1 p (2 ^ h) (omega arith) (pow_pos h) in omega arith

zero_height : (p h : ℕ) → 1 ≤ p → p * 2 ^ h ≡ p → h ≡ 0
zero_height p zero pos is = refl
zero_height p (suc h) pos is = absurd (omega (arith, double p h, at_least p h))

pub larger : (p : ℕ) (r : Range) → 1 ≤ p → Aligned p r → r.size ≢ p → p < r.size
larger p r pos (h, q, e) other =
    let s : r.size ≡ p * 2 ^ h = ap (λ (x : Range). x.size) e in
    elim (cases_lt p r.size) [
      | inl more ↦ more
      | inr less ↦ absurd (other (omega (arith, at_least p h)))
    ]

pub even : (p : ℕ) (r : Range) → Aligned p r → p < r.size → r.size % 2 ≡ 0
even p r (zero, q, e) large = absurd (let s : r.size ≡ p * 2 ^ 0 = ap (λ (x : Range). x.size) e in let o : p * 2 ^ 0 ≡ p = omega arith in omega arith)
even p r (suc h, q, e) large = let s : r.size ≡ p * 2 ^ suc h = ap (λ (x : Range). x.size) e in omega (arith, double p h)

pub range_from : (a b : Range) → a.offset ≡ b.offset → a.size ≡ b.size → a ≡ b
range_from a b o s =
    let make : ℕ → ℕ → Range = λ x y. record { offset = x; size = y } in
    ap (λ x. make x a.size) o ∙ ap (make b.offset) s

pub page_of_range : (p : ℕ) (r : Range) → 1 ≤ p → Aligned p r → r.size ≡ p → r ≡ page_range p (r.offset / p)
page_of_range p r pos (h, q, e) whole =
    let s : r.size ≡ p * 2 ^ h = ap (λ (x : Range). x.size) e in
    let one : p * 2 ^ h ≡ p = sym s ∙ whole in
    let o : r.offset ≡ q * p = ap (λ (x : Range). x.offset) e ∙ ap (λ n. q * n) one in
    let d : r.offset / p ≡ q = ap (λ n. n / p) o ∙ mul-div_cancel q pos in
    range_from r (page_range p (r.offset / p)) (o ∙ ap (λ n. n * p) (sym d)) whole

-- ---- at a page
pub record PageStep (s : Version) (r : Range) (from n : ℕ) : Type 0 where
  pub begins : from / s.page_size ≡ r.offset / s.page_size
  pub ends : (from + n - 1) / s.page_size ≡ r.offset / s.page_size
  pub backs : backs_in s from n ≡ backs_of s.page_size (falls s) (length s.rows) (r.offset / s.page_size)
  pub visits : VisitedLeaf → (h q first last : ℕ) → r ≡ tree_range s.page_size h q → first * s.page_size ≤ from → from + n ≤ (last + 1) * s.page_size → nodes_visited h q first last ≡ 1

pub page_step : (s : Version) (r : Range) (from n : ℕ) → 1 ≤ s.page_size → Aligned s.page_size r → r.size ≡ s.page_size → r.offset ≤ from → from + n ≤ r.offset + r.size → 1 ≤ n → PageStep s r from n
page_step s r from n pos al whole le fits some =
    let p : ℕ = s.page_size in
    let page : ℕ = r.offset / p in
    let o : r.offset ≡ page * p = ap (λ (x : Range). x.offset) (page_of_range p r pos al whole) in
    let span : (page + 1) * p ≡ page * p + p = omega arith in
    let a : from / p ≡ page = div_is p page from pos (omega arith) (omega arith) in
    let b : (from + n - 1) / p ≡ page = div_is p page (from + n - 1) pos (omega arith) (omega arith) in
    let f : ℕ → ℕ = λ i. backs_of p (falls s) (length s.rows) i in
    let one : page + 1 - page ≡ 1 = omega arith in
    let met : pages_met p from n ≡ page ∷ [] = ap (λ x. range_with_len x ((from + n - 1) / p + 1 - x)) a ∙ ap (λ y. range_with_len page (y + 1 - page)) b ∙ ap (range_with_len page) one in
    record {
      begins = a;
      ends = b;
      backs = ap (sum_by f) met ∙ sum_by-cons f page [] ∙ (let e : f page + sum_by f [] ≡ f page = omega arith in e);
      visits = λ leaf h q first last e before after.
          let size : r.size ≡ p * 2 ^ h = ap (λ (x : Range). x.size) e in
          let bottom : h ≡ 0 = zero_height p h pos (sym size ∙ whole) in
          let at : r.offset ≡ q * p = ap (λ (x : Range). x.offset) e ∙ ap (λ m. q * m) (sym size ∙ whole) in
          let next : (q + 1) * p ≡ q * p + p = omega arith in
          ap (λ k. nodes_visited k q first last) bottom ∙ leaf q first last (page_le p first q from pos before (omega arith)) (page_le p q last (from + n - 1) pos (omega arith) (omega arith));
    }

-- the pages of bytes that lie in one page
pub within_page : (s : Version) (from n : ℕ) → 1 ≤ s.page_size → 1 ≤ n → from % s.page_size + n ≤ s.page_size
    → ((from + n - 1) / s.page_size ≡ from / s.page_size) × (backs_in s from n ≡ backs_of s.page_size (falls s) (length s.rows) (from / s.page_size))
within_page s from n pos some fits =
    let p : ℕ = s.page_size in
    let i : ℕ = from / p in
    let sum : i * p + from % p ≡ from = div-add-mod' from p in
    let next : (i + 1) * p ≡ i * p + p = omega arith in
    let e : (from + n - 1) / p ≡ i = div_is p i (from + n - 1) pos (omega arith) (omega arith) in
    let f : ℕ → ℕ = λ k. backs_of p (falls s) (length s.rows) k in
    let one : i + 1 - i ≡ 1 = omega arith in
    let met : pages_met p from n ≡ i ∷ [] = ap (λ y. range_with_len i (y + 1 - i)) e ∙ ap (range_with_len i) one in
    (e, ap (sum_by f) met ∙ sum_by-cons f i [] ∙ (let z : f i + sum_by f [] ≡ f i = omega arith in z))

-- ---- at an inner node
pub child : LinksStep → ExtentsStand → (s : Version) → IsVersion s → (at link : ℕ) (r half : Range) → at ≡ newest_in s r → HasNodeFor s at r → s.page_size < r.size
    → (half ≡ left_half r) ⊎ (half ≡ right_half r) → half.offset < size_now s → link ≡ newest_of s.page_size (log_of s) at half → (link ≡ newest_in s half) × HasNodeFor s link half
child step stand s is at link r half newest has large which begins same =
    let us = updates_of s in
    let stands = stand us is.replayable in
    let le : length s.rows ≤ length us = omega (arith, length-updates s) in
    let st = step s.page_size (length s.rows) at (falls s) r half (page_pos s.page_size is.page_size) stands.0 (omega (arith, length-extents us, length-updates s)) has newest large which
    (omega (arith, begins, stands.2 (length s.rows) le)) in
    let H : ℕ → Type 0 = λ j. HasNodeFor s j half in
    (same ∙ st.1, subst H (sym same) st.0)

pub record InnerStep (p h q first last : ℕ) (r : Range) : Type 0 where
  pub below : ℕ
  pub left : left_half r ≡ tree_range p below (2 * q)
  pub right : right_half r ≡ tree_range p below (2 * q + 1)
  pub visits : nodes_visited h q first last ≡ 1 + nodes_visited below (2 * q) first last + nodes_visited below (2 * q + 1) first last

pub inner_step : VisitedInner → (p h q first last from n : ℕ) (r : Range) → 1 ≤ p → r ≡ tree_range p h q → p < r.size → first * p ≤ from → from + n ≤ (last + 1) * p
    → r.offset ≤ from → from + n ≤ r.offset + r.size → 1 ≤ n → InnerStep p h q first last r
inner_step inner p zero q first last from n r pos e large before after le fits some =
    absurd (let s : r.size ≡ p * 2 ^ 0 = ap (λ (x : Range). x.size) e in let o : p * 2 ^ 0 ≡ p = omega arith in omega arith)
inner_step inner p (suc k) q first last from n r pos e large before after le fits some =
    let s : r.size ≡ p * 2 ^ suc k = ap (λ (x : Range). x.size) e in
    let o : r.offset ≡ q * (p * 2 ^ suc k) = ap (λ (x : Range). x.offset) e in
    let two : p * 2 ^ suc k ≡ 2 * (p * 2 ^ k) = double p k in
    let half : r.size / 2 ≡ p * 2 ^ k = omega arith in
    let low : r.offset ≡ 2 * q * (p * 2 ^ k) = o ∙ ap (λ m. q * m) two ∙ (let f : q * (2 * (p * 2 ^ k)) ≡ 2 * q * (p * 2 ^ k) = omega arith in f) in
    let high : (2 * q + 1) * (p * 2 ^ k) ≡ 2 * q * (p * 2 ^ k) + p * 2 ^ k = omega arith in
    let turn : q * 2 ^ suc k * p ≡ q * (p * 2 ^ suc k) = omega arith in
    let turn' : (q + 1) * 2 ^ suc k * p ≡ q * (p * 2 ^ suc k) + p * 2 ^ suc k = omega arith in
    let begins : q * 2 ^ suc k ≤ last = page_le p (q * 2 ^ suc k) last from pos (omega arith) (omega arith) in
    let ends : first < (q + 1) * 2 ^ suc k = elim (cases_lt first ((q + 1) * 2 ^ suc k)) [
      | inl less ↦ less
      | inr more ↦ absurd (let m : (q + 1) * 2 ^ suc k * p ≤ first * p = mul-le ((q + 1) * 2 ^ suc k) p first p more (omega arith) in omega arith)
    ] in
    record {
      below = k;
      left = range_from (left_half r) (tree_range p k (2 * q)) low half;
      right = range_from (right_half r) (tree_range p k (2 * q + 1)) (omega arith) half;
      visits = inner k q first last begins ends;
    }

-- a node of more than a page: each link names the newest node of its half, and its visits are one and those of its halves
pub record InnerNode (s : Version) (r low high : Range) (left right : ℕ) : Type 0 where
  pub left_newest : (left ≡ newest_in s low) × HasNodeFor s left low
  pub right_newest : high.offset < size_now s → (right ≡ newest_in s high) × HasNodeFor s right high
  pub ends : high.offset + high.size ≡ r.offset + r.size
  pub step : VisitedInner → (h q first last from n : ℕ) → r ≡ tree_range s.page_size h q → first * s.page_size ≤ from → from + n ≤ (last + 1) * s.page_size
      → r.offset ≤ from → from + n ≤ r.offset + r.size → 1 ≤ n → InnerStep s.page_size h q first last r

pub inner_node : LinksStep → ExtentsStand → (s : Version) → IsVersion s → (at left right bytes : ℕ) (r low high : Range) → at ≡ newest_in s r → HasNodeFor s at r → r.size ≢ bytes → bytes ≡ s.page_size
    → low ≡ left_half r → high ≡ right_half r → r.offset < size_now s
    → left ≡ newest_of s.page_size (log_of s) at (left_half r) → right ≡ newest_of s.page_size (log_of s) at (right_half r) → InnerNode s r low high left right
inner_node links stand s is at left right bytes r low high newest has other size lower upper begins to_left to_right =
    let p : ℕ = s.page_size in
    let pos : 1 ≤ p = page_pos p is.page_size in
    let large : p < r.size = larger p r pos has.aligned (λ e. other (e ∙ sym size)) in
    let o = ap (λ (x : Range). x.offset) lower in
    let turn = ap (λ (x : Range). x.offset) upper in
    let half = ap (λ (x : Range). x.size) upper in
    record {
      left_newest = child links stand s is at left r low newest has large (inl lower) (omega (arith, o, begins)) (to_left ∙ ap (newest_of p (log_of s) at) (sym lower));
      right_newest = λ within. child links stand s is at right r high newest has large (inr upper) within (to_right ∙ ap (newest_of p (log_of s) at) (sym upper));
      ends = omega (arith, turn, half, even p r has.aligned large);
      step = λ visited h q first last from n e before after le fits some. inner_step visited p h q first last from n r pos e large before after le fits some;
    }

-- halves can be made of it
pub halved : (s : Version) → IsVersion s → (at bytes : ℕ) (r : Range) → HasNodeFor s at r → r.size ≢ bytes → bytes ≡ s.page_size → r.size % 2 ≡ 0
halved s is at bytes r has other size = even s.page_size r has.aligned (larger s.page_size r (page_pos s.page_size is.page_size) has.aligned (λ e. other (e ∙ sym size)))

-- ---- the backs of two parts of the pages
range_more : (a m n : ℕ) → range_with_len a m ++ range_with_len (a + m) n ≡ range_with_len a (m + n)
range_more a zero n =
    let e : a + 0 ≡ a = omega arith in
    let f : n ≡ 0 + n = omega arith in
    ap (λ k. range_with_len k n) e ∙ ap (range_with_len a) f
range_more a (suc m) n =
    let e : a + suc m ≡ a + 1 + m = omega arith in
    let f : suc (m + n) ≡ suc m + n = omega arith in
    ap (λ k. a ∷ (range_with_len (a + 1) m ++ range_with_len k n)) e ∙ ap (λ l. a ∷ l) (range_more (a + 1) m n) ∙ ap (range_with_len a) f

pub backs_join : (s : Version) (from mid n c : ℕ) → 1 ≤ s.page_size → mid ≡ c * s.page_size → from < mid → mid < from + n
    → backs_in s from (mid - from) + backs_in s mid (from + n - mid) ≡ backs_in s from n
backs_join s from mid n c pos is before after =
    let p : ℕ = s.page_size in
    let f : ℕ → ℕ = λ i. backs_of p (falls s) (length s.rows) i in
    let a : ℕ = from / p in
    let l : ℕ = (from + n - 1) / p in
    let d : a * p ≤ from = down from p in
    let some : 1 ≤ c = elim (cases_lt 0 c) [ inl more ↦ more | inr none ↦ absurd (let z : c ≡ 0 = omega arith in let y : c * p ≡ 0 * p = ap (λ k. k * p) z in omega arith) ] in
    let step : c * p ≡ (c - 1 + 1) * p = ap (λ k. k * p) (let e : c ≡ c - 1 + 1 = omega arith in e) in
    let prior : (c - 1 + 1) * p ≡ (c - 1) * p + p = omega arith in
    let next : (c + 1) * p ≡ c * p + p = omega arith in
    let end : (from + (mid - from) - 1) / p ≡ c - 1 = div_is p (c - 1) (from + (mid - from) - 1) pos (omega arith) (omega arith) in
    let begin : mid / p ≡ c = ap (λ x. x / p) is ∙ mul-div_cancel c pos in
    let le : a ≤ c - 1 = page_le p a (c - 1) from pos d (omega arith) in
    let far : c ≤ l = le-div c (from + n - 1) p pos (omega arith) in
    let same : mid + (from + n - mid) - 1 ≡ from + n - 1 = omega arith in
    let one : pages_met p from (mid - from) ≡ range_with_len a (c - a) = ap (λ x. range_with_len a (x + 1 - a)) end ∙ ap (range_with_len a) (let e : c - 1 + 1 - a ≡ c - a = omega arith in e) in
    let two : pages_met p mid (from + n - mid) ≡ range_with_len (a + (c - a)) (l + 1 - c) =
    ap (λ x. range_with_len x ((mid + (from + n - mid) - 1) / p + 1 - x)) begin ∙ ap (λ x. range_with_len c (x / p + 1 - c)) same
    ∙ ap (λ x. range_with_len x (l + 1 - c)) (let e : c ≡ a + (c - a) = omega arith in e) in
    let whole : c - a + (l + 1 - c) ≡ l + 1 - a = omega arith in
    ap (λ x. sum_by f x + sum_by f (pages_met p mid (from + n - mid))) one ∙ ap (λ x. sum_by f (range_with_len a (c - a)) + sum_by f x) two
    ∙ sym (sum_by-append f (range_with_len a (c - a)) (range_with_len (a + (c - a)) (l + 1 - c))) ∙ ap (sum_by f) (range_more a (c - a) (l + 1 - c) ∙ ap (range_with_len a) whole)

-- ---- faults of a part of the pages
pub failed_front : (s : Version) (from m n : ℕ) (before now : List ℕ) (i : ℕ) → 1 ≤ s.page_size → m ≤ n → PageFailedIn s from m before now i → PageFailedIn s from n before now i
failed_front s from m n before now i pos le f = record {
  from = f.from;
  upto = let d = div_rises s.page_size (from + m - 1) (from + n - 1) pos (omega arith) in omega (arith, f.upto, d);
  failed = f.failed;
}

pub failed_back : (s : Version) (from mid n m : ℕ) (before between now : List ℕ) (i : ℕ) → 1 ≤ s.page_size → from ≤ mid → mid + m ≡ from + n → NoneFell before between
    → PageFailedIn s mid m between now i → PageFailedIn s from n before now i
failed_back s from mid n m before between now i pos le same kept f = record {
  from = let d = div_rises s.page_size from mid pos le in omega (arith, f.from, d);
  upto = let e : mid + m - 1 ≡ from + n - 1 = omega arith in let d = ap (λ x. x / s.page_size) e in omega (arith, f.upto, d);
  failed = page_since s before between now i kept f.failed;
}

pub err_then : {T E : Type 0} (r : Result T E) (P Q : E → Type 0) → ((e : E) → P e → Q e) → IfErr r P → IfErr r Q
err_then (Ok x) P Q f h = tt
err_then (Err e) P Q f h = f e h

pub ok_then : {T E : Type 0} (r : Result T E) (P Q : Type 0) → (P → Q) → OnOk r P → OnOk r Q
ok_then (Ok x) P Q f h = f h
ok_then (Err e) P Q f h = tt

-- ---- the root
pub root_span : (p n : ℕ) → 1 ≤ n → span_of p n ≡ p * 2 ^ height_of p n
unfolding span_of
root_span p zero some = absurd (omega arith)
root_span p (suc n) some = let e : (suc n == 0) ≡ false = grind (arith, nat_tests) in rw (e, span_of)
