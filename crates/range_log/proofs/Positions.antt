-- Where a range stands in a row.
use Rattle.std.proofs.Common.{◌≡◌, ◌⊎◌, ℕ, ◌+◌, ◌-◌, ◌*◌, ◌/◌, ◌^◌, ◌<◌, ◌≤◌, zero, suc, List, ◌++◌, length, get_or, arith, inl, inr, refl, ap, sym, subst, ◌∙◌, length-append}
use Rattle.std.specs.List.{Contains}
use Rattle.std.specs.Prelude.{Some, slice_get}
use Rattle.std.proofs.lemmas.Bool.{cases_lt}
use Rattle.std.proofs.lemmas.Nat.{mul-le, pow_pos, pow-add, shr-shr}
use Rattle.std.proofs.lemmas.Option.{slice_get-get_or}
use Rattle.std.proofs.lemmas.List.{get_or_append_left, get_or-append-add}
use Rattle.std.proofs.lemmas.List.FromFn.{length-map-range_with_len, get_or-map-range_with_len}
use Rattle.tree_geom.specs.declared.range.Range.{Range}
use Rattle.tree_geom.specs.declared.touch.Touch.{Touch}
use Rattle.tree_geom.specs.Geometry.{tree_range, IsPageSize}
use Rattle.range_log.specs.Rows.{level_of, levels_of}
use Rattle.range_log.specs.Positions.{IsLevelOf, NoLevelHas}
use Rattle.range_log.proofs.Exact.{from_levels, met_by_pages, powers}
use Rattle.range_log.proofs.Grown.{pages_rise}
use Rattle.range_log.proofs.Levels.{size_fits}
use Rattle.range_log.proofs.Counts.{levels_are_few}
use Rattle.std.proofs.Math.Nat.{pow-suc, div-div-eq-div-mul, div-mul-le_self, mul-div_cancel}

-- ---- how many ranges the levels have
levels-suc : (p : ℕ) (t : Touch) (h : ℕ) → levels_of p t (suc h) ≡ level_of p t h ++ levels_of p t h
unfolding levels_of
levels-suc p t h = refl

count-level : (p : ℕ) (t : Touch) (h : ℕ) → length (level_of p t h) ≡ t.last / 2 ^ h + 1 - t.first / 2 ^ h
unfolding level_of
count-level p t h = length-map-range_with_len (λ q. tree_range p h q) (t.first / 2 ^ h) (t.last / 2 ^ h + 1 - t.first / 2 ^ h)

pub count-suc : (p : ℕ) (t : Touch) (h : ℕ) → length (levels_of p t (suc h)) ≡ t.last / 2 ^ h + 1 - t.first / 2 ^ h + length (levels_of p t h)
count-suc p t h = ap length (levels-suc p t h) ∙ length-append (level_of p t h) (levels_of p t h) ∙ ap (λ n. n + length (levels_of p t h)) (count-level p t h)

pub count-none : (p : ℕ) (t : Touch) → length (levels_of p t 0) ≡ 0
unfolding levels_of
count-none p t = refl

pub count_rises : (p : ℕ) (t : Touch) (h top : ℕ) → h ≤ top → length (levels_of p t h) ≤ length (levels_of p t top)
count_rises p t h zero le = let e : h ≡ 0 = omega arith in rw e (omega arith)
count_rises p t h (suc top) le =
    elim (cases_lt h (suc top)) [
      | inl lt ↦ let r : length (levels_of p t h) ≤ length (levels_of p t top) = count_rises p t h top (omega arith) in omega (arith, count-suc p t top)
      | inr ge ↦ let e : h ≡ suc top = omega arith in rw e (omega arith)
    ]

-- ---- where they stand
in_place : (p h q : ℕ) (t : Touch) (j : ℕ) (r : Range) → r ≡ tree_range p h q → q ≡ t.first / 2 ^ h + j → q ≤ t.last / 2 ^ h → get_or (level_of p t h) j r ≡ r
unfolding level_of
in_place p h q t j r is e le =
    get_or-map-range_with_len (λ q. tree_range p h q) (t.first / 2 ^ h) (t.last / 2 ^ h + 1 - t.first / 2 ^ h) j q r (omega arith) (omega arith) ∙ sym is

here : (p : ℕ) (t : Touch) (top q j i : ℕ) (r : Range) → r ≡ tree_range p top q → q ≡ t.first / 2 ^ top + j → q ≤ t.last / 2 ^ top
    → i ≡ j → get_or (levels_of p t (suc top)) i r ≡ r
here p t top q j i r is e le same =
    ap (λ l. get_or l i r) (levels-suc p t top)
    ∙ ap (λ n. get_or (level_of p t top ++ levels_of p t top) n r) same
    ∙ get_or_append_left (level_of p t top) (levels_of p t top) r j (omega (arith, count-level p t top))
    ∙ in_place p top q t j r is e le

-- counted from the end, a range stands after those of its level and below that are before it
at_level : (p : ℕ) (t : Touch) (top h q j i : ℕ) (r : Range) → h ≤ top → r ≡ tree_range p h q → q ≡ t.first / 2 ^ h + j → q ≤ t.last / 2 ^ h
    → i + length (levels_of p t (suc h)) ≡ length (levels_of p t (suc top)) + j → get_or (levels_of p t (suc top)) i r ≡ r
at_level p t zero h q j i r low is e le sum =
    let z : h ≡ 0 = omega arith in
    here p t 0 q j i r (is ∙ ap (λ n. tree_range p n q) z) (e ∙ ap (λ n. t.first / 2 ^ n + j) z) (rw z at le)
    (let s : i + length (levels_of p t 1) ≡ length (levels_of p t 1) + j = ap (λ n. i + length (levels_of p t (suc n))) (sym z) ∙ sum in omega arith)
at_level p t (suc top) h q j i r low is e le sum =
    elim (cases_lt h (suc top)) [
      | inl lt ↦
          let rise : length (levels_of p t (suc h)) ≤ length (levels_of p t (suc top)) = count_rises p t (suc h) (suc top) (omega arith) in
          let n : ℕ = length (level_of p t (suc top)) in
          let more : length (levels_of p t (suc (suc top))) ≡ n + length (levels_of p t (suc top)) = ap length (levels-suc p t (suc top)) ∙ length-append (level_of p t (suc top)) (levels_of p t (suc top)) in
          let k : ℕ = i - n in
          let same : i ≡ n + k = omega arith in
          ap (λ l. get_or l i r) (levels-suc p t (suc top))
          ∙ ap (λ m. get_or (level_of p t (suc top) ++ levels_of p t (suc top)) m r) same
          ∙ get_or-append-add (level_of p t (suc top)) (levels_of p t (suc top)) k r
          ∙ at_level p t top h q j k r (omega arith) is e le (omega arith)
      | inr ge ↦
          let z : h ≡ suc top = omega arith in
          here p t (suc top) q j i r (is ∙ ap (λ n. tree_range p n q) z) (e ∙ ap (λ n. t.first / 2 ^ n + j) z) (rw z at le)
          (let s : i + length (levels_of p t (suc (suc top))) ≡ length (levels_of p t (suc (suc top))) + j = ap (λ n. i + length (levels_of p t (suc n))) (sym z) ∙ sum in omega arith)
    ]

-- ---- what the code finds
range_is : (r : Range) (offset size : ℕ) → r.offset ≡ offset → r.size ≡ size → r ≡ record { offset = offset; size = size }
range_is r offset size a b = rw (← a, ← b)

one_more : (n : ℕ) → n + 1 ≡ suc n
one_more n = omega arith

pub found_at : (p : ℕ) (t : Touch) (height h first last count q : ℕ) (r : Range) → IsLevelOf p t height h r.size first last count
    → q * r.size ≡ r.offset → first ≤ q → q ≤ last
    → slice_get (levels_of p t (height + 1)) (length (levels_of p t (height + 1)) - count + (q - first)) ≡ Some r
found_at p t height h first last count q r is begin from to =
    let all : List Range = levels_of p t (suc height) in
    let upto : count ≡ length (levels_of p t (suc h)) = is.count ∙ ap (λ n. length (levels_of p t n)) (one_more h) in
    let rise : length (levels_of p t (suc h)) ≤ length all = count_rises p t (suc h) (suc height) (omega (arith, is.low)) in
    let j : ℕ = q - first in
    let i : ℕ = length all - count + j in
    let range : r ≡ tree_range p h q = range_is r (q * (p * 2 ^ h)) (p * 2 ^ h) (sym begin ∙ ap (λ n. q * n) is.size) is.size in
    let begins : q ≡ t.first / 2 ^ h + j = omega (arith, is.first) in
    let ends : q ≤ t.last / 2 ^ h = omega (arith, is.last) in
    let few : j < length (levels_of p t (suc h)) = omega (arith, count-suc p t h) in
    let at : get_or all i r ≡ r = at_level p t height h q j i r is.low range begins ends (omega arith) in
    let all_is : levels_of p t (height + 1) ≡ all = ap (levels_of p t) (one_more height) in
    rw all_is (slice_get-get_or all i r (omega arith) ∙ ap Some at)

-- a range of the row is of one of its heights, and its number is among those of the touched pages
pub in_row : (p : ℕ) (t : Touch) (height : ℕ) (r : Range) → 1 ≤ p → Contains (levels_of p t (height + 1)) r
    → (h : ℕ) × (q : ℕ) × (h ≤ height) × (r ≡ tree_range p h q) × (t.first / 2 ^ h ≤ q) × (q ≤ t.last / 2 ^ h)
in_row p t height r pos c =
    let C : ℕ → Type 0 = λ n. Contains (levels_of p t n) r in
    let d = from_levels p t (suc height) r pos (subst C (one_more height) c) in
    let m = (met_by_pages p t d.0 d.1 pos).1 d.3 in
    (d.0, d.1, omega (arith, d.2), d.4, m.0, m.1)

pub none_of_size : (p : ℕ) (t : Touch) (height : ℕ) (r : Range) → 1 ≤ p → NoLevelHas p height r.size → ¬ Contains (levels_of p t (height + 1)) r
none_of_size p t height r pos none c = let d = in_row p t height r pos c in none d.0 d.2 (ap (λ (x : Range). x.size) d.3)

-- of a size that is one height's, only that height has ranges
pub none_at : (p : ℕ) (t : Touch) (height h first last count q : ℕ) (r : Range) → 1 ≤ p → IsLevelOf p t height h r.size first last count → q ≡ r.offset / r.size
    → (q * r.size ≡ r.offset → first ≤ q → q ≤ last → ⊥) → ¬ Contains (levels_of p t (height + 1)) r
none_at p t height h first last count q r pos is number other c =
    let d = in_row p t height r pos c in
    let size : p * 2 ^ h ≡ p * 2 ^ d.0 = sym is.size ∙ ap (λ (x : Range). x.size) d.3 in
    let same : d.0 ≡ h = (let a : d.0 ≤ h = powers p d.0 h pos (omega arith) in let b : h ≤ d.0 = powers p h d.0 pos (omega arith) in omega arith) in
    let some : 1 ≤ r.size = omega (arith, is.size, mul-le 1 1 p (2 ^ h) pos (pow_pos h)) in
    let offset : r.offset ≡ d.1 * r.size = ap (λ (x : Range). x.offset) d.3 ∙ ap (λ n. d.1 * n) (sym (ap (λ (x : Range). x.size) d.3)) in
    let q_is : q ≡ d.1 = number ∙ ap (λ n. n / r.size) offset ∙ mul-div_cancel d.1 some in
    other (ap (λ n. n * r.size) q_is ∙ sym offset)
    (let e : t.first / 2 ^ d.0 ≤ d.1 = d.4 in let f : t.first / 2 ^ h ≤ d.1 = rw same at e in omega (arith, is.first))
    (let e : d.1 ≤ t.last / 2 ^ d.0 = d.5 in let f : d.1 ≤ t.last / 2 ^ h = rw same at e in omega (arith, is.last))

-- ---- the way up to a height
-- the code has come to a level: all levels below have narrower ranges than those of so many bytes
pub record Reached (p : ℕ) (t : Touch) (height bytes level wide from to upto : ℕ) : Type 0 where
  pub low : level ≤ height
  pub width : wide ≡ p * 2 ^ level
  pub first : from ≡ t.first / 2 ^ level
  pub last : to ≡ t.last / 2 ^ level
  pub count : upto ≡ length (levels_of p t (level + 1))
  pub narrower : (k : ℕ) → k < level → p * 2 ^ k < bytes

pub reached_first : (p : ℕ) (t : Touch) (height bytes : ℕ) → t.first ≤ t.last → Reached p t height bytes 0 p t.first t.last (t.last - t.first + 1)
reached_first p t height bytes ordered = record {
  low = omega arith;
  width = omega arith;
  first = omega arith;
  last = omega arith;
  count = omega (arith, count-suc p t 0, count-none p t);
  narrower = λ k lt. absurd (omega arith);
}

half : (a h : ℕ) → a / 2 ^ h / 2 ≡ a / 2 ^ (h + 1)
half a h = div-div-eq-div-mul a (2 ^ h) 2 ∙ ap (λ n. a / n) (sym (pow-suc 2 h) ∙ ap (λ n. 2 ^ n) (sym (one_more h)))

pub reached_next : (p : ℕ) (t : Touch) (height bytes level wide from to upto : ℕ) → t.first ≤ t.last → level < height → wide < bytes
    → Reached p t height bytes level wide from to upto
    → Reached p t height bytes (level + 1) (wide * 2) (from / 2) (to / 2) (upto + (to / 2 - from / 2 + 1))
reached_next p t height bytes level wide from to upto ordered lt narrow r =
    let pages : 0 < 2 ^ (level + 1) = pow_pos (level + 1) in
    let first : from / 2 ≡ t.first / 2 ^ (level + 1) = ap (λ n. n / 2) r.first ∙ half t.first level in
    let last : to / 2 ≡ t.last / 2 ^ (level + 1) = ap (λ n. n / 2) r.last ∙ half t.last level in
    let rise : t.first / 2 ^ (level + 1) ≤ t.last / 2 ^ (level + 1) = pages_rise (2 ^ (level + 1)) t.first t.last pages ordered in
    let power : 2 ^ (level + 1) ≡ 2 ^ level * 2 = ap (λ n. 2 ^ n) (one_more level) ∙ pow-suc 2 level in
    record {
      low = omega arith;
      width = ap (λ n. n * 2) r.width ∙ omega arith ∙ ap (λ n. p * n) (sym power);
      first = first;
      last = last;
      count =
          let e : length (levels_of p t (level + 1 + 1)) ≡ t.last / 2 ^ (level + 1) + 1 - t.first / 2 ^ (level + 1) + length (levels_of p t (level + 1)) =
          ap (λ n. length (levels_of p t n)) (one_more (level + 1)) ∙ count-suc p t (level + 1) in
          omega (arith, r.count);
      narrower = λ k below. elim (cases_lt k level) [
        | inl less ↦ r.narrower k less
        | inr same ↦ let e : k ≡ level = omega arith in rw e (omega (arith, r.width))
      ];
    }

-- what the numbers are at most
pub reached_fits : (p : ℕ) (t : Touch) (height bytes level wide from to upto : ℕ) → 1 ≤ p → p ≤ 1048576 → height ≤ 38 → t.first ≤ t.last → t.last * p ≤ 2 ^ 40
    → Reached p t height bytes level wide from to upto
    → (wide ≤ 2 ^ 58) × (from ≤ to) × (to ≤ 2 ^ 40) × (upto ≤ 2 ^ 42) × (from * wide ≤ 2 ^ 40)
reached_fits p t height bytes level wide from to upto pos page few ordered fits r =
    let pages : 0 < 2 ^ level = pow_pos level in
    let rise : t.first / 2 ^ level ≤ t.last / 2 ^ level = pages_rise (2 ^ level) t.first t.last pages ordered in
    let end : t.last ≤ 2 ^ 40 = let e : t.last * 1 ≤ t.last * p = mul-le t.last 1 t.last p (omega arith) pos in omega arith in
    let whole : t.last / 2 ^ level ≤ t.last = omega (arith, div-mul-le_self t.last (2 ^ level), mul-le (t.last / 2 ^ level) 1 (t.last / 2 ^ level) (2 ^ level) (omega arith) pages) in
    let several : length (levels_of p t (level + 1)) ≤ 2 * (t.last + 1 - t.first) + 2 * level = rw (one_more level) (levels_are_few p level t ordered) in
    let begin : t.first / 2 ^ level * (p * 2 ^ level) ≤ 2 ^ 40 =
    (let a : t.first / 2 ^ level * 2 ^ level ≤ t.first = div-mul-le_self t.first (2 ^ level) in
    let b : t.first / 2 ^ level * 2 ^ level * p ≤ t.last * p = mul-le (t.first / 2 ^ level * 2 ^ level) p t.last p (omega arith) (omega arith) in
    omega arith) in (
      omega (arith, r.width, size_fits p level page (omega (arith, r.low))),
      omega (arith, r.first, r.last),
      omega (arith, r.last),
      omega (arith, r.count, r.low),
      rw (r.first, r.width) begin,
    )

-- from a level on where the touched pages lie in one range, each level has one range more
count-alone : (p : ℕ) (t : Touch) (level rest : ℕ) → t.first / 2 ^ level ≡ t.last / 2 ^ level
    → length (levels_of p t (level + rest + 1)) ≡ length (levels_of p t (level + 1)) + rest
count-alone p t level zero one = let e : level + 0 + 1 ≡ level + 1 = omega arith in rw e (omega arith)
count-alone p t level (suc rest) one =
    let n : ℕ = level + suc rest in
    let same : t.first / 2 ^ n ≡ t.last / 2 ^ n = sym (shr-shr t.first level (suc rest)) ∙ ap (λ x. x / 2 ^ suc rest) one ∙ shr-shr t.last level (suc rest) in
    let below : length (levels_of p t n) ≡ length (levels_of p t (level + rest + 1)) = ap (λ k. length (levels_of p t k)) (let e : n ≡ level + rest + 1 = omega arith in e) in
    ap (λ k. length (levels_of p t k)) (one_more n) ∙ omega (arith, count-suc p t n, same, below, count-alone p t level rest one)

wider : (p level n : ℕ) → p * 2 ^ level * 2 ^ n ≡ p * 2 ^ (level + n)
wider p level n = omega (arith, ap (λ k. p * k) (pow-add 2 level n))

-- the level that is `rest` above one that the code has come to, where there are no more levels between or each of them has one range
pub reached_level : (p : ℕ) (t : Touch) (height bytes level wide from to upto rest : ℕ) → 1 ≤ p → Reached p t height bytes level wide from to upto
    → bytes ≡ wide * 2 ^ rest → level + rest ≤ height → (from ≡ to) ⊎ (bytes ≤ wide) ⊎ (height ≤ level)
    → IsLevelOf p t height (level + rest) bytes (from / 2 ^ rest) (to / 2 ^ rest) (upto + rest)
reached_level p t height bytes level wide from to upto rest pos r is low end =
    let size : bytes ≡ p * 2 ^ (level + rest) = is ∙ ap (λ n. n * 2 ^ rest) r.width ∙ wider p level rest in
    let none : rest ≡ 0 → upto + rest ≡ length (levels_of p t (level + rest + 1)) =
    λ z. rw z (omega (arith, r.count, ap (λ k. length (levels_of p t k)) (let e : level + 0 + 1 ≡ level + 1 = omega arith in e))) in
    record {
      low = low;
      size = size;
      first = ap (λ n. n / 2 ^ rest) r.first ∙ shr-shr t.first level rest;
      last = ap (λ n. n / 2 ^ rest) r.last ∙ shr-shr t.last level rest;
      count = elim end [
        | inl one ↦ omega (arith, r.count, count-alone p t level rest (sym r.first ∙ one ∙ r.last))
        | inr (inl narrow) ↦ none (let e : level + rest ≤ level = powers p (level + rest) level pos (omega (arith, r.width)) in omega arith)
        | inr (inr top) ↦ none (omega arith)
      ];
    }

-- the level itself
pub reached_itself : (p : ℕ) (t : Touch) (height bytes level wide from to upto : ℕ) → Reached p t height bytes level wide from to upto → wide ≡ bytes
    → IsLevelOf p t height level bytes from to upto
reached_itself p t height bytes level wide from to upto r same = record {
  low = r.low;
  size = sym same ∙ r.width;
  first = r.first;
  last = r.last;
  count = r.count;
}

-- no width above leads to so many bytes
pub reached_none : (p : ℕ) (t : Touch) (height bytes level wide from to upto : ℕ) → Reached p t height bytes level wide from to upto
    → ((n : ℕ) → ¬ (bytes ≡ wide * 2 ^ n)) → NoLevelHas p height bytes
reached_none p t height bytes level wide from to upto r other h low size =
    elim (cases_lt h level) [
      | inl below ↦ absurd (omega (arith, r.narrower h below))
      | inr ge ↦
          let e : level + (h - level) ≡ h = omega arith in
          other (h - level) (size ∙ ap (λ n. p * 2 ^ n) (sym e) ∙ sym (wider p level (h - level)) ∙ ap (λ n. n * 2 ^ (h - level)) (sym r.width))
    ]

-- only a height above the tree's has so many bytes
pub reached_past : (p : ℕ) (t : Touch) (height bytes level wide from to upto rest : ℕ) → 1 ≤ p → Reached p t height bytes level wide from to upto
    → bytes ≡ wide * 2 ^ rest → height < level + rest → NoLevelHas p height bytes
reached_past p t height bytes level wide from to upto rest pos r is past h low size =
    let same : p * 2 ^ (level + rest) ≡ p * 2 ^ h = sym (wider p level rest) ∙ ap (λ n. n * 2 ^ rest) (sym r.width) ∙ sym is ∙ size in
    absurd (let e : level + rest ≤ h = powers p (level + rest) h pos (omega arith) in omega arith)

-- the first range of a level comes after those of the levels above
pub first_found : (p : ℕ) (t : Touch) (height h from to upto all : ℕ) (r : Range) → t.first ≤ t.last → IsLevelOf p t height h r.size from to upto
    → all ≡ length (levels_of p t (height + 1)) → from * r.size ≡ r.offset → slice_get (levels_of p t (height + 1)) (all - upto) ≡ Some r
first_found p t height h from to upto all r ordered is count begin =
    let pages : 0 < 2 ^ h = pow_pos h in
    let rise : from ≤ to = omega (arith, is.first, is.last, pages_rise (2 ^ h) t.first t.last pages ordered) in
    let same : all - upto ≡ length (levels_of p t (height + 1)) - upto + (from - from) = omega (arith, count) in
    ap (slice_get (levels_of p t (height + 1))) same ∙ found_at p t height h from to upto from r is begin (omega arith) rise

-- a level's ranges are of a power of two of bytes
pub level_power : (p : ℕ) (t : Touch) (height h bytes from to upto : ℕ) → IsPageSize p → IsLevelOf p t height h bytes from to upto → (i : ℕ) × (bytes ≡ 2 ^ i)
level_power p t height h bytes from to upto page is = (page.0 + h, is.size ∙ ap (λ n. n * 2 ^ h) page.1 ∙ sym (pow-add 2 page.0 h))

pub level_fits : (p : ℕ) (t : Touch) (height h bytes from to upto : ℕ) → 1 ≤ p → t.first ≤ t.last → t.last * p ≤ 2 ^ 40 → IsLevelOf p t height h bytes from to upto
    → (from * bytes ≤ 2 ^ 40) × (upto ≤ length (levels_of p t (height + 1))) × (to + 1 - from ≤ upto)
level_fits p t height h bytes from to upto pos ordered fits is =
    let a : t.first / 2 ^ h * 2 ^ h ≤ t.first = div-mul-le_self t.first (2 ^ h) in
    let b : t.first / 2 ^ h * 2 ^ h * p ≤ t.last * p = mul-le (t.first / 2 ^ h * 2 ^ h) p t.last p (omega arith) (omega arith) in
    let begin : t.first / 2 ^ h * (p * 2 ^ h) ≤ 2 ^ 40 = omega arith in
    let own : length (levels_of p t (h + 1)) ≡ t.last / 2 ^ h + 1 - t.first / 2 ^ h + length (levels_of p t h) = ap (λ n. length (levels_of p t n)) (one_more h) ∙ count-suc p t h in
    (rw (is.first, is.size) begin, rw is.count (count_rises p t (h + 1) (height + 1) (omega (arith, is.low))), omega (arith, is.first, is.last, is.count))
