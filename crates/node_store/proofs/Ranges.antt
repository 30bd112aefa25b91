-- The ranges of a row, whatever the size of its pages.
use Rattle.std.proofs.Common.{◌≡◌, ◌⊎◌, ℕ, ◌+◌, ◌-◌, ◌*◌, ◌/◌, ◌^◌, ◌<◌, ◌≤◌, zero, suc, List, length, map, arith, inl, inr, refl, ap, sym, subst, ◌∙◌}
use Rattle.std.specs.Prelude.{Some, slice_get}
use Rattle.std.specs.List.{zip}
use Rattle.std.proofs.lemmas.Nat.{pow_below, pow-add}
use Rattle.std.proofs.lemmas.Option.{same_Some}
use Rattle.tree_geom.specs.declared.range.Range.{Range}
use Rattle.tree_geom.specs.declared.touch.Touch.{Touch}
use Rattle.tree_geom.specs.declared.node.Node.{Node}
use Rattle.tree_geom.specs.Geometry.{tree_range}
use Rattle.range_log.specs.Rows.{levels_of}
use Rattle.range_log.specs.Positions.{IsLevelOf}
use Rattle.range_log.proofs.Positions.{Reached, reached_first, reached_next, reached_fits, reached_level, reached_itself, level_fits, first_found, count-suc, count-none, count_rises}
use Rattle.node_store.proofs.Zipped.{zip_firsts}

-- the ranges that are asked for are those that the row has
pub same_levels : (p q : ℕ) (t u : Touch) (h k : ℕ) → p ≡ q → t ≡ u → h ≡ k → levels_of p t (h + 1) ≡ levels_of q u (k + 1)
same_levels p q t u h k size touch height =
    ap (λ n. levels_of n t (h + 1)) size ∙ ap (λ x. levels_of q x (h + 1)) touch ∙ ap (λ n. levels_of q u (n + 1)) height

-- ---- over pages of any size
-- there are as many
pub as_many : (p q : ℕ) (t : Touch) (h : ℕ) → length (levels_of p t h) ≡ length (levels_of q t h)
as_many p q t zero = count-none p t ∙ sym (count-none q t)
as_many p q t (suc h) = count-suc p t h ∙ ap (λ n. t.last / 2 ^ h + 1 - t.first / 2 ^ h + n) (as_many p q t h) ∙ sym (count-suc q t h)

-- the first page that is touched stands where the pages begin
first_page : (p : ℕ) (t : Touch) (h : ℕ) → t.first ≤ t.last
    → slice_get (levels_of p t (h + 1)) (length (levels_of p t (h + 1)) - (t.last - t.first + 1)) ≡ Some (tree_range p 0 t.first)
first_page p t h ordered =
    let level : IsLevelOf p t h 0 (p * 2 ^ 0) t.first t.last (t.last - t.first + 1) =
    reached_itself p t h (p * 2 ^ 0) 0 p t.first t.last (t.last - t.first + 1) (reached_first p t h (p * 2 ^ 0) ordered) (omega arith) in
    first_found p t h 0 t.first t.last (t.last - t.first + 1) (length (levels_of p t (h + 1))) (tree_range p 0 t.first) ordered level refl refl

-- so the ranges tell the size of a page
same_page_size : (p q : ℕ) (t : Touch) (h k : ℕ) → t.first ≤ t.last → levels_of p t h ≡ levels_of q t (k + 1) → p ≡ q
same_page_size p q t zero k ordered same =
    let rise : length (levels_of q t 1) ≤ length (levels_of q t (k + 1)) = count_rises q t 1 (k + 1) (omega arith) in
    absurd (omega (arith, ap length same, count-none p t, count-suc q t 0, count-none q t))
same_page_size p q t (suc h) k ordered same =
    let e : h + 1 ≡ suc h = omega arith in
    let F : List Range → Type 0 = λ l. slice_get l (length l - (t.last - t.first + 1)) ≡ Some (tree_range p 0 t.first) in
    let first : F (levels_of q t (k + 1)) = subst F (ap (levels_of p t) e ∙ same) (first_page p t h ordered) in
    let range : tree_range q 0 t.first ≡ tree_range p 0 t.first = same_Some (tree_range q 0 t.first) (tree_range p 0 t.first) (sym (first_page q t k ordered) ∙ first) in
    let size : q * 2 ^ 0 ≡ p * 2 ^ 0 = ap (λ (r : Range). r.size) range in
    omega arith

-- the size of a page under which a row's ranges are told is the row's own
pub own_size : (p q : ℕ) (t : Touch) (h k : ℕ) (nodes : List Node) → t.first ≤ t.last → length nodes ≡ length (levels_of q t (k + 1))
    → map (λ (pair : Range × Node). pair.0) (zip (levels_of q t (k + 1)) nodes) ≡ levels_of p t h → p ≡ q
own_size p q t h k nodes ordered whole told = same_page_size p q t h k ordered (sym told ∙ zip_firsts (levels_of q t (k + 1)) nodes whole)

-- ---- the way up to a height
-- the code has come to a level on its way to a height: whatever the size of a page, so that here a page is of one byte
pub record Climbed (t : Touch) (height level from to upto : ℕ) : Type 0 where
  pub way : Reached 1 t height (2 ^ height) level (2 ^ level) from to upto
  pub rise : from ≤ to
  pub end : to ≤ 2 ^ 40
  pub few : upto ≤ 2 ^ 42

climbed : (t : Touch) (height level from to upto : ℕ) → height ≤ 38 → t.first ≤ t.last → t.last ≤ 2 ^ 40
    → Reached 1 t height (2 ^ height) level (2 ^ level) from to upto → Climbed t height level from to upto
climbed t height level from to upto low ordered fits r =
    let f = reached_fits 1 t height (2 ^ height) level (2 ^ level) from to upto (omega arith) (omega arith) low ordered (omega arith) r in
    record { way = r; rise = f.1; end = f.2; few = f.3 }

pub climbed_first : (t : Touch) (height : ℕ) → height ≤ 38 → t.first ≤ t.last → t.last ≤ 2 ^ 40 → Climbed t height 0 t.first t.last (t.last - t.first + 1)
climbed_first t height low ordered fits =
    climbed t height 0 t.first t.last (t.last - t.first + 1) low ordered fits (reached_first 1 t height (2 ^ height) ordered)

pub climbed_next : (t : Touch) (height level from to upto : ℕ) → height ≤ 38 → t.first ≤ t.last → t.last ≤ 2 ^ 40 → level < height
    → Climbed t height level from to upto → Climbed t height (level + 1) (from / 2) (to / 2) (upto + (to / 2 - from / 2 + 1))
climbed_next t height level from to upto low ordered fits below c =
    let R : ℕ → Type 0 = λ width. Reached 1 t height (2 ^ height) (level + 1) width (from / 2) (to / 2) (upto + (to / 2 - from / 2 + 1)) in
    climbed t height (level + 1) (from / 2) (to / 2) (upto + (to / 2 - from / 2 + 1)) low ordered fits
    (subst R (sym (pow-add 2 level 1)) (reached_next 1 t height (2 ^ height) level (2 ^ level) from to upto ordered below (pow_below level height below) c.way))

-- the level of the height, above one that the code has come to, where there are no more levels between or each of them has one range
pub level_climbed : (p : ℕ) (t : Touch) (height level from to upto : ℕ) → Climbed t height level from to upto → (from ≡ to) ⊎ (height ≤ level)
    → IsLevelOf p t height height (p * 2 ^ height) (from / 2 ^ (height - level)) (to / 2 ^ (height - level)) (upto + (height - level))
level_climbed p t height level from to upto c end =
    let rest : ℕ = height - level in
    let top : level + rest ≡ height = omega (arith, c.way.low) in
    let is = reached_level 1 t height (2 ^ height) level (2 ^ level) from to upto rest (omega arith) c.way (ap (λ n. 2 ^ n) (sym top) ∙ pow-add 2 level rest) (omega arith)
    (elim end [ inl one ↦ inl one | inr high ↦ inr (inr high) ]) in
    record {
      low = omega arith;
      size = refl;
      first = is.first ∙ ap (λ n. t.first / 2 ^ n) top;
      last = is.last ∙ ap (λ n. t.last / 2 ^ n) top;
      count = is.count ∙ ap (λ n. length (levels_of 1 t (n + 1))) top ∙ as_many 1 p t (height + 1);
    }

-- it is one of a higher tree too
pub level_within : (p : ℕ) (t : Touch) (top height bytes from to upto : ℕ) → height ≤ top → IsLevelOf p t height height bytes from to upto
    → IsLevelOf p t top height bytes from to upto
level_within p t top height bytes from to upto low is = record { low = low; size = is.size; first = is.first; last = is.last; count = is.count }

-- a row has as many ranges as one of its levels and those below have, and more than of that level alone
pub level_counts : (t : Touch) (top height from to upto count : ℕ) → t.first ≤ t.last → t.last ≤ 2 ^ 40 → height ≤ top
    → IsLevelOf 1 t height height (1 * 2 ^ height) from to upto → count ≡ length (levels_of 1 t (top + 1)) → (upto ≤ count) × (to + 1 - from ≤ upto)
level_counts t top height from to upto count ordered fits low is all =
    let f = level_fits 1 t top height (1 * 2 ^ height) from to upto (omega arith) ordered (omega arith) (level_within 1 t top height (1 * 2 ^ height) from to upto low is) in
    (omega (arith, f.1), f.2)
