-- The levels of a row, as they are written.
use Rattle.std.proofs.Common.{◌≡◌, ℕ, ◌+◌, ◌-◌, ◌*◌, ◌/◌, ◌^◌, ◌<◌, ◌≤◌, zero, suc, List, [], ◌∷◌, ◌++◌, length, map, arith, refl, ap, sym, subst, ◌∙◌, append_assoc, append-nil}
use Rattle.std.specs.List.{range_with_len}
use Rattle.std.proofs.lemmas.Nat.{mul-le, pow_pos}
use Rattle.std.proofs.lemmas.List.FromFn.{map-range_with_len_more}
use Rattle.std.proofs.Math.Nat.{pow-le-pow_right}
use Rattle.tree_geom.specs.declared.range.Range.{Range}
use Rattle.tree_geom.specs.declared.touch.Touch.{Touch}
use Rattle.std.specs.Prelude.{slice_index_or}
use Rattle.tree_geom.specs.Geometry.{tree_range, height_of, no_touch}
use Rattle.range_log.specs.Log.{touch_at, size_at}
use Rattle.range_log.specs.Extents.{IsLog}
use Rattle.range_log.specs.Rows.{level_of, levels_of, row_keys_of}
use Rattle.range_log.specs.Laws.{Grown}
use Rattle.range_log.proofs.Grown.{grown_updates, pages_rise}

pub power_fits : (h : ℕ) → h ≤ 38 → 2 ^ h ≤ 2 ^ 38
power_fits h le = let two : 0 < 2 = omega arith in pow-le-pow_right two le

pub size_fits : (p h : ℕ) → p ≤ 1048576 → h ≤ 38 → p * 2 ^ h ≤ 2 ^ 58
size_fits p h page le = let e : p * 2 ^ h ≤ 1048576 * 2 ^ 38 = mul-le p (2 ^ h) 1048576 (2 ^ 38) page (power_fits h le) in omega arith

-- a range that begins at or before a page's range
pub begin_fits : (p h q last : ℕ) → q < last / 2 ^ h + 1 → q * (p * 2 ^ h) ≤ last * p
begin_fits p h q last lt =
    let pos : 0 < 2 ^ h = pow_pos h in
    let a : q * 2 ^ h ≤ last / 2 ^ h * 2 ^ h = mul-le q (2 ^ h) (last / 2 ^ h) (2 ^ h) (omega arith) (omega arith) in
    let b : q * 2 ^ h ≤ last = omega arith in
    let c : q * 2 ^ h * p ≤ last * p = mul-le (q * 2 ^ h) p last p b (omega arith) in
    omega arith

-- one more range of a level
pub level_more : (f : ℕ → Range) (all old now : List Range) (a q : ℕ) (r : Range) → a ≤ q → old ≡ all ++ map f (range_with_len a (q - a)) → now ≡ old ++ r ∷ [] → r ≡ f q
    → now ≡ all ++ map f (range_with_len a (q + 1 - a))
level_more f all old now a q r le so_far more is =
    let n : ℕ = q - a in
    let e : q + 1 - a ≡ n + 1 = omega arith in
    more
    ∙ ap (λ l. l ++ r ∷ []) so_far
    ∙ append_assoc all (map f (range_with_len a n)) (r ∷ [])
    ∙ ap (λ x. all ++ (map f (range_with_len a n) ++ x ∷ [])) is
    ∙ ap (λ l. all ++ l) (sym (map-range_with_len_more f a n q (omega arith)))
    ∙ ap (λ k. all ++ map f (range_with_len a k)) (sym e)

pub level_is : (p : ℕ) (t : Touch) (h n : ℕ) → n ≡ t.last / 2 ^ h + 1 - t.first / 2 ^ h → level_of p t h ≡ map (λ q. tree_range p h q) (range_with_len (t.first / 2 ^ h) n)
unfolding level_of
level_is p t h n e = rw e

pub no_levels : (p : ℕ) (t : Touch) → levels_of p t 0 ≡ []
unfolding levels_of
no_levels p t = refl

pub levels_next : (p : ℕ) (t : Touch) (h : ℕ) → levels_of p t (h + 1) ≡ level_of p t h ++ levels_of p t h
unfolding levels_of
levels_next p t h = let e : h + 1 ≡ suc h = omega arith in rw e refl

-- one more level of a row, from the largest ranges down
pub level_added : (p : ℕ) (t : Touch) (level : ℕ) (all keys now : List Range) → 1 ≤ level → keys ++ levels_of p t level ≡ all → now ≡ keys ++ level_of p t (level - 1)
    → now ++ levels_of p t (level - 1) ≡ all
level_added p t level all keys now some so_far more =
    let e : level - 1 + 1 ≡ level = omega arith in
    ap (λ l. l ++ levels_of p t (level - 1)) more
    ∙ append_assoc keys (level_of p t (level - 1)) (levels_of p t (level - 1))
    ∙ ap (λ l. keys ++ l) (sym (levels_next p t (level - 1)) ∙ ap (levels_of p t) e)
    ∙ so_far

pub levels_done : (p : ℕ) (t : Touch) (level : ℕ) (all keys : List Range) → level ≡ 0 → keys ++ levels_of p t level ≡ all → keys ≡ all
levels_done p t level all keys e so_far = sym (append-nil keys) ∙ ap (λ l. keys ++ l) (sym (ap (levels_of p t) e ∙ no_levels p t)) ∙ so_far

-- what is known of a touch in a log
pub touch_fits : (p : ℕ) (log : List Touch) (k : ℕ) → 1 ≤ p → 1 ≤ k → k ≤ length log → IsLog p log
    → ((touch_at log k).first ≤ (touch_at log k).last) × ((touch_at log k).last * p < size_at log k)
touch_fits p log zero pos some in_log is = absurd (omega arith)
touch_fits p log (suc k) pos some in_log is =
    let P : List Touch → Type 0 = λ l. Grown p l in
    let g : Grown p log = subst P (sym is.2) (grown_updates p is.0 pos is.1) in
    (g.ordered k in_log, g.ends k in_log)

pub row_keys_are : (p : ℕ) (log : List Touch) (k h : ℕ) → h ≡ height_of p (size_at log k) → row_keys_of p log k ≡ levels_of p (touch_at log k) (h + 1)
unfolding row_keys_of
row_keys_are p log k h e = let f : h + 1 ≡ suc h = omega arith in rw (f, ← e) refl

-- a version's touch, as the code reads it
pub touch_read : (log : List Touch) (k : ℕ) → 1 ≤ k → slice_index_or log (k - 1) no_touch ≡ touch_at log k
touch_read log zero some = absurd (omega arith)
touch_read log (suc k) some = let e : suc k - 1 ≡ k = omega arith in rw e

-- where a level's loop ends
pub level_ends : (first last pages h q : ℕ) → pages ≡ 2 ^ h → first ≤ last → last / pages + 1 ≤ q → (first / pages ≤ last / pages + 1 → q ≤ last / pages + 1)
    → q - first / 2 ^ h ≡ last / 2 ^ h + 1 - first / 2 ^ h
level_ends first last pages h q e ordered past before =
    let pos : 1 ≤ pages = omega (arith, pow_pos h) in
    let rise : first / pages ≤ last / pages = pages_rise pages first last pos ordered in
    rw (← e) (omega (arith, before (omega arith)))
