-- How many backs and ranges there are.
use Rattle.std.proofs.Common.{◌≡◌, ℕ, ◌+◌, ◌-◌, ◌*◌, ◌/◌, ◌^◌, ◌≤◌, zero, suc, List, length, arith, inl, inr, refl, ap, sym, subst, ◌∙◌, true, false, length-append}
use Rattle.std.specs.Prelude.{◌==◌}
use Rattle.std.proofs.lemmas.Bool.{cases_lt}
use Rattle.std.proofs.lemmas.Bool.Decides.{nat_tests}
use Rattle.std.proofs.lemmas.List.FromFn.{length-map-range_with_len}
use Rattle.std.proofs.Math.Nat.{pow-succ', div-div-eq-div-mul}
use Rattle.tree_geom.specs.declared.range.Range.{Range}
use Rattle.tree_geom.specs.declared.touch.Touch.{Touch}
use Rattle.tree_geom.specs.Geometry.{page_range, tree_range}
use Rattle.range_log.specs.Log.{newest_of, IsNewest}
use Rattle.range_log.specs.Extents.{Extent, touches}
use Rattle.range_log.specs.Rows.{back_of, level_of, levels_of}
use Rattle.range_log.specs.Visits.{backs_by, backs_of, backs_from}
use Rattle.range_log.specs.Depths.{fold_number}
use Rattle.range_log.specs.Laws.{BacksStep, LevelsAreFew}
use Rattle.range_log.proofs.Greatest.{newest_is, newest_within, newest_none}
use Rattle.range_log.proofs.Links.{back_cases}

-- ---- backs
pub back_falls : (p : ℕ) (us : List Extent) (j i : ℕ) → back_of p us j i ≤ j - 1
back_falls p us j i =
    elim (back_cases p us j i) [
      | inl none ↦ omega (arith, none)
      | inr led ↦ let is = newest_is p (touches p us) (j - 1) (page_range p i) in omega (arith, led.2, is.upto)
    ]

backs_none : (most p : ℕ) (us : List Extent) (j i : ℕ) → back_of p us j i ≡ 0 → backs_from most fold_number p us j i ≡ 0
unfolding backs_from
backs_none zero p us j i e = refl
backs_none (suc most) p us j i e = let f : (back_of p us j i == 0) ≡ true = grind (arith, nat_tests) in rw (f, backs_from)

backs_some : (most p : ℕ) (us : List Extent) (j i : ℕ) → 1 ≤ back_of p us j i → backs_from (suc most) fold_number p us j i ≡ 1 + backs_from most fold_number p us (back_of p us j i) i
unfolding backs_from
backs_some most p us j i h = let f : (back_of p us j i == 0) ≡ false = grind (arith, nat_tests) in rw (f, backs_from)

-- any fuel from the version on is enough
fuel : (f g p : ℕ) (us : List Extent) (j i : ℕ) → j ≤ f → j ≤ g → backs_from f fold_number p us j i ≡ backs_from g fold_number p us j i
fuel zero g p us j i a b =
    let none : back_of p us j i ≡ 0 = omega (arith, back_falls p us j i) in
    backs_none zero p us j i none ∙ sym (backs_none g p us j i none)
fuel (suc f) zero p us j i a b =
    let none : back_of p us j i ≡ 0 = omega (arith, back_falls p us j i) in
    backs_none (suc f) p us j i none ∙ sym (backs_none zero p us j i none)
fuel (suc f) (suc g) p us j i a b =
    elim (cases_lt 0 (back_of p us j i)) [
      | inl some ↦
          backs_some f p us j i some
          ∙ ap (λ n. 1 + n) (fuel f g p us (back_of p us j i) i (omega (arith, back_falls p us j i)) (omega (arith, back_falls p us j i)))
          ∙ sym (backs_some g p us j i some)
      | inr last ↦
          let none : back_of p us j i ≡ 0 = omega arith in
          backs_none (suc f) p us j i none ∙ sym (backs_none (suc g) p us j i none)
    ]

-- a version that touches a range is the newest one up to itself
newest_itself : (p : ℕ) (log : List Touch) (k : ℕ) (r : Range) → newest_of p log (newest_of p log k r) r ≡ newest_of p log k r
newest_itself p log k r = newest_within p log k r r (omega arith, omega arith)

back_itself : (p : ℕ) (us : List Extent) (j i : ℕ) → newest_of p (touches p us) (back_of p us j i) (page_range p i) ≡ back_of p us j i
back_itself p us j i =
    let N : ℕ → Type 0 = λ n. newest_of p (touches p us) n (page_range p i) ≡ n in
    elim (back_cases p us j i) [
      | inl none ↦ subst N (sym none) (newest_none p (touches p us) (page_range p i))
      | inr led ↦ subst N (sym led.2) (newest_itself p (touches p us) (j - 1) (page_range p i))
    ]

backs-of : (p v i : ℕ) (us : List Extent) → backs_of p us v i ≡ backs_from v fold_number p us (newest_of p (touches p us) v (page_range p i)) i
unfolding backs_by
backs-of p v i us = refl

pub backs_step : BacksStep
backs_step p v i us =
    let j : ℕ = newest_of p (touches p us) v (page_range p i) in
    let is : IsNewest p (touches p us) v (page_range p i) j = newest_is p (touches p us) v (page_range p i) in (
      λ none. backs-of p v i us ∙ backs_none v p us j i none,
      λ some.
          let b : ℕ = back_of p us j i in
          backs-of p v i us
          ∙ fuel v (suc b + v) p us j i is.upto (omega (arith, is.upto))
          ∙ (let e : suc b + v ≡ suc (b + v) = omega arith in ap (λ n. backs_from n fold_number p us j i) e)
          ∙ backs_some (b + v) p us j i some
          ∙ ap (λ n. 1 + n)
          (fuel (b + v) b p us b i (omega arith) (omega arith)
          ∙ ap (λ n. backs_from b fold_number p us n i) (sym (back_itself p us j i))
          ∙ sym (backs-of p b i us)),
    )

-- version 0 has none
pub backs_zero : (p : ℕ) (us : List Extent) (i : ℕ) → backs_of p us 0 i ≡ 0
unfolding backs_by backs_from
backs_zero p us i = refl

-- any version from the newest one of the page on has as many as that one
pub backs_above : (p : ℕ) (us : List Extent) (v i : ℕ) → newest_of p (touches p us) (suc v) (page_range p i) ≡ newest_of p (touches p us) v (page_range p i) → backs_of p us (suc v) i ≡ backs_of p us v i
backs_above p us v i same =
    let j : ℕ = newest_of p (touches p us) v (page_range p i) in
    let is : IsNewest p (touches p us) v (page_range p i) j = newest_is p (touches p us) v (page_range p i) in
    backs-of p (suc v) i us
    ∙ ap (λ n. backs_from (suc v) fold_number p us n i) same
    ∙ fuel (suc v) v p us j i (omega (arith, is.upto)) is.upto
    ∙ sym (backs-of p v i us)

pub backs_newest : (p : ℕ) (us : List Extent) (v i : ℕ) → backs_of p us (newest_of p (touches p us) v (page_range p i)) i ≡ backs_of p us v i
backs_newest p us v i =
    let j : ℕ = newest_of p (touches p us) v (page_range p i) in
    let is : IsNewest p (touches p us) v (page_range p i) j = newest_is p (touches p us) v (page_range p i) in
    backs-of p j i us
    ∙ ap (λ n. backs_from j fold_number p us n i) (newest_itself p (touches p us) v (page_range p i))
    ∙ fuel j v p us j i (omega arith) is.upto
    ∙ sym (backs-of p v i us)

-- ---- ranges
in_level : ℕ → ℕ → ℕ → ℕ
in_level a b h = b / 2 ^ h + 1 - a / 2 ^ h

-- those of the heights below h
in_levels : ℕ → ℕ → ℕ → ℕ
in_levels a b zero = 0
in_levels a b (suc h) = in_level a b h + in_levels a b h

length-levels : (p : ℕ) (t : Touch) (h : ℕ) → length (levels_of p t h) ≡ in_levels t.first t.last h
unfolding levels_of level_of in_levels in_level
length-levels p t zero = refl
length-levels p t (suc h) =
    length-append (level_of p t h) (levels_of p t h)
    ∙ ap (λ n. n + length (levels_of p t h)) (length-map-range_with_len (λ q. tree_range p h q) (t.first / 2 ^ h) (t.last / 2 ^ h + 1 - t.first / 2 ^ h))
    ∙ ap (λ n. t.last / 2 ^ h + 1 - t.first / 2 ^ h + n) (length-levels p t h)

halved : (a h : ℕ) → a / 2 ^ suc h ≡ a / 2 / 2 ^ h
halved a h = ap (λ n. a / n) (pow-succ' 2 h) ∙ sym (div-div-eq-div-mul a 2 (2 ^ h))

shift : (a b h : ℕ) → in_levels a b (suc h) ≡ b + 1 - a + in_levels (a / 2) (b / 2) h
unfolding in_levels in_level
shift a b zero = omega arith
shift a b (suc h) = rw (halved a h, halved b h) (omega (arith, shift a b h))

lowest : (a b : ℕ) → in_levels a b 1 ≡ b + 1 - a
unfolding in_levels in_level
lowest a b = omega arith

few : (a b h : ℕ) → a ≤ b → in_levels a b (suc h) ≤ 2 * (b + 1 - a) + 2 * h
few a b zero le = omega (arith, lowest a b)
few a b (suc h) le = let rest : in_levels (a / 2) (b / 2) (suc h) ≤ 2 * (b / 2 + 1 - a / 2) + 2 * h = few (a / 2) (b / 2) h (omega arith) in omega (arith, shift a b (suc h))

pub levels_are_few : LevelsAreFew
levels_are_few p height t le = omega (arith, length-levels p t (suc height), few t.first t.last height le)
